-- What is true at each moment of a replay.
use Rattle.std.proofs.Common.{◌≡◌, ℕ, List, [], ◌∷◌, IsTrue, Option, Some, None, option_map, refl}
use Rattle.std.specs.List.{All, list_all}
use Rattle.std.proofs.lemmas.Bool.{and_parts}
use Rattle.std.proofs.lemmas.List.Elements.{All-nil, All-take}
use Rattle.ov_types.specs.First.{◌<|>◌}
use Rattle.ov_types.specs.declared.packet.Packet.{Packet}
use Rattle.ov_types.proofs.FirstLemmas.{all_cons}
use Rattle.config_types.specs.Form.{has_edit_form}
use Rattle.config_types.specs.Form.{has_config_form}
use Rattle.config_types.specs.declared.edit.Edit.{Edit}
use Rattle.config_check.specs.Checked.{Checked}
use Rattle.config_check.specs.Edits.{edit_fault, edited_config, edited_topology, missing_name}
use Rattle.config_check.specs.Rules.{first_broken}
use Rattle.config_check.specs.declared.edits.EditFault.{EditFault}
use Rattle.config_check.specs.declared.edits.EditFault.TheVariants.{Missing, Rule}
use Rattle.config_check.specs.declared.refusal.Refusal.{Refusal}
use Rattle.config_check.proofs.Edited.{form_is_kept}
use Rattle.schedule_script.specs.declared.edits.TiedFault.{TiedFault}
use Rattle.schedule_script.specs.declared.edits.TiedFault.TheVariants.{Edit as Faulty}
use Rattle.reach_plain.specs.Reachability.{reachability}
use Rattle.flow_state.specs.Steps.{has_step_form}
use Rattle.flow_state.specs.declared.step.FlowStep.{FlowStep}
use Rattle.flow_state.specs.declared.step.FlowStep.TheVariants as Steps
use Rattle.flow_state.specs.declared.flow.Flow.{Flow}
use Rattle.flow_state.specs.Recent.{each_once}
use Rattle.flow_state.specs.Flows.{PermitsOneWay, flow_outcome, flow_use}
use Rattle.flow_state.specs.Laws.{AreAnswered, IsMoment, IsTraced}
use Rattle.flow_state.specs.Replay.{Replay, after_edit, after_step, answer_to, answers, at_start, fault_in, table_of, used}
use Rattle.flow_state.proofs.Back.{passes, stays, stays_delivered, stays_dropped}
use Rattle.flow_state.proofs.Permits.{all_once, use_permitted}
use Rattle.flow_state.proofs.Standing.{stands_iff}

-- an edit with no fault has none before its ties are tried, and what it makes breaks no rule

no_first : {A B : Type 0} (f : A → B) (o : Option A) (other : Option B) → (option_map f o <|> other) ≡ None → (o ≡ None) × (other ≡ None)
no_first f None other h = (refl, h)
no_first f (Some x) other h = absurd (cc)

no_image : {A B : Type 0} (f : A → B) (o : Option A) → option_map f o ≡ None → o ≡ None
no_image f None h = refl
no_image f (Some x) h = absurd (cc)

no_broken : (v : Checked) (e : Edit) → edit_fault v e ≡ None → first_broken (edited_topology e v.topology) (edited_config e v.config) ≡ None
unfolding edit_fault
no_broken v e h =
    no_image (λ (r : Refusal). Rule r) (first_broken (edited_topology e v.topology) (edited_config e v.config))
    (no_first (λ (name : List ℕ). Missing name) (missing_name e v) (option_map (λ (r : Refusal). Rule r) (first_broken (edited_topology e v.topology) (edited_config e v.config))) h).1

stays_valid : (s : Replay) (e : Edit) → fault_in e s ≡ None → first_broken (edited_topology e s.checked.topology) (edited_config e s.checked.config) ≡ None
stays_valid s e h = no_broken s.checked e (no_first (λ (f : EditFault). Faulty f) (edit_fault s.checked e) _ h).0

-- step by step

pub table_permitted : (capacity : ℕ) (s : Replay) → IsMoment s → All (PermitsOneWay s.checked.config) (table_of capacity s)
table_permitted capacity s m =
    All-take (PermitsOneWay s.checked.config) capacity (each_once s.uses) (all_once (PermitsOneWay s.checked.config) s.uses m.permitted)

edit_moment : (s : Replay) (e : Edit) (o : Option TiedFault) → IsTrue (has_edit_form e) → fault_in e s ≡ o → IsMoment s → IsMoment (after_edit e o s)
edit_moment s e None form is m = record {
  form = form_is_kept e s.checked.config form m.form;
  valid = stays_valid s e is;
  permitted = All-nil (PermitsOneWay (edited_config e s.checked.config));
}
edit_moment s e (Some fault) form is m = m

use_moment : (capacity : ℕ) (s : Replay) (p : Packet) (o : Option Flow) → flow_use s.checked.config (table_of capacity s) p ≡ o → IsMoment s → All (PermitsOneWay s.checked.config) (used o s.uses)
unfolding flow_use
use_moment capacity s p None is m = m.permitted
use_moment capacity s p (Some f) is m =
    all_cons (PermitsOneWay s.checked.config) f s.uses
    (use_permitted s.checked.topology s.checked.config m.valid p (table_of capacity s) (reachability s.checked.config p) f (table_permitted capacity s m) refl is)
    m.permitted

step_moment : (capacity : ℕ) (x : FlowStep) (s : Replay) → IsTrue (has_step_form x) → IsMoment s → IsMoment (after_step capacity x s)
unfolding has_step_form
step_moment capacity (Steps.Edit e) s form m = edit_moment s e (fault_in e s) form refl m
step_moment capacity (Steps.Trace p) s form m =
    record { form = m.form; valid = m.valid; permitted = use_moment capacity s p (flow_use s.checked.config (table_of capacity s) p) refl m }

traced : (capacity : ℕ) (s : Replay) (p : Packet) → IsMoment s → IsTraced capacity s p (answer_to capacity (Steps.Trace p) s)
traced capacity s p m =
    let c = s.checked.config in
    let flows = table_of capacity s in
    let all = table_permitted capacity s m in
    record {
      moment = m;
      permitted = all;
      standing = λ f. stands_iff capacity s.uses f;
      outcome = flow_outcome c flows p;
      beside = record {
        delivered = λ number services e. stays_delivered c flows p number services e;
        dropped = λ why h e. stays_dropped c flows p why h e;
        passes = λ rule number services e. passes s.checked.topology c flows p m.form m.valid all rule e number services;
        stays = λ rule e. stays s.checked.topology c flows p m.form m.valid all rule e;
      };
      is = refl;
    }

steps_answered : (capacity : ℕ) (xs : List FlowStep) (s : Replay) → IsTrue (list_all has_step_form xs) → IsMoment s → AreAnswered capacity s xs (answers capacity xs s)
unfolding answers
steps_answered capacity [] s form m = tt
steps_answered capacity (Steps.Edit e ∷ xs) s form m =
    let parts = and_parts (has_step_form (Steps.Edit e)) (list_all has_step_form xs) form in
    (refl, steps_answered capacity xs (after_step capacity (Steps.Edit e) s) parts.1 (step_moment capacity (Steps.Edit e) s parts.0 m))
steps_answered capacity (Steps.Trace p ∷ xs) s form m =
    let parts = and_parts (has_step_form (Steps.Trace p)) (list_all has_step_form xs) form in
    (traced capacity s p m, steps_answered capacity xs (after_step capacity (Steps.Trace p) s) parts.1 (step_moment capacity (Steps.Trace p) s parts.0 m))

pub all_answered : (capacity : ℕ) (v : Checked) (xs : List FlowStep) → IsTrue (has_config_form v.config) → first_broken v.topology v.config ≡ None → IsTrue (list_all has_step_form xs) → AreAnswered capacity (at_start v) xs (answers capacity xs (at_start v))
all_answered capacity v xs form valid steps =
    steps_answered capacity xs (at_start v) steps (record { form = form; valid = valid; permitted = All-nil (PermitsOneWay v.config) })
