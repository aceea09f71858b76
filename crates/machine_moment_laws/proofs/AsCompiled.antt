-- The answers of a schedule are as its configurations compile to, at its settled moments; and settling ends settled.
use Rattle.std.specs.Prelude.{◌≡◌, ◌≢◌, ℕ, zero, suc, List, [], ◌∷◌, map, take, IsTrue, true, cond, is_some}
use Rattle.std.specs.declared.option.Option.{Option}
use Rattle.std.specs.declared.option.Option.TheVariants.{Some, None}
use Rattle.std.specs.List.{list_all, list_any, slice_get}
use Rattle.std.proofs.Common.{refl, sym, ap, subst, ◌∙◌}
use Rattle.std.proofs.lemmas.Bool.{and_from, and_parts, or_left, or_right}
use Rattle.std.proofs.lemmas.Option.{same_Some}
use Rattle.ov_types.specs.First.{same_name}
use Rattle.ov_types.specs.declared.packet.Outcome.{Outcome}
use Rattle.ov_types.specs.declared.packet.Outcome.TheVariants.{Delivered, Dropped}
use Rattle.ov_types.specs.declared.packet.Packet.{Packet}
use Rattle.ov_types.specs.declared.rows.NodeId.{NodeId}
use Rattle.ov_types.specs.declared.rows.NodeRows.{NodeRows}
use Rattle.ov_types.specs.declared.rows.NodeRows.TheVariants as Rows
use Rattle.ov_types.proofs.FirstLemmas.{same_name_self}
use Rattle.config_types.specs.Form.{has_edit_form}
use Rattle.config_types.specs.Form.{has_event_form}
use Rattle.config_types.specs.Form.{has_config_form, has_topology_form}
use Rattle.config_types.specs.declared.edit.Edit.{Edit}
use Rattle.config_types.specs.declared.event.Event.{Event as Written}
use Rattle.config_types.specs.declared.event.Event.TheVariants as written
use Rattle.config_types.specs.declared.topology.Node.{Node}
use Rattle.config_check.specs.Checked.{Checked}
use Rattle.config_check.specs.Edits as edits
use Rattle.config_check.specs.Finding.{node_named}
use Rattle.config_check.specs.declared.edits.EditFault.{EditFault}
use Rattle.config_check.proofs.Edited.{form_is_kept, nodes_form_is_kept}
use Rattle.config_check.proofs.Validity.{form_of}
use Rattle.schedule_script.specs.declared.answer.Answer.{Answer}
use Rattle.schedule_script.specs.declared.answer.Answer.TheVariants.{Idle, Rounds, Shown, Traced}
use Rattle.machine_laws.specs.TransformModel.Compiled.{agent_rows}
use Rattle.machine_laws.specs.TransformModel.Tables.{control_rows}
use Rattle.node_model.specs.Members.{Member}
use Rattle.node_model.proofs.Members.{any_in}
use Rattle.machine_laws.specs.MachineModel.Setup.{Setup, checked, edited_without, moves, opening, remade, renumbered}
use Rattle.machine_laws.specs.MachineModel.Network.{MachineState, start}
use Rattle.machine_laws.specs.MachineModel.Steps.{is_settled, settle}
use Rattle.machine_laws.specs.MachineModel.Events.{MachineEvent, Edits, Show, after, answer_to, edits as edits_of, event_of, is_node, next, run, shown}
use Rattle.machine_laws.proofs.MachineModel.Deeds.{edit_made, setup_kept}
use Rattle.machine_laws.specs.MachineModel.Moments.{EditIsValid, EditsAreValid}
use Rattle.machine_laws.specs.Headline.{IsOfForm, IsWritten}
use Rattle.machine_laws.proofs.Configured.{agents_show_rows, control_nodes_show_tables}
use Rattle.machine_laws.proofs.Delivers.{found, written_delivers}
use Rattle.machine_laws.proofs.Written.{compiled_now, none_broken, written_now, written_settle_settles}
use Rattle.running_nodes.specs.Stands.{message_size, moment}
use Rattle.running_nodes.proofs.Sizes.{positive}
use Rattle.reach_plain.specs.Reachability.{reachability}
use Rattle.reach_plain.proofs.Once.{passed_once}
use Rattle.machine_moment_laws.specs.Compiled.{AnswersCompiled, AreAsCompiled, PassesEachOnce, StandsAt, answers}
use Rattle.machine_moment_laws.specs.Ends.{SettlesAtOnce}

-- ---- no packet is led through a service twice
each_once_as : (x : Setup) → IsWritten x → (p : Packet) (o : Outcome) → reachability x.config p ≡ o → PassesEachOnce o
each_once_as x valid p (Delivered number services) is = passed_once x.topology x.config p number services valid.valid is
each_once_as x valid p (Dropped why) is = tt

pub each_once : (x : Setup) → IsWritten x → (p : Packet) → PassesEachOnce (reachability x.config p)
each_once x valid p = each_once_as x valid p (reachability x.config p) refl

-- ---- the answer of a place is that to its event, at the moment before it
at_place : (es : List Written) (w : MachineState) (place : ℕ) (e : Written) (a : Answer)
    → slice_get es place ≡ Some e → slice_get (run message_size w (map event_of es)) place ≡ Some a
    → a ≡ answer_to (after message_size w (map event_of (take place es))) (event_of e)
at_place [] w place e a is answered = absurd cc
at_place (d ∷ es) w zero e a is answered = sym (same_Some (answer_to w (event_of d)) a answered) ∙ ap (λ x. answer_to w (event_of x)) (same_Some d e is)
at_place (d ∷ es) w (suc place) e a is answered = at_place es (next message_size w (event_of d)) place e a is answered

-- ---- the event of a place leads to the moment behind it
moment_there : (es : List Written) (w : MachineState) (place : ℕ) (e : Written) → slice_get es place ≡ Some e
    → after message_size w (map event_of (take (suc place) es))
    ≡ next message_size (after message_size w (map event_of (take place es))) (event_of e)
moment_there [] w place e is = absurd cc
moment_there (d ∷ es) w zero e is = ap (λ x. next message_size w (event_of x)) (same_Some d e is)
moment_there (d ∷ es) w (suc place) e is = moment_there es (next message_size w (event_of d)) place e is

-- ---- edits of the written form lead to configurations of it
form_of_made : (x : Setup) (d : Edit) → IsTrue (has_edit_form d) → IsOfForm x → edits.edit_fault (checked x) d ≡ None
    → IsOfForm (remade (edits.edited d (checked x)) (renumbered (moves d x.topology) x.numbers))
form_of_made x d form old none = (
  form_of (edits.edited_topology d x.topology) (edits.edited_config d x.config) (nodes_form_is_kept d x.topology form old.0)
      (none_broken x d none),
  form_is_kept d x.config form old.1,
)

form_of_edited : (x : Setup) (d : Edit) (y : Setup) (f : Option EditFault) → edits.edit_fault (checked x) d ≡ f
    → IsTrue (has_edit_form d) → IsOfForm x → edited_without f x d ≡ Some y → IsOfForm y
form_of_edited x d y None none form old is =
    subst IsOfForm (same_Some (remade (edits.edited d (checked x)) (renumbered (moves d x.topology) x.numbers)) y is)
    (form_of_made x d form old none)
form_of_edited x d y (Some f) found form old is = absurd cc

module _ (w : MachineState) (old : IsOfForm w.setup) where
  same_form : (e : MachineEvent) → ((d : Edit) → e ≢ Edits d) → IsOfForm (next message_size w e).setup
  same_form e no_edit = subst IsOfForm (sym (setup_kept message_size w e no_edit)) old

  refused_form : (d : Edit) (f : EditFault) → edits.edit_fault (checked w.setup) d ≡ Some f → IsOfForm (next message_size w (Edits d)).setup
  unfolding next
  refused_form d f is = subst (λ (o : Option EditFault). IsOfForm (edits_of (moves d w.setup.topology) (edited_without o w.setup d) w).setup) (sym is) old

  edit_form : (d : Edit) → IsTrue (has_edit_form d) → IsOfForm (next message_size w (Edits d)).setup
  edit_form d form =
      elim (edits.edit_fault (checked w.setup) d) as (λ f. edits.edit_fault (checked w.setup) d ≡ f → IsOfForm (next message_size w (Edits d)).setup) [
        | None ↦ λ is.
            subst (λ (z : Checked). IsTrue (has_topology_form z.topology) × IsTrue (has_config_form z.config))
            (sym (edit_made message_size w d is)) (form_of_made w.setup d form old is)
        | Some f ↦ λ is. refused_form d f is
      ] refl

  form_kept : (e : Written) → IsTrue (has_event_form e) → IsOfForm (next message_size w (event_of e)).setup
  unfolding has_event_form
  form_kept (written.Edit d) form = edit_form d form
  form_kept (written.Deliver from to n) form = same_form (event_of (written.Deliver from to n)) (λ d i. absurd cc)
  form_kept (written.DeliverOctets from to n) form = same_form (event_of (written.DeliverOctets from to n)) (λ d i. absurd cc)
  form_kept (written.Lose a b) form = same_form (event_of (written.Lose a b)) (λ d i. absurd cc)
  form_kept (written.Connect a b) form = same_form (event_of (written.Connect a b)) (λ d i. absurd cc)
  form_kept (written.Restart name) form = same_form (event_of (written.Restart name)) (λ d i. absurd cc)
  form_kept written.Round form = same_form (event_of written.Round) (λ d i. absurd cc)
  form_kept written.Settle form = same_form (event_of written.Settle) (λ d i. absurd cc)
  form_kept (written.Show name) form = same_form (event_of (written.Show name)) (λ d i. absurd cc)
  form_kept (written.Trace p) form = same_form (event_of (written.Trace p)) (λ d i. absurd cc)
  form_kept (written.Break from to n) form = same_form (event_of (written.Break from to n)) (λ d i. absurd cc)

  edit_of_form : (e : Written) → IsTrue (has_event_form e) → EditIsValid IsOfForm w (event_of e)
  unfolding has_event_form
  edit_of_form (written.Edit d) form = λ y is. form_of_edited w.setup d y (edits.edit_fault (checked w.setup) d) refl form old is
  edit_of_form (written.Deliver from to n) form = tt
  edit_of_form (written.DeliverOctets from to n) form = tt
  edit_of_form (written.Lose a b) form = tt
  edit_of_form (written.Connect a b) form = tt
  edit_of_form (written.Restart name) form = tt
  edit_of_form written.Round form = tt
  edit_of_form written.Settle form = tt
  edit_of_form (written.Show name) form = tt
  edit_of_form (written.Trace p) form = tt
  edit_of_form (written.Break from to n) form = tt

pub edits_of_form : (es : List Written) (w : MachineState) → IsTrue (list_all has_event_form es) → IsOfForm w.setup
    → EditsAreValid message_size IsOfForm w (map event_of es)
edits_of_form [] w forms old = tt
edits_of_form (e ∷ es) w forms old =
    let parts = and_parts (has_event_form e) (list_all has_event_form es) forms in
    (edit_of_form w old e parts.0, edits_of_form es (next message_size w (event_of e)) parts.1 (form_kept w old e parts.0))

pub forms_of_front : (place : ℕ) (es : List Written) → IsTrue (list_all has_event_form es) → IsTrue (list_all has_event_form (take place es))
forms_of_front zero es forms = refl
forms_of_front (suc place) [] forms = refl
forms_of_front (suc place) (e ∷ es) forms =
    let parts = and_parts (has_event_form e) (list_all has_event_form es) forms in
    and_from (has_event_form e) (list_all has_event_form (take place es)) parts.0 (forms_of_front place es parts.1)

-- ---- a moment of any schedule
module _ (x : Checked) (valid : IsWritten (opening x)) (before : List MachineEvent) (asked : EditsAreValid message_size IsOfForm (start x) before) where
  abbrev w : MachineState
  w = after message_size (start x) before

  -- what shows, where a name is a node's
  shown_there : (name : List ℕ) (rows : NodeRows) → is_node w name ≡ true → shown w name ≡ rows → answer_to w (Show name) ≡ Shown rows
  shown_there name rows there is = ap (λ b. cond b (Shown (shown w name)) Idle) there ∙ ap Shown is

  at_control : is_settled w ≡ true → (name : List ℕ) (c : NodeId) → Member c w.setup.topology.controllers → c.name ≡ name
      → answer_to w (Show name) ≡ Shown (Rows.Control (control_rows w.setup.topology w.setup.config))
  at_control settled name c among is =
      subst (λ name. answer_to w (Show name) ≡ Shown (Rows.Control (control_rows w.setup.topology w.setup.config))) is
      (shown_there c.name (Rows.Control (control_rows w.setup.topology w.setup.config))
      (or_left (list_any (λ (d : NodeId). same_name d.name c.name) w.setup.topology.controllers) (is_some (node_named w.setup.topology c.name))
      (any_in (λ (d : NodeId). same_name d.name c.name) c w.setup.topology.controllers among (same_name_self c.name)))
      (control_nodes_show_tables message_size positive x valid before asked settled c among))

  at_agent : is_settled w ≡ true → (name : List ℕ) (n : Node) → Member n w.setup.topology.nodes → n.name ≡ name
      → answer_to w (Show name) ≡ Shown (Rows.Agent (agent_rows w.setup.topology w.setup.config n.address))
  at_agent settled name n among is =
      subst (λ name. answer_to w (Show name) ≡ Shown (Rows.Agent (agent_rows w.setup.topology w.setup.config n.address))) is
      (shown_there n.name (Rows.Agent (agent_rows w.setup.topology w.setup.config n.address))
      (or_right (list_any (λ (d : NodeId). same_name d.name n.name) w.setup.topology.controllers) (is_some (node_named w.setup.topology n.name))
      (ap is_some (found w (written_now message_size positive x valid before asked) (compiled_now message_size positive x valid before asked) settled n among)))
      (agents_show_rows message_size positive x valid before asked settled n among))

  pub compiled_at : is_settled w ≡ true → (e : Written) → AnswersCompiled (checked w.setup) e (answer_to w (event_of e))
  compiled_at settled (written.Show name) = (at_control settled name, at_agent settled name)
  compiled_at settled (written.Trace p) = (
    ap Traced (written_delivers message_size positive x valid before asked settled p),
    each_once w.setup (written_now message_size positive x valid before asked) p,
  )
  compiled_at settled (written.Edit d) = tt
  compiled_at settled (written.Deliver from to n) = tt
  compiled_at settled (written.DeliverOctets from to n) = tt
  compiled_at settled (written.Lose a b) = tt
  compiled_at settled (written.Connect a b) = tt
  compiled_at settled (written.Restart name) = tt
  compiled_at settled written.Round = tt
  compiled_at settled written.Settle = tt
  compiled_at settled (written.Break from to n) = tt

-- ---- a moment of the schedule
module _ (x : Checked) (valid : IsWritten (opening x)) (es : List Written) (forms : IsTrue (list_all has_event_form es)) (place : ℕ) where
  abbrev before_it : List MachineEvent
  before_it = map event_of (take place es)

  abbrev w_there : MachineState
  w_there = moment x (take place es)

  asked_there : EditsAreValid message_size IsOfForm (start x) before_it
  asked_there = edits_of_form (take place es) (start x) (forms_of_front place es forms) (valid.topology, valid.config)

  settles_at : (e : Written) (w' : MachineState) → w' ≡ next message_size w_there (event_of e) → SettlesAtOnce w_there e (answer_to w_there (event_of e)) w'
  unfolding next
  settles_at written.Settle w' leads =
      let s = written_settle_settles message_size positive x valid before_it asked_there in
      record {
        rounds = (settle w_there).0;
        is = ap (λ b. Rounds (settle w_there).0 b) s.0;
        few = s.1;
        settled = ap is_settled leads ∙ s.0;
      }
  settles_at (written.Show name) w' leads = tt
  settles_at (written.Trace p) w' leads = tt
  settles_at (written.Edit d) w' leads = tt
  settles_at (written.Deliver from to n) w' leads = tt
  settles_at (written.DeliverOctets from to n) w' leads = tt
  settles_at (written.Lose a b) w' leads = tt
  settles_at (written.Connect a b) w' leads = tt
  settles_at (written.Restart name) w' leads = tt
  settles_at written.Round w' leads = tt
  settles_at (written.Break from to n) w' leads = tt

  answer_there : (e : Written) (a : Answer) → StandsAt es (answers x es) place e a → a ≡ answer_to w_there (event_of e)
  answer_there e a at = at_place es (start x) place e a at.event at.answer

-- the answers of a schedule are as its configurations compile to
pub as_compiled : (x : Checked) → IsWritten (opening x) → (es : List Written) → IsTrue (list_all has_event_form es) → AreAsCompiled x es (answers x es)
as_compiled x valid es forms = record {
  settled = λ place e a at settled.
      subst (AnswersCompiled (checked (moment x (take place es)).setup) e) (sym (answer_there x valid es forms place e a at)) (compiled_at x valid (map event_of (take place es)) (asked_there x valid es forms place) settled e);
  settles = λ place e a at.
      subst (λ a. SettlesAtOnce (moment x (take place es)) e a (moment x (take (suc place) es))) (sym (answer_there x valid es forms place e a at))
      (settles_at x valid es forms place e (moment x (take (suc place) es)) (moment_there es (start x) place e at.event));
}
