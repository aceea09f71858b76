-- What reads as a step has the one member of its word.
use Rattle.std.proofs.Common.{◌≡◌, ℕ, true, nat_eq, List, [], ◌∷◌, is_some, Ok, Err, refl, sym, subst, ap, ◌∙◌, codes, inl, inr}
use Rattle.std.specs.Prelude.{Result}
use Rattle.std.specs.Cmp.Lexicographic.{pointwise, same_text}
use Rattle.std.proofs.lemmas.Bool.{cases_Bool}
use Rattle.serde_json.specs.Data.{Data, no_members, member, null, boolean, number, string, array, object}
use Rattle.serde_json.specs.Find.{get}
use Rattle.config_model.specs.Faults.{Fault}
use Rattle.config_model.specs.OneMember.{one_member_at}
use Rattle.config_model.specs.Fields.{object_at}
use Rattle.config_model.specs.Edit.{edit_at}
use Rattle.config_model.specs.EventDocuments.{one_document}
use Rattle.config_model.specs.Input.{packet_at}
use Rattle.config_model.specs.Laws.{HasJust, FirstIsMissed}
use Rattle.config_model.specs.Topology.{topology_at}
use Rattle.config_model.proofs.HasJust.{bind_ok, is_there, is_object, has_no_other}
use Rattle.config_model.proofs.Missed.{object_there, absent}
use Rattle.flow_state.specs.declared.step.FlowStep.{FlowStep}
use Rattle.flow_state.specs.declared.step.FlowStep.TheVariants.{Edit, Trace}
use Rattle.flow_state.specs.Documents.{FlowsHasJust, StepHasJust, step_word}
use Rattle.flow_state.specs.Steps.{capacity_at, flows_at, step_at, step_from}

abbrev read_as : {A : Type 0} → A → Result A Fault
read_as x = Ok x

ok_is : {A : Type 0} (a b : A) → read_as a ≡ read_as b → a ≡ b
ok_is a b h = cc

-- an object that reads by its one member is written with that member alone
alone : (path : List ℕ) (d : Data) (m : List ℕ × Data) → one_member_at path d ≡ Ok m → d ≡ one_document m.0 m.1
unfolding one_member_at object_at
alone path null m h = absurd (cc)
alone path (boolean b) m h = absurd (cc)
alone path (number n) m h = absurd (cc)
alone path (string s) m h = absurd (cc)
alone path (array ds) m h = absurd (cc)
alone path (object no_members) m h = absurd (cc)
alone path (object (member k v no_members)) m h = ap (λ (p : List ℕ × Data). one_document p.0 p.1) (ok_is (k, v) m h)
alone path (object (member k v (member l w ms))) m h = absurd (cc)

just_one : (word : List ℕ) (v : Data) → is_some (get word (one_document word v)) ≡ true → pointwise nat_eq word word ≡ true → HasJust (word ∷ []) [] (one_document word v)
just_one word v there known = record {
  members = member word v no_members;
  is_object = refl;
  has_each = rw there refl;
  has_no_other = rw known refl;
}

same : (word x : List ℕ) → pointwise nat_eq word x ≡ true → word ≡ x
same word x h = same_text word x (sym h)

step_from_word : (word path : List ℕ) (d : Data) (x : FlowStep) → step_from word path d ≡ Ok x → word ≡ step_word x
unfolding step_from
step_from_word word path d x h =
    elim (cases_Bool (pointwise nat_eq word (codes "edit"))) [
      | inl p ↦ let a = bind_ok (edit_at path d) _ x (rw p at h) in same word (codes "edit") p ∙ ap step_word {x = Edit a.0} (ok_is (Edit a.0) x a.2)
      | inr p ↦ elim (cases_Bool (pointwise nat_eq word (codes "trace"))) [
        | inl q ↦ let a = bind_ok (packet_at path d) _ x (rw (p, q) at h) in same word (codes "trace") q ∙ ap step_word {x = Trace a.0} (ok_is (Trace a.0) x a.2)
        | inr q ↦ let never : Err _ ≡ Ok x = rw (p, q) at h in absurd (cc)
      ]
    ]

just_step : (x : FlowStep) (v : Data) → HasJust (step_word x ∷ []) [] (one_document (step_word x) v)
just_step (Edit x) v = just_one (codes "edit") v refl refl
just_step (Trace p) v = just_one (codes "trace") v refl refl

pub step_has_just : StepHasJust
unfolding step_at
step_has_just path d x h =
    let a = bind_ok (one_member_at path d) _ x h in
    let word : a.0.0 ≡ step_word x = step_from_word a.0.0 _ a.0.1 x a.2 in
    let written : d ≡ one_document (step_word x) a.0.1 = alone path d a.0 a.1 ∙ ap (λ (w : List ℕ). one_document w a.0.1) word in
    subst (HasJust (step_word x ∷ []) []) (sym written) (just_step x a.0.1)

pub flows_has_just : FlowsHasJust
unfolding flows_at capacity_at
flows_has_just path d x h =
    let a = bind_ok _ _ x h in
    let b = bind_ok _ _ x a.2 in
    let c = bind_ok _ _ x b.2 in
    let n = bind_ok _ _ x c.2 in
    let e = bind_ok _ _ x n.2 in
    let z = bind_ok _ _ x e.2 in
    record {
      members = a.0;
      is_object = is_object path d a.0 a.1;
      has_each = rw (is_there _ _ _ d b.0 b.1, is_there _ _ _ d c.0 c.1, is_there _ _ _ d n.0 n.1, is_there _ _ _ d e.0 e.1) refl;
      has_no_other = has_no_other path _ a.0 z.1;
    }

pub flows_missed : FirstIsMissed flows_at (codes "topology")
unfolding flows_at
flows_missed path d ms there none = rw (object_there path d ms there, absent topology_at path (codes "topology") d none) refl
