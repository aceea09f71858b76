-- Which fault a value is that does not read as a step.
use Rattle.std.proofs.Common.{◌≡◌, ℕ, ◌==◌, Bool, false, nat_eq, List, [], ◌∷◌, Some, None, Err, refl, codes}
use Rattle.std.specs.Cmp.Lexicographic.{pointwise}
use Rattle.std.proofs.lemmas.Bool.{or_parts}
use Rattle.serde_json.specs.Data.{Data, Members, no_members, member}
use Rattle.serde_json.specs.Events.{members_len}
use Rattle.serde_json.specs.Find.{as_object}
use Rattle.config_model.specs.declared.fault.DocKind.TheVariants.{Range}
use Rattle.config_model.specs.Fields.{object_at}
use Rattle.config_model.specs.OneMember.{only_member, one_member_at}
use Rattle.config_model.specs.EventLaws.{NotOneIsRange, OtherIsUnknown}
use Rattle.config_model.specs.Laws.{fault_at, is_among}
use Rattle.flow_state.specs.Documents.{NotObjectIsKind}
use Rattle.flow_state.specs.Steps.{step_at, step_from}

none_alone : (ms : Members) → (members_len ms == 1) ≡ false → only_member ms ≡ None
none_alone no_members h = refl
none_alone (member k d no_members) h = absurd (cc)
none_alone (member k d (member l e ms)) h = refl

not_one : (path : List ℕ) (d : Data) (ms : Members) → as_object d ≡ Some ms → (members_len ms == 1) ≡ false → one_member_at path d ≡ Err (fault_at path Range)
unfolding one_member_at object_at
not_one path d ms e h = rw (e, none_alone ms h) refl

pub step_not_one : NotOneIsRange step_at
unfolding step_at
step_not_one path d ms e h = rw (not_one path d ms e h) refl

abbrev same : List ℕ → List ℕ → Bool
same word x = pointwise nat_eq word x

pub step_unknown : OtherIsUnknown step_at (codes "edit" ∷ codes "trace" ∷ [])
unfolding step_at step_from one_member_at object_at
step_unknown path word d h =
    let a = or_parts (same word (codes "edit")) (is_among (codes "trace" ∷ []) word) h in
    let b = or_parts (same word (codes "trace")) false a.1 in
    rw (a.0, b.0) refl

pub no_step : NotObjectIsKind step_at
unfolding step_at one_member_at object_at
no_step path d e = rw e refl
