use Rattle.std.proofs.Common.{Some, sym, ap, ◌∙◌}
use Rattle.std.specs.Option.{option_copied}
use Rattle.std.proofs.lemmas.Option.{same_Some}
use Rattle.ov_types.proofs.Values.{objects}
use Rattle.agent_tables.proofs.acls.are_same.Goals as goal

pub returns-in-Some-Some : goal.returns-in-Some-Some
returns-in-Some-Some c =
    let decides = objects c.in-Some-Some.list.now c.in-Some-Some.other.now in (
      λ yes. ap option_copied c.in-Some-Some.is-0 ∙ ap Some (decides.0 (sym c.eq.ensures ∙ yes)) ∙ sym (ap option_copied c.in-Some-Some.is-1),
      λ same. c.eq.ensures ∙ decides.1 (same_Some _ _ (sym (ap option_copied c.in-Some-Some.is-0) ∙ same ∙ ap option_copied c.in-Some-Some.is-1)),
    )
