use Rattle.std.proofs.Common.{sym, ◌∙◌}
use Rattle.std.proofs.lemmas.Slice.Eq.{bytes_eq-Decides}
use Rattle.bgp_wire.specs.Attributes.{fields_of}
use Rattle.bgp_vpn.specs.Updates.{parts_of}
use Rattle.bgp_restart.proofs.Ending.{ends, only_value, none_behind, nothing_there}
use Rattle.bgp_restart.proofs.marks.is_end.Goals as goal

pub returns-then-only-eq-UNREACH : goal.returns-then-only-eq-UNREACH
returns-then-only-eq-UNREACH c = (
  λ e. ends (parts_of c.args.part.now) (fields_of c.in-Some-Ok.only) _ c.next.new.self c.attributes-found.ensures.all
      (nothing_there _ _ c.is_empty.ensures c.if-not-is_empty.false)
      (nothing_there _ _ c.is_empty-else-not-is_empty.ensures c.if-not-is_empty-2.false)
      (rw c.in-Some-Ok.field-0-is at c.in-Some-Ok.ensures.steps)
      (none_behind _ _ _ c.next-2.ensures.steps (sym c.is_some.ensures ∙ c.if-is_some.false))
      c.if-only-eq-UNREACH.true
      ((bytes_eq-Decides c.in-Some-Ok.only.value.now c.as_slice.result.now).0 (sym c.eq.ensures ∙ e) ∙ c.as_slice.ensures),
  λ e. c.eq.ensures
      ∙ (bytes_eq-Decides c.in-Some-Ok.only.value.now c.as_slice.result.now).1
      (only_value (parts_of c.args.part.now) (fields_of c.in-Some-Ok.only) _ c.next.new.self c.attributes-found.ensures.all (rw c.in-Some-Ok.field-0-is at c.in-Some-Ok.ensures.steps) e ∙ sym c.as_slice.ensures),
)
