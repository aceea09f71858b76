use Rattle.std.proofs.lemmas.Bool.{eq-eqb, ne_eqb}
use Rattle.bgp_wire.specs.Attributes.{fields_of}
use Rattle.bgp_vpn.proofs.FoundLemmas.{is_attribute, is_cut}
use Rattle.rt_membership.proofs.ValueLemmas.{found_here, one_less, cut_less, none_left}
use Rattle.rt_membership.proofs.values.value_at.Goals as goal

pub returns-then-attribute-kind : goal.returns-then-attribute-kind
returns-then-attribute-kind c =
    let begins = is_attribute _ c.next.new.self c.in-Some.item c.in-Ok.attribute c.in-Some.ensures.steps c.in-Ok.is in
    found_here c.args.kind _ _ _ (fields_of c.in-Ok.attribute) c.loop-item.invariant.2 begins (eq-eqb _ _ c.if-attribute-kind.true)

pub loop-item-preserved-else-attribute-kind : goal.loop-item-preserved-else-attribute-kind
loop-item-preserved-else-attribute-kind c =
    let begins = is_attribute _ c.next.new.self c.in-Some.item c.in-Ok.attribute c.in-Some.ensures.steps c.in-Ok.is in
    (tt, tt, one_less c.args.kind _ _ _ (fields_of c.in-Ok.attribute) c.loop-item.invariant.2 begins (ne_eqb _ _ c.if-attribute-kind.false))

pub loop-item-preserved : goal.loop-item-preserved
loop-item-preserved c =
    let cut = is_cut _ c.next.new.self c.in-Some.item c.in_default.field-0 c.in-Some.ensures.steps c.in_default.is in
    (tt, tt, cut_less c.args.kind _ _ _ c.loop-item.invariant.2 cut.0)

pub returns : goal.returns
returns c = none_left c.args.kind _ _ c.loop-item.invariant.2 c.in-None.ensures.steps.0
