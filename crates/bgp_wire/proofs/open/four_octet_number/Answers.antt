use Rattle.std.proofs.Common.{ap, ◌∙◌}
use Rattle.bgp_wire.specs.Capabilities.{part_of}
use Rattle.bgp_wire.specs.Opens.{four_octet_number}
use Rattle.bgp_wire.proofs.Numbering.{has_four, others_formed, number_later}
use Rattle.bgp_wire.proofs.open.four_octet_number.Goals as goal

pub read_u32-requires : goal.read_u32-requires
read_u32-requires c =
    has_four c.loop-capability.capability-iterator c.next.new.self (part_of c.in-Some.capability) c.loop-capability.invariant.2.0
    c.in-Some.ensures.steps c.if-capability-eq-FOUR_OCTET_NUMBER.true

pub loop-capability-preserved : goal.loop-capability-preserved
loop-capability-preserved c =
    let first = part_of c.in-Some.capability in
    let later = number_later first c.next.new.self c.if-capability-eq-FOUR_OCTET_NUMBER.false in (
      tt,
      tt,
      (
        others_formed c.loop-capability.capability-iterator c.next.new.self first c.loop-capability.invariant.2.0 c.in-Some.ensures.steps,
        c.loop-capability.invariant.2.1 ∙ ap four_octet_number c.in-Some.ensures.steps ∙ later,
      ),
    )
