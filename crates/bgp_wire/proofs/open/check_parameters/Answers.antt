use Rattle.bgp_wire.specs.Opens.{IsParameter}
use Rattle.bgp_wire.proofs.OpenBodies.{type_ends, broken_ends}
use Rattle.bgp_wire.proofs.Splitting.{leaves_less}
use Rattle.bgp_wire.proofs.open.check_parameters.Goals as goal

pub returns-then-parameter-ne2 : goal.returns-then-parameter-ne2
returns-then-parameter-ne2 c =
    type_ends _ _ _ _ c.loop-rest.invariant c.in-Some.ensures.found c.if-parameter-ne2.true

pub returns-then-not-are_capabilities : goal.returns-then-not-are_capabilities
returns-then-not-are_capabilities c =
    broken_ends _ _ _ _ c.loop-rest.invariant c.in-Some.ensures.found c.if-parameter-ne2.false c.if-not-are_capabilities.ensures

pub loop-rest-preserved : goal.loop-rest-preserved
loop-rest-preserved c =
    leaves_less IsParameter _ _ _ _ c.loop-rest.invariant (c.if-parameter-ne2.false, c.if-not-are_capabilities.ensures) c.in-Some.ensures.found
