use Rattle.bgp_wire.specs.Opens.{IsCapability}
use Rattle.bgp_wire.proofs.OpenBodies.{capabilities_end}
use Rattle.bgp_wire.proofs.Splitting.{leaves_less}
use Rattle.bgp_wire.proofs.open.are_capabilities.Goals as goal

pub returns-then-not-is_capability : goal.returns-then-not-is_capability
returns-then-not-is_capability c =
    capabilities_end _ _ _ _ c.loop-rest.invariant c.in-Some.ensures.found c.if-not-is_capability.ensures

pub loop-rest-preserved : goal.loop-rest-preserved
loop-rest-preserved c =
    leaves_less IsCapability _ _ _ _ c.loop-rest.invariant c.if-not-is_capability.ensures c.in-Some.ensures.found
