use Rattle.std.proofs.Common.{subst}
use Rattle.std.specs.List.{AllByRecursion}
use Rattle.std.proofs.Math.Logic.{∥∥₁_map}
use Rattle.bgp_wire.specs.Content.{OpenFields}
use Rattle.bgp_wire.specs.Opens.{IsCapability, capabilities_of}
use Rattle.bgp_wire.proofs.WholeParts.{all_well_formed}
use Rattle.bgp_wire.proofs.open.OpenPart.capabilities.Goals as goal

pub returns-clause-well_formed : goal.returns-clause-well_formed
returns-clause-well_formed c =
    ∥∥₁_map c.self.invariant (λ are. subst (λ (f : OpenFields). AllByRecursion IsCapability (capabilities_of f)) c.self.view_is (all_well_formed _ are))
