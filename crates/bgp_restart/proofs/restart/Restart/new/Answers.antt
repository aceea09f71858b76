use Rattle.std.proofs.Common.{ap, refl}
use Rattle.bgp_restart.specs.Routes.{routes_in}
use Rattle.bgp_restart.proofs.Steps.{new_stands}
use Rattle.bgp_restart.proofs.restart.Restart.new.Goals as goal

pub returns : goal.returns
returns c = new_stands _ refl (ap routes_in c.new.ensures) (ap routes_in c.new-2.ensures)
