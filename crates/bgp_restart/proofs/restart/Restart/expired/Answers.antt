use Rattle.std.proofs.Common.{ap}
use Rattle.bgp_restart.specs.Keeping.{Kept}
use Rattle.bgp_restart.specs.Routes.{routes_in}
use Rattle.bgp_restart.proofs.Steps.{expired_follows}
use Rattle.bgp_restart.proofs.restart.Restart.expired.Goals as goal

pub returns : goal.returns
returns c =
    expired_follows c.args.self.now _ (ap (λ (v : Kept). v.up) c.self.view_is) (ap (λ (v : Kept). v.named) c.self.view_is)
    (ap (λ (v : Kept). v.wide) c.self.view_is) (ap (λ (v : Kept). v.fresh) c.self.view_is) (ap routes_in c.reset.ensures)
