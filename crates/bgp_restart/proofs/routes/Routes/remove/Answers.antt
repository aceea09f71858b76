use Rattle.std.specs.FinMap.{remove}
use Rattle.std.proofs.Common.{◌∙◌, ap}
use Rattle.bgp_restart.specs.Routes.{routes_in}
use Rattle.bgp_restart.proofs.Rooms.{removed, Rooms}
use Rattle.bgp_restart.proofs.routes.Routes.remove.Goals as goal

pub returns : goal.returns
returns c =
    removed c.self.inside.held c.remove.new.self c.args.key.now c.remove.ensures.updates
    ∙ ap (λ (es : Rooms). remove (routes_in es) c.args.key.now) c.self.view_is
