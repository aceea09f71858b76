use Rattle.std.proofs.Common.{◌∙◌, ap}
use Rattle.bgp_restart.specs.Routes.{has_room, routes_in, with_route}
use Rattle.bgp_restart.proofs.Rooms.{put_in_room, replaced, Rooms}
use Rattle.bgp_restart.proofs.routes.Routes.set.Goals as goal

pub returns-clause-routes : goal.returns-clause-routes
returns-clause-routes c =
    let m = c.self.inside.held in
    let n = c.insert-replaced.new.self in
    replaced m n c.args.key c.args.route
    (put_in_room m n c.args.key c.args.route c.insert-replaced.result c.insert-replaced.ensures.updates c.insert-replaced.ensures.absent
    (ap (λ (es : Rooms). has_room es c.args.key) c.self.view_is ∙ c.requires.room))
    ∙ ap (λ (es : Rooms). with_route (routes_in es) c.args.key c.args.route) c.self.view_is
