use Rattle.std.specs.Prelude.{◌≡◌, false}
use Rattle.std.proofs.Common.{◌∙◌, ap, rules}
use Rattle.bgp_restart.specs.Routes.{has_room, routes_in}
use Rattle.bgp_restart.proofs.Rooms.{roomier}
use Rattle.bgp_restart.proofs.routes.Routes.add_room.Goals.{in-Some+in-Some-branch-3, in-Some+in-None-1, in-None-1}
use Rattle.bgp_restart.proofs.routes.Routes.add_room.Goals as goal

pub returns-in_ok-insert-clause-routes : goal.returns-in_ok-insert-clause-routes
returns-in_ok-insert-clause-routes c =
    let absent : has_room c.self.inside.held.entries c.args.key.now ≡ false = search rules in
    ap routes_in (elim c.match-branch-2.branch [ in-Some+in-Some-branch-3 w ↦ w.self-is | in-Some+in-None-1 w ↦ w.self-is | in-None-1 w ↦ w.self-is ])
    ∙ roomier c.self.inside.held c.insert.new.self c.args.key.now c.in_ok-insert.ensures.updates absent
    ∙ ap routes_in c.self.view_is
