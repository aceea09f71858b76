use Rattle.std.specs.Prelude.{Some, None, option_copied}
use Rattle.std.proofs.Common.{sym, ◌∙◌, ap}
use Rattle.bgp_restart.proofs.Rooms.{found}
use Rattle.bgp_restart.proofs.routes.Routes.get.Goals as goal

pub returns-in-Some : goal.returns-in-Some
returns-in-Some c =
    c.as_ref.ensures.value
    ∙ found c.self.inside.held.entries c.args.self.now c.args.key.now (Some c.in-Some.route.now) c.self.view_is
    (sym (ap option_copied c.in-Some.is) ∙ c.get.ensures.value)

pub returns-in-None : goal.returns-in-None
returns-in-None c =
    found c.self.inside.held.entries c.args.self.now c.args.key.now None c.self.view_is
    (sym (ap option_copied c.in-None.is) ∙ c.get.ensures.value)
