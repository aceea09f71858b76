use Rattle.std.proofs.Common.{ap, sym, ◌∙◌, option_map, List}
use Rattle.ov_sync.proofs.Ascending.{ascends}
use Rattle.ov_types.specs.Prefix.{Block}
use Rattle.ov_types.specs.Routing.{longest}
use Rattle.ov_types.specs.declared.rows.Entry.{Entry}
use Rattle.route_targets.specs.Forwarding.{looked_up}
use Rattle.agent_tables.specs.Routes.{instance_order}
use Rattle.agent_tables.specs.Touched.{Tabled}
use Rattle.agent_tables.proofs.Routes.{found_or_none, routes_in_one}
use Rattle.agent_tables.proofs.tables.AgentTables.route.Goals as goal

pub returns-in-Some : goal.returns-in-Some
returns-in-Some c =
    let led = λ (l : List (Block × Entry)). option_map (λ (r : Block × Entry). r.1) (longest c.args.a.0 l) in
    c.lookup.ensures
    ∙ ap led (sym (routes_in_one c.args.i c.self.inside.fibs.entries (ascends instance_order c.self.inside.fibs.entries c.self.invariant.1) ∙ ap found_or_none (sym c.in-Some.ensures.value)))
    ∙ ap (λ (t : Tabled). looked_up t.rows c.args.i c.args.a.0) c.self.view_is

pub returns-in-None : goal.returns-in-None
returns-in-None c =
    let led = λ (l : List (Block × Entry)). option_map (λ (r : Block × Entry). r.1) (longest c.args.a.0 l) in
    ap led (sym (routes_in_one c.args.i c.self.inside.fibs.entries (ascends instance_order c.self.inside.fibs.entries c.self.invariant.1) ∙ ap found_or_none (sym c.in-None.ensures.value)))
    ∙ ap (λ (t : Tabled). looked_up t.rows c.args.i c.args.a.0) c.self.view_is
