use Rattle.std.proofs.Common.{◌≡◌, map, subst}
use Rattle.vpn_tables.specs.NodeModel.Directions.{vpn_order}
use Rattle.vpn_tables.specs.NodeModel.Keys.{Vpn}
use Rattle.vpn_tables.proofs.NodeModel.Directions.{vpn_exact, vpn_total}
use Rattle.control_wants.specs.Marks.{IsWithin, Marks, MarksOnly, no_item}
use Rattle.control_wants.specs.contracts.dirty.Dirty.{the_view}
use Rattle.control_wants.proofs.Growing.{within_routes}
use Rattle.control_wants.proofs.Only.{only_routes}
use Rattle.control_wants.proofs.Sets.{mapped, put_from, put_keeps, put_there}
use Rattle.control_wants.proofs.dirty.Dirty.add_route.Goals as goal

pub returns-in-Ok-clause-within : goal.returns-in-Ok-clause-within
returns-in-Ok-clause-within c =
    let before : Marks = the_view c.self.inside in
    subst (λ (d : Marks). IsWithin d (record before { routes = map (λ e. e.0) c.apply.new.self })) c.self.view_is
    (within_routes before (map (λ e. e.0) c.apply.new.self) (put_keeps vpn_order vpn_total vpn_exact c.self.inside.routes c.apply.new.self c.args.key _ c.in-Ok.ensures.ok))

pub returns-in-Ok-clause-marked : goal.returns-in-Ok-clause-marked
returns-in-Ok-clause-marked c = λ all clean. clean (mapped Vpn c.args.key (map (λ e. e.0) c.apply.new.self) (put_there vpn_order vpn_total vpn_exact c.self.inside.routes c.apply.new.self c.args.key _ c.in-Ok.ensures.ok))

pub returns-in-Ok-clause-only : goal.returns-in-Ok-clause-only
returns-in-Ok-clause-only c =
    let before : Marks = the_view c.self.inside in
    subst (λ (d : Marks). MarksOnly (λ k. k ≡ Vpn c.args.key) no_item d (record before { routes = map (λ e. e.0) c.apply.new.self })) c.self.view_is
    (only_routes before (map (λ e. e.0) c.apply.new.self) c.args.key (put_from vpn_order vpn_total vpn_exact c.self.inside.routes c.apply.new.self c.args.key _ c.in-Ok.ensures.ok))
