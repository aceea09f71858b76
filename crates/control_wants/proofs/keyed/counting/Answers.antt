use Rattle.std.proofs.Common.{ap, sym, ◌∙◌}
use Rattle.std.specs.Option.{option_map}
use Rattle.node_routes.specs.NodeModel.Agent.{first_some}
use Rattle.node_routes.specs.NodeModel.Paths.{Path, own_paths}
use Rattle.node_routes.specs.NodeModel.Reaching.{reoriginated_paths}
use Rattle.std.specs.declared.option.Option.{Option}
use Rattle.vpn_tables.specs.Routes.{path_of}
use Rattle.vpn_tables.specs.TouchedKeys.{first_keyed}
use Rattle.vpn_tables.proofs.Keyed.{first_append}
use Rattle.control_wants.proofs.keyed.counting.Goals as goal

pub returns-in-Some : goal.returns-in-Some
returns-in-Some c =
    let h = c.args.tables.now in
    let k = c.args.key.now in
    sym (first_append k (own_paths h) (reoriginated_paths h)
    ∙ ap (λ (o : Option Path). first_some o (first_keyed k (reoriginated_paths h))) (sym c.own_keyed.ensures ∙ ap (option_map path_of) c.in-Some.is))

pub returns-in-None : goal.returns-in-None
returns-in-None c =
    let h = c.args.tables.now in
    let k = c.args.key.now in
    c.led_keyed.ensures
    ∙ sym (first_append k (own_paths h) (reoriginated_paths h)
    ∙ ap (λ (o : Option Path). first_some o (first_keyed k (reoriginated_paths h))) (sym c.own_keyed.ensures ∙ ap (option_map path_of) c.in-None.is))
