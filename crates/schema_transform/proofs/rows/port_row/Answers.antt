use Rattle.std.proofs.Common.{◌≡◌, ◌∙◌, Bool, Some, List, ap, get_or, sym}
use Rattle.std.specs.Option.{option_copied}
use Rattle.std.specs.Prelude.{option_map}
use Rattle.std.proofs.lemmas.List.{get_or_default}
use Rattle.config_types.specs.declared.config.Network.{Network}
use Rattle.config_types.specs.declared.topology.Node.{Node}
use Rattle.config_check.specs.Finding.{node_named}
use Rattle.transform_model.specs.Tables.{host_route, row_if}
use Rattle.schema_transform.proofs.Homes.{home_row}
use Rattle.schema_transform.proofs.rows.port_row.Goals as goal

pub returns-then-not-imported-place : goal.returns-then-not-imported-place
returns-then-not-imported-place c =
    let networks : List Network = c.args.config.now.networks in
    let n : Network = c.args.network.now in
    let place = c.in_ok-place.place in
    let told = c.in_ok-place.ensures in
    let home : Network = get_or networks place n in
    sym (home_row c.args.topology.now c.args.config.now n c.args.port.now c.args.imported.now place home c.requires.imported
    told.place told.within (get_or_default networks place n home told.within)
    ∙ ap (λ (is_asked : Bool). row_if is_asked n.id home c.args.port.now (node_named c.args.topology.now c.args.port.now.node))
    c.if-not-imported-place.true)

pub returns : goal.returns
returns c =
    let n : Network = c.args.network.now in
    let place = c.in_ok-place.place in
    let told = c.in_ok-place.ensures in
    let home : Network = c.index-as_slice-place.result in
    let was = c.in_ok-node.was in
    let node : node_named c.args.topology.now c.args.port.now.node ≡ Some c.in_ok-node.node.now =
    sym c.node_named.ensures ∙ ap option_copied was
    in
    ap Some c.host_route.ensures
    ∙ sym (home_row c.args.topology.now c.args.config.now n c.args.port.now c.args.imported.now place home c.requires.imported
    told.place told.within (c.index-as_slice-place.is ∙ ap (λ (xs : List Network). get_or xs place home) c.as_slice.ensures)
    ∙ ap (λ (is_asked : Bool). row_if is_asked n.id home c.args.port.now (node_named c.args.topology.now c.args.port.now.node))
    c.if-not-imported-place.false
    ∙ ap (option_map (λ (d : Node). host_route n.id home d c.args.port.now)) node)
