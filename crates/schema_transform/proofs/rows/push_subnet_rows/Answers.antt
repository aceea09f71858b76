use Rattle.std.proofs.Common.{◌≡◌, ◌++◌, ◌∙◌, List, None, OnOk, Some, ap, subst, sym}
use Rattle.std.specs.Option.{option_copied}
use Rattle.std.proofs.lemmas.List.{append-nil}
use Rattle.config_check.specs.Finding.{node_named}
use Rattle.transform_model.specs.Tables.{Row}
use Rattle.schema_transform.specs.Held.{circuit_of}
use Rattle.schema_transform.proofs.Nodes.{at_no_node, at_node}
use Rattle.schema_transform.proofs.rows.push_subnet_rows.Goals as goal

pub returns-in-Some : goal.returns-in-Some
returns-in-Some c =
    let node : node_named c.args.topology.now c.args.circuit.now.service.node ≡ Some c.in-Some.node.now =
    sym c.node_named.ensures ∙ ap option_copied c.in-Some.is
    in
    subst (λ (more : List Row). OnOk c.push_subnet_routes.result (c.push_subnet_routes.new.rows.items ≡ c.args.rows.now.items ++ more))
    (sym (at_node c.args.topology.now c.args.config.now c.args.instance c.args.network.now (circuit_of c.args.circuit.now)
    c.in-Some.node.now node)) c.push_subnet_routes.ensures

pub returns-in-None : goal.returns-in-None
returns-in-None c =
    let nowhere : node_named c.args.topology.now c.args.circuit.now.service.node ≡ None =
    sym c.node_named.ensures ∙ ap option_copied c.in-None.is
    in
    sym (append-nil c.args.rows.now.items)
    ∙ ap (λ (more : List Row). c.args.rows.now.items ++ more) (sym (at_no_node c.args.topology.now c.args.config.now
    c.args.instance c.args.network.now (circuit_of c.args.circuit.now) nowhere))
