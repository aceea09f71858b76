use Rattle.std.proofs.Common.{◌≡◌, drop}
use Rattle.std.specs.List.{filter_map}
use Rattle.std.specs.Prelude.{◌++◌}
use Rattle.transform_model.specs.Tables.{port_row}
use Rattle.schema_transform.proofs.rows.push_network_rows.Given as goal

abbrev pub invariant-loop-port : goal.invariant-loop-port
invariant-loop-port l =
    l.rows.items ++ filter_map (port_row l.topology l.config l.network) (drop l.port-index l.config.ports)
    ≡ l.fn.rows.items ++ filter_map (port_row l.topology l.config l.network) l.config.ports
