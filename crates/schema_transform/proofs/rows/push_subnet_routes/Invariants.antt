use Rattle.std.proofs.Common.{◌≡◌, drop}
use Rattle.std.specs.Prelude.{◌++◌, filter, map}
use Rattle.transform_model.specs.Tables.{circuit_route, holds_port}
use Rattle.schema_transform.specs.Held.{circuit_of}
use Rattle.schema_transform.proofs.rows.push_subnet_routes.Given as goal

abbrev pub invariant-loop-subnet : goal.invariant-loop-subnet
invariant-loop-subnet l =
    l.rows.items ++ map (λ s. circuit_route l.instance s (circuit_of l.circuit) l.node)
    (filter (holds_port l.config l.network) (drop l.subnet-index l.network.subnets))
    ≡ l.fn.rows.items ++ map (λ s. circuit_route l.instance s (circuit_of l.circuit) l.node)
    (filter (holds_port l.config l.network) l.network.subnets)
