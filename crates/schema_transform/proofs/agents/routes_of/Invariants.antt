use Rattle.std.proofs.Common.{◌≡◌, drop}
use Rattle.std.specs.Prelude.{◌++◌, map}
use Rattle.transform_model.specs.Compiled.{route_of}
use Rattle.schema_transform.proofs.agents.routes_of.Given as goal

abbrev pub invariant-loop-row : goal.invariant-loop-row
invariant-loop-row l = l.routes ++ map route_of (drop l.row-index l.rows) ≡ map route_of l.rows
