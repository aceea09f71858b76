use Rattle.std.proofs.Common.{◌≡◌}
use Rattle.std.specs.List.{filter_map}
use Rattle.agent_tables.specs.Routes.{kept_all}
use Rattle.agent_tables.proofs.Told.{route_at}
use Rattle.agent_tables.proofs.fibs.keep_routes.Given as goal

abbrev pub invariant-loop-key : goal.invariant-loop-key
invariant-loop-key l =
    kept_all l.fibs.entries (filter_map route_at l.key-iterator) ≡ kept_all l.fn.fibs.entries (filter_map route_at l.held)
