use Rattle.std.proofs.Common.{◌≡◌, ◌++◌, drop}
use Rattle.std.specs.List.{flat_map}
use Rattle.ov_sync.specs.declared.Delta.TheVariants.{Drop}
use Rattle.vpn_holdings.specs.Moved.{targets_by_publication}
use Rattle.vpn_holdings.specs.Touched.{rows_by_key}
use Rattle.vpn_tables.proofs.agents.touched_by_agent.Given as goal

abbrev pub invariant-loop-key : goal.invariant-loop-key
invariant-loop-key l =
    l.rows.items ++ flat_map (λ k. rows_by_key l.held (targets_by_publication l.held l.session (Drop k)) k) (drop l.key-index l.key-items)
    ≡ flat_map (λ k. rows_by_key l.held (targets_by_publication l.held l.session (Drop k)) k) l.key-items
