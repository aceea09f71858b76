use Rattle.std.proofs.Common.{◌≡◌, ◌++◌, map, drop}
use Rattle.std.specs.List.{filter}
use Rattle.ov_types.specs.declared.numbers.InstanceId.{InstanceId}
use Rattle.vpn_holdings.specs.Touched.{imports_one}
use Rattle.vpn_holdings.proofs.holdings.VpnHoldings.push_importing.Given as goal

abbrev pub invariant-loop-instance : goal.invariant-loop-instance
invariant-loop-instance l =
    l.rows.items ++ map (λ (i : InstanceId). (i, l.prefix)) (filter (imports_one l.self l.targets) (drop l.instance-index l.instances))
    ≡ l.fn.rows.items ++ map (λ (i : InstanceId). (i, l.prefix)) (filter (imports_one l.self l.targets) l.instances)
