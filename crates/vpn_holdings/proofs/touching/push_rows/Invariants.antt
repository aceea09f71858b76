use Rattle.std.proofs.Common.{◌≡◌, ◌++◌, map, drop}
use Rattle.std.specs.List.{flat_map}
use Rattle.ov_types.specs.Prefix.{Block}
use Rattle.ov_types.specs.declared.numbers.InstanceId.{InstanceId}
use Rattle.vpn_holdings.proofs.touching.push_rows.Given as goal

abbrev pub invariant-loop-instance : goal.invariant-loop-instance
invariant-loop-instance l =
    l.rows.items ++ flat_map (λ (i : InstanceId). map (λ (s : Block). (i, s)) (l.left ++ l.right)) (drop l.instance-index l.instances)
    ≡ l.fn.rows.items ++ flat_map (λ (i : InstanceId). map (λ (s : Block). (i, s)) (l.left ++ l.right)) l.instances
