use Rattle.std.proofs.Common.{◌≡◌, ◌++◌, map, drop}
use Rattle.std.specs.List.{flat_map}
use Rattle.ov_types.specs.Prefix.{Block}
use Rattle.ov_types.specs.declared.numbers.InstanceId.{InstanceId}
use Rattle.vpn_tables.proofs.objects.own_rows.Given as goal

abbrev pub invariant-loop-instance : goal.invariant-loop-instance
invariant-loop-instance l =
    l.rows.items ++ flat_map (λ (i : InstanceId). map (λ (p : Block). (i, p)) l.prefixes.items) (drop l.instance-index l.instance-items)
    ≡ flat_map (λ (i : InstanceId). map (λ (p : Block). (i, p)) l.prefixes.items) l.instance-items
