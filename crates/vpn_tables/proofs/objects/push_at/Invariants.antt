use Rattle.std.proofs.Common.{◌≡◌, ◌++◌, map, drop}
use Rattle.ov_types.specs.Prefix.{Block}
use Rattle.vpn_tables.proofs.objects.push_at.Given as goal

abbrev pub invariant-loop-prefix : goal.invariant-loop-prefix
invariant-loop-prefix l = l.rows.items ++ map (λ (p : Block). (l.instance, p)) (drop l.prefix-index l.prefixes) ≡ l.fn.rows.items ++ map (λ (p : Block). (l.instance, p)) l.prefixes
