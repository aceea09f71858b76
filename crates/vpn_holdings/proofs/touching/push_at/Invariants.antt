use Rattle.std.proofs.Common.{◌≡◌, ◌++◌, map, drop}
use Rattle.ov_types.specs.Prefix.{Block}
use Rattle.vpn_holdings.proofs.touching.push_at.Given as goal

abbrev pub invariant-loop-subnet : goal.invariant-loop-subnet
invariant-loop-subnet l = l.rows.items ++ map (λ (s : Block). (l.instance, s)) (drop l.subnet-index l.subnets) ≡ l.fn.rows.items ++ map (λ (s : Block). (l.instance, s)) l.subnets
