use Rattle.std.proofs.Common.{◌≡◌, drop, find}
use Rattle.config_check.specs.Rules.{overlap, circuit_addresses}
use Rattle.config_check.proofs.subnets.reserved_in.Given as goal

abbrev pub invariant-loop-prefix : goal.invariant-loop-prefix
invariant-loop-prefix l = find (overlap circuit_addresses) (drop l.prefix-index l.prefix-items) ≡ find (overlap circuit_addresses) l.network.subnets
