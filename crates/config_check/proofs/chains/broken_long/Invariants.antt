use Rattle.std.proofs.Common.{◌≡◌, drop, find}
use Rattle.config_check.specs.Rules.{is_too_long}
use Rattle.config_check.proofs.chains.broken_long.Given as goal

abbrev pub invariant-loop-chain : goal.invariant-loop-chain
invariant-loop-chain l = find (is_too_long l.config) (drop l.chain-index l.chain-items) ≡ find (is_too_long l.config) l.config.chains
