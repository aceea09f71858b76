use Rattle.std.proofs.Common.{◌≡◌, drop}
use Rattle.ov_types.specs.First.{first_of}
use Rattle.config_check.specs.Rules.{twice_in}
use Rattle.config_check.proofs.chains.broken_twice.Given as goal

abbrev pub invariant-loop-chain : goal.invariant-loop-chain
invariant-loop-chain l = first_of (twice_in l.config) (drop l.chain-index l.chain-items) ≡ first_of (twice_in l.config) l.config.chains
