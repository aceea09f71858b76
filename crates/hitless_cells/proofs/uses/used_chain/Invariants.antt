use Rattle.std.proofs.Common.{◌≡◌, drop}
use Rattle.ov_types.specs.First.{first_of}
use Rattle.hitless_cells.specs.Openings.{chain_in_policy, used_chain}
use Rattle.hitless_cells.proofs.uses.used_chain.Given as goal

abbrev pub invariant-loop-policy : goal.invariant-loop-policy
invariant-loop-policy l = first_of (chain_in_policy l.own l.target l.use_no l.mirrored) (drop l.policy-index l.policy-items) ≡ used_chain l.config l.own l.target l.use_no l.mirrored
