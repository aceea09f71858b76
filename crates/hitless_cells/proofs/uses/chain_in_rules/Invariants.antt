use Rattle.std.proofs.Common.{◌≡◌, drop}
use Rattle.ov_types.specs.First.{first_of}
use Rattle.hitless_cells.specs.Openings.{chain_in_rule}
use Rattle.hitless_cells.proofs.uses.chain_in_rules.Given as goal

abbrev pub invariant-loop-rule : goal.invariant-loop-rule
invariant-loop-rule l = first_of (chain_in_rule l.own l.target l.use_no l.mirrored) (drop l.rule-index l.rules) ≡ first_of (chain_in_rule l.own l.target l.use_no l.mirrored) l.rules
