use Rattle.std.proofs.Common.{◌≡◌, drop}
use Rattle.ov_types.specs.First.{first_of}
use Rattle.schedule_script.specs.Broken.{broken_use}
use Rattle.schedule_script.specs.Kept.{ties_in}
use Rattle.schedule_script.proofs.breaking.first_broken_use.Given as goal

abbrev pub invariant-loop-rule : goal.invariant-loop-rule
invariant-loop-rule l =
    first_of (λ r. broken_use (ties_in l.ties) l.config r.rule r.rule.action) (drop l.rule-index l.rules)
    ≡ first_of (λ r. broken_use (ties_in l.ties) l.config r.rule r.rule.action) l.rules
