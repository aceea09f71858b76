use Rattle.std.proofs.Common.{◌≡◌, ℕ, drop}
use Rattle.ov_types.specs.First.{first_of, ◌<|>◌}
use Rattle.schedule_script.specs.Kept.{use_in}
use Rattle.schedule_script.specs.Tying.{ends_by}
use Rattle.schedule_script.proofs.joining.tie_uses.Given as goal

abbrev pub invariant-loop-rule : goal.invariant-loop-rule
invariant-loop-rule l =
    (u : ℕ) → (use_in l.uses.entries u <|> first_of (λ r. ends_by l.config r.rule u r.rule.action) (drop l.rule-index l.rules))
    ≡ (use_in l.fn.uses.entries u <|> first_of (λ r. ends_by l.config r.rule u r.rule.action) l.rules)
