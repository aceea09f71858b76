use Rattle.std.proofs.Common.{◌≡◌, drop, map}
use Rattle.std.specs.List.{list_any}
use Rattle.config_check.specs.Between.{also_leads}
use Rattle.schedule_script.proofs.relating.some_also_leads.Given as goal

abbrev pub invariant-loop-policy : goal.invariant-loop-policy
invariant-loop-policy l = list_any (also_leads l.network l.other) (map (λ p. p.now) (drop l.policy-index l.policies)) ≡ list_any (also_leads l.network l.other) (map (λ p. p.now) l.policies)
