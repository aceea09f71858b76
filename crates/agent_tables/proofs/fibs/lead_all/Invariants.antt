use Rattle.std.proofs.Common.{◌≡◌, drop, map}
use Rattle.agent_tables.specs.Touched.{led_all}
use Rattle.agent_tables.specs.Views.{heard_of}
use Rattle.agent_tables.proofs.fibs.lead_all.Given as goal

abbrev pub invariant-loop-key : goal.invariant-loop-key
invariant-loop-key l = record {
  led : led_all (map heard_of l.sessions) l.fibs.entries (drop l.key-index l.keys)
      ≡ led_all (map heard_of l.sessions) l.fn.fibs.entries l.keys;
  instances : map (λ t. t.0) l.fibs.entries ≡ map (λ t. t.0) l.fn.fibs.entries;
}
