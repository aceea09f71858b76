use Rattle.std.proofs.Common.{◌≡◌, ◌==◌, drop}
use Rattle.std.specs.List.{list_any}
use Rattle.ov_types.specs.declared.targets.Target.{Target}
use Rattle.vpn_holdings.proofs.imports.Imports.has_any.Given as goal

abbrev pub invariant-loop-wanted : goal.invariant-loop-wanted
invariant-loop-wanted l =
    list_any (λ (t : Target). list_any (λ u. t.0 == u.0) l.self) (drop l.wanted-index l.targets)
    ≡ list_any (λ (t : Target). list_any (λ u. t.0 == u.0) l.self) l.targets
