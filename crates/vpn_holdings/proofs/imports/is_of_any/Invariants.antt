use Rattle.std.proofs.Common.{◌≡◌, ◌==◌, map, drop}
use Rattle.std.specs.List.{list_any}
use Rattle.route_targets.specs.Numbers.{target_of}
use Rattle.vpn_holdings.proofs.imports.is_of_any.Given as goal

abbrev pub invariant-loop-instance : goal.invariant-loop-instance
invariant-loop-instance l =
    list_any (λ u. l.wanted.0 == u.0) (map (target_of l.asn) (drop l.instance-index l.instances))
    ≡ list_any (λ u. l.wanted.0 == u.0) (map (target_of l.asn) l.instances)
