use Rattle.std.proofs.Common.{◌≡◌, drop}
use Rattle.std.specs.List.{list_any}
use Rattle.vpn_holdings.specs.Touched.{imports_one}
use Rattle.vpn_holdings.proofs.holdings.VpnHoldings.imports_among.Given as goal

abbrev pub invariant-loop-instance : goal.invariant-loop-instance
invariant-loop-instance l = list_any (imports_one l.self l.targets) (drop l.instance-index l.instances) ≡ list_any (imports_one l.self l.targets) l.instances
