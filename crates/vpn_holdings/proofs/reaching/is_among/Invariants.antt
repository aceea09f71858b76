use Rattle.std.proofs.Common.{◌≡◌, drop}
use Rattle.std.specs.List.{list_any}
use Rattle.path_select.specs.NodeModel.Tables.{same_prefix}
use Rattle.vpn_holdings.proofs.reaching.is_among.Given as goal

abbrev pub invariant-loop-other : goal.invariant-loop-other
invariant-loop-other l = list_any (same_prefix l.subnet) (drop l.other-index l.subnets) ≡ list_any (same_prefix l.subnet) l.subnets
