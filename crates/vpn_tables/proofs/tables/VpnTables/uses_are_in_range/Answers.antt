use Rattle.std.proofs.Common.{subst}
use Rattle.path_select.specs.NodeModel.Paths.{Holdings}
use Rattle.vpn_holdings.specs.Gathered.{UsesAreInRange}
use Rattle.vpn_tables.proofs.tables.VpnTables.uses_are_in_range.Goals as goal

pub returns : goal.returns
returns c = subst (λ (h : Holdings). UsesAreInRange h.feed) c.self.view_is c.uses_are_in_range.ensures.in_range
