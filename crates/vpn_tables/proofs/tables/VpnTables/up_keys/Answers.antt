use Rattle.std.proofs.Common.{subst}
use Rattle.path_select.specs.NodeModel.Paths.{Holdings}
use Rattle.vpn_holdings.specs.Gathered.{UsesAreInRange}
use Rattle.vpn_tables.proofs.tables.VpnTables.up_keys.Goals as goal

pub returns-clause-in_range : goal.returns-clause-in_range
returns-clause-in_range c = subst (λ (h : Holdings). UsesAreInRange h.feed) c.self.view_is c.up_keys.ensures.in_range
