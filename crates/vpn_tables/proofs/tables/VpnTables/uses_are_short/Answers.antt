use Rattle.std.proofs.Common.{subst}
use Rattle.path_select.specs.NodeModel.Paths.{Holdings}
use Rattle.path_select.specs.NodeModel.Reaching.{AreShort}
use Rattle.vpn_tables.proofs.tables.VpnTables.uses_are_short.Goals as goal

pub returns : goal.returns
returns c = subst (λ (h : Holdings). AreShort h.feed) c.self.view_is c.uses_are_short.ensures
