-- What `scale` writes.
use Rattle.std.specs.Prelude.{ℕ, ◌+◌, List, [], ◌∷◌, ◌++◌}
use Rattle.ov_types.specs.declared.packet.Packet.{Packet}
use Rattle.config_check.specs.Checked.{Checked}
use Rattle.config_types.specs.declared.config.Config.{Config}
use Rattle.scale_out.specs.declared.groups.Group.{Group}
use Rattle.scale_out.specs.Spread.{spread}
use Rattle.report.specs.Outcomes.{spread_line}

-- the outcome of each packet with its visits, the first with a number
abbrev pub spreads_from : Config → List Group → ℕ → List Packet → List ℕ
spreads_from c groups n [] = []
spreads_from c groups n (p ∷ ps) = spread_line n (spread c groups p) ++ spreads_from c groups (n + 1) ps

-- what `scale` writes of a valid configuration, of groups and of packets, which count from 1
unfoldable pub scale_text : Checked → List Group → List Packet → List ℕ
scale_text x groups packets = spreads_from x.config groups 1 packets
