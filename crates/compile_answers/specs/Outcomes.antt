-- What `reach` writes.
use Rattle.std.specs.Prelude.{ℕ, ◌+◌, List, [], ◌∷◌, ◌++◌}
use Rattle.ov_types.specs.declared.packet.Packet.{Packet}
use Rattle.config_check.specs.Checked.{Checked}
use Rattle.config_types.specs.declared.config.Config.{Config}
use Rattle.reach_plain.specs.Reachability.{reachability}
use Rattle.report.specs.Outcomes.{outcome_line}

-- the outcome of each packet, the first with a number
abbrev pub outcomes_from : Config → ℕ → List Packet → List ℕ
outcomes_from c n [] = []
outcomes_from c n (p ∷ ps) = outcome_line n (reachability c p) ++ outcomes_from c (n + 1) ps

-- what `reach` writes of a valid configuration and of packets, which count from 1
unfoldable pub reach_text : Checked → List Packet → List ℕ
reach_text x packets = outcomes_from x.config 1 packets
