-- Which rule decides on a packet between two networks.
use Rattle.std.specs.Prelude.{ℕ, ◌==◌, ◌&&◌, Bool, true, false, Option, Some, None, option_map, if◌then◌else◌}
use Rattle.ov_types.specs.declared.packet.Tuple.{Tuple}
use Rattle.config_types.specs.declared.config.Config.{Config}
use Rattle.config_types.specs.declared.config.Direction.{Direction}
use Rattle.config_types.specs.declared.config.Direction.TheVariants.{OneWay, BothWays}
use Rattle.config_types.specs.declared.config.Network.{Network}
use Rattle.config_types.specs.declared.config.Protocol.{Protocol}
use Rattle.config_types.specs.declared.config.Protocol.TheVariants.{Any, Number}
use Rattle.config_types.specs.declared.config.Rule.{Rule}
use Rattle.policy_rules.specs.declared.numbered.NumberedRule.{NumberedRule}
use Rattle.policy_rules.specs.Related.{fits, rules_between}
use Rattle.ov_types.specs.Access.{in_range}
use Rattle.ov_types.specs.First.{first_of}
use Rattle.policy_rules.specs.declared.matching.Decision.{Decision}
pub use Rattle.policy_rules.specs.declared.matching.Match.{Match}

abbrev pub has_protocol : Protocol → ℕ → Bool
has_protocol Any n = true
has_protocol (Number m) n = m == n

abbrev pub speaks_both_ways : Direction → Bool
speaks_both_ways OneWay = false
speaks_both_ways BothWays = true

-- a rule matches a packet from one network to another as it is written
abbrev pub matches_forwards : Network → Network → Tuple → Rule → Bool
matches_forwards from to t r =
    fits r from to && has_protocol r.protocol t.proto
    && in_range r.source_ports t.sport && in_range r.destination_ports t.dport

-- a rule of both directions matches the packet that answers one that it matches forwards: with the networks and the
-- ports exchanged
abbrev pub matches_mirrored : Network → Network → Tuple → Rule → Bool
matches_mirrored from to t r =
    speaks_both_ways r.direction && fits r to from && has_protocol r.protocol t.proto
    && in_range r.source_ports t.dport && in_range r.destination_ports t.sport

-- how a rule matches: forwards is tried first
abbrev pub match_by : Network → Network → Tuple → NumberedRule → Option Match
match_by from to t r =
    if matches_forwards from to t r.rule then Some (record { rule = r; mirrored = false })
    else (if matches_mirrored from to t r.rule then Some (record { rule = r; mirrored = true }) else None)

-- the first rule between two networks that matches
unfoldable pub deciding : Config → Network → Network → Tuple → Option Match
deciding c from to t = first_of (match_by from to t) (rules_between c from to)

abbrev pub decision_by : Match → Decision
decision_by m = record { rule = m.rule.number; mirrored = m.mirrored }

-- the number of the deciding rule, and whether it matches mirrored
abbrev pub decision : Config → Network → Network → Tuple → Option Decision
decision c from to t = option_map decision_by (deciding c from to t)
