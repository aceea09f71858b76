-- Packets that answer others.
use Rattle.std.specs.Prelude.{◌≡◌, ◌≢◌, ℕ, List, Option, option_map}
use Rattle.std.specs.List.{All}
use Rattle.ov_types.specs.declared.packet.RuleNo.{RuleNo}
use Rattle.ov_types.specs.declared.packet.Tuple.{Tuple}
use Rattle.config_types.specs.declared.config.Config.{Config}
use Rattle.config_types.specs.declared.config.Direction.TheVariants.{BothWays}
use Rattle.config_types.specs.declared.config.End.TheVariants.{Named}
use Rattle.config_types.specs.declared.config.Network.{Network}
use Rattle.config_types.specs.declared.config.Rule.{Rule}
use Rattle.policy_rules.specs.Related.{rules_between}
use Rattle.policy_rules.specs.declared.matching.Decision.{Decision}

-- the ports exchanged
abbrev pub answering : Tuple → Tuple
answering t = record { proto = t.proto; sport = t.dport; dport = t.sport }

-- each rule between two networks is of both directions
abbrev pub SpeakBothWays : Config → Network → Network → Type 0
SpeakBothWays c a b = All (λ r. r.rule.direction ≡ BothWays) (rules_between c a b)

-- the ends of a rule are two networks, so that it fits a pair one way only
abbrev pub NamesTwoEnds : Rule → Type 0
NamesTwoEnds r = (x y : List ℕ) × (r.source ≡ Named x) × (r.destination ≡ Named y) × (x ≢ y)

-- the rule of a decision
abbrev pub rule_of : Option Decision → Option RuleNo
rule_of d = option_map (λ x. x.rule) d
