-- The JSON values of what becomes of a packet.
use Rattle.std.specs.Prelude.{ℕ, List, codes, Option, Some, None}
use Rattle.serde_json.specs.Data.{Data, member, no_members, null, object, string}
use Rattle.ov_types.specs.declared.numbers.PortNo.{PortNo}
use Rattle.ov_types.specs.declared.numbers.ServiceNo.{ServiceNo}
use Rattle.ov_types.specs.declared.packet.Outcome.{Outcome}
use Rattle.ov_types.specs.declared.packet.Outcome.TheVariants as Comes
use Rattle.ov_types.specs.declared.packet.RuleNo.{RuleNo}
use Rattle.ov_types.specs.declared.packet.Why.{Why}
use Rattle.ov_types.specs.declared.packet.Why.TheVariants as Reason
use Rattle.config_types.specs.declared.config.Config.{Config}
use Rattle.inspect_json.specs.ChangeValues.{port_name}
use Rattle.inspect_json.specs.Values.{list_value, name_value, number_value, rule_value, service_value}

unfoldable pub port_number_value : Config → PortNo → Data
port_number_value c port = object (member (codes "id") (number_value port.0)
    (member (codes "name") (name_value (port_name c port.0)) no_members))

-- a packet comes to a port, through services
unfoldable pub delivered_value : Config → PortNo → List ServiceNo → Data
delivered_value c port services = object (member (codes "fate") (string (codes "delivered"))
    (member (codes "port") (port_number_value c port)
    (member (codes "services") (list_value (service_value c) services) no_members)))

-- the word of why a packet is dropped
abbrev pub why_word : Why → List ℕ
why_word Reason.NoSourcePort = codes "no-source-port"
why_word Reason.NoDestination = codes "no-destination"
why_word Reason.NoRoute = codes "no-route"
why_word (Reason.Denied rule) = codes "denied"
why_word Reason.NoLabel = codes "no-label"
why_word Reason.TtlExpired = codes "ttl-expired"

-- the rule that denies a packet, and `null` where none does
abbrev pub denier_value : Config → Option RuleNo → Data
denier_value c None = null
denier_value c (Some rule) = rule_value c rule

abbrev pub why_rule : Config → Why → Data
why_rule c (Reason.Denied rule) = denier_value c rule
why_rule c _ = null

unfoldable pub dropped_value : Config → Why → Data
dropped_value c why = object (member (codes "fate") (string (codes "dropped"))
    (member (codes "rule") (why_rule c why)
    (member (codes "why") (string (why_word why)) no_members)))

abbrev pub outcome_value : Config → Outcome → Data
outcome_value c (Comes.Delivered port services) = delivered_value c port services
outcome_value c (Comes.Dropped why) = dropped_value c why

-- a packet is to be dropped, for a reason where one is named
unfoldable pub to_drop_value : Data
to_drop_value = object (member (codes "fate") (string (codes "dropped")) no_members)

unfoldable pub to_drop_why_value : List ℕ → Data
to_drop_why_value why = object (member (codes "fate") (string (codes "dropped"))
    (member (codes "why") (string why) no_members))
