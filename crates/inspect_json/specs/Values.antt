-- The JSON values of what lines say: names stand beside numbers, and members are in the order of their names.
use Rattle.std.specs.Prelude.{ℕ, ◌==◌, List, [], codes, find, map, Option, Some, None, option_map}
use Rattle.serde_json.specs.Data.{Data, array, item, member, no_items, no_members, null, number, object, string, unsigned}
use Rattle.serde_json.specs.View.{items_of}
use Rattle.ov_types.specs.declared.numbers.ServiceNo.{ServiceNo}
use Rattle.ov_types.specs.declared.packet.Range16.{Range16}
use Rattle.ov_types.specs.declared.packet.RuleNo.{RuleNo}
use Rattle.config_types.specs.declared.config.Config.{Config}
use Rattle.inspect_changes.specs.declared.way.Passage.{Passage}
use Rattle.inspect_changes.specs.declared.way.Passage.TheVariants as Goes
use Rattle.inspect_changes.specs.declared.way.Way.{Way}

-- the name of the first policy of a sequence
abbrev pub policy_name : Config → ℕ → Option (List ℕ)
policy_name c sequence = option_map (λ p. p.name) (find (λ p. p.sequence == sequence) c.policies)

-- the name of the first service of a number
abbrev pub service_name : Config → ℕ → Option (List ℕ)
service_name c n = option_map (λ s. s.name) (find (λ s. s.id.0 == n) c.services)

-- a name, and `null` where there is none
abbrev pub name_value : Option (List ℕ) → Data
name_value None = null
name_value (Some name) = string name

abbrev pub number_value : ℕ → Data
number_value n = number (unsigned n)

-- a list, of the values of its items
abbrev pub list_value : {A : Type 0} → (A → Data) → List A → Data
list_value value xs = array (items_of (map value xs))

-- a range, by its least number and its greatest
abbrev pub range_value : Range16 → Data
range_value r = array (item (number_value r.lo) (item (number_value r.hi) no_items))

-- a rule, with the name of its policy
unfoldable pub rule_value : Config → RuleNo → Data
rule_value c rule = object (member (codes "policy") (name_value (policy_name c rule.sequence))
    (member (codes "position") (number_value rule.position)
    (member (codes "sequence") (number_value rule.sequence) no_members)))

unfoldable pub service_value : Config → ServiceNo → Data
service_value c s = object (member (codes "id") (number_value s.0)
    (member (codes "name") (name_value (service_name c s.0)) no_members))

-- the word of how packets are let through
abbrev pub passage_word : Passage → List ℕ
passage_word Goes.Straight = codes "passed"
passage_word (Goes.Through services) = codes "through"

abbrev pub passage_services : Passage → List ServiceNo
passage_services Goes.Straight = []
passage_services (Goes.Through services) = services

-- a way, from the network of a name to the one of another
unfoldable pub way_value : Config → List ℕ → List ℕ → Way → Data
way_value c from to w = object (member (codes "destination_ports") (range_value w.region.destination_ports)
    (member (codes "fate") (string (passage_word w.passage))
    (member (codes "from") (string from)
    (member (codes "protocols") (range_value w.region.protocols)
    (member (codes "rule") (rule_value c w.decision.rule)
    (member (codes "services") (list_value (service_value c) (passage_services w.passage))
    (member (codes "source_ports") (range_value w.region.source_ports)
    (member (codes "to") (string to) no_members))))))))
