-- The JSON values of what differs between two configurations: an object is named by the one that has it.
use Rattle.std.specs.Prelude.{ℕ, ◌==◌, List, [], codes, find, Option, option_map}
use Rattle.serde_json.specs.Data.{Data, member, no_members, null, object, string}
use Rattle.ov_types.specs.Texts.{address_text, prefix_text}
use Rattle.ov_types.specs.declared.numbers.ServiceNo.{ServiceNo}
use Rattle.config_types.specs.declared.config.Config.{Config}
use Rattle.inspect_changes.specs.declared.fate.Difference.{Difference}
use Rattle.inspect_changes.specs.declared.fate.Fate.{Fate}
use Rattle.inspect_changes.specs.declared.fate.Fate.TheVariants.{Passed, Through, Denied, Unmatched}
use Rattle.inspect_changes.specs.declared.objects.Object.{Object}
use Rattle.inspect_changes.specs.declared.objects.Object.TheVariants as Is
use Rattle.inspect_json.specs.Values.{list_value, name_value, number_value, range_value, rule_value, service_name, service_value}

-- the name of the first port of a number
abbrev pub port_name : Config → ℕ → Option (List ℕ)
port_name c number = option_map (λ p. p.name) (find (λ p. p.id.0 == number) c.ports)

unfoldable pub network_value : List ℕ → Data
network_value name = object (member (codes "kind") (string (codes "network"))
    (member (codes "name") (string name) no_members))

unfoldable pub subnet_value : List ℕ → List ℕ → Data
subnet_value network prefix = object (member (codes "kind") (string (codes "subnet"))
    (member (codes "network") (string network)
    (member (codes "prefix") (string prefix) no_members)))

-- a port, of this number, network, address and node
unfoldable pub port_value : Config → ℕ → List ℕ → List ℕ → List ℕ → Data
port_value c number network address node = object (member (codes "address") (string address)
    (member (codes "id") (number_value number)
    (member (codes "kind") (string (codes "port"))
    (member (codes "name") (name_value (port_name c number))
    (member (codes "network") (string network)
    (member (codes "node") (string node) no_members))))))

-- a service, of this number and node
unfoldable pub service_object_value : Config → ℕ → List ℕ → Data
service_object_value c number node = object (member (codes "id") (number_value number)
    (member (codes "kind") (string (codes "service"))
    (member (codes "name") (name_value (service_name c number))
    (member (codes "node") (string node) no_members))))

-- an object of a configuration
abbrev pub object_value : Config → Object → Data
object_value c (Is.Network name) = network_value name
object_value c (Is.Subnet network prefix) = subnet_value network (prefix_text prefix)
object_value c (Is.Port number network address node) = port_value c number.0 network (address_text address.0) node
object_value c (Is.Service number node) = service_object_value c number.0 node

-- an object that one of two configurations has alone: it went, or it came
unfoldable pub went_value : Config → Object → Data
went_value c o = object (member (codes "went") (object_value c o) no_members)

unfoldable pub came_value : Config → Object → Data
came_value c o = object (member (codes "came") (object_value c o) no_members)

-- the word of what becomes of packets: `denied` where no rule decides too
abbrev pub fate_word : Fate → List ℕ
fate_word (Passed rule) = codes "passed"
fate_word (Through rule services) = codes "through"
fate_word (Denied rule) = codes "denied"
fate_word Unmatched = codes "denied"

-- the rule that decides, and `null` where none does
abbrev pub fate_rule : Config → Fate → Data
fate_rule c (Passed rule) = rule_value c rule
fate_rule c (Through rule services) = rule_value c rule
fate_rule c (Denied rule) = rule_value c rule
fate_rule c Unmatched = null

abbrev pub fate_services : Fate → List ServiceNo
fate_services (Through rule services) = services
fate_services _ = []

-- what becomes of packets in a configuration
unfoldable pub fate_value : Config → Fate → Data
fate_value c f = object (member (codes "fate") (string (fate_word f))
    (member (codes "rule") (fate_rule c f)
    (member (codes "services") (list_value (service_value c) (fate_services f)) no_members)))

-- a difference between two configurations
unfoldable pub difference_value : Config → Config → Difference → Data
difference_value c d x = object (member (codes "becomes") (fate_value d x.becomes)
    (member (codes "destination_ports") (range_value x.region.destination_ports)
    (member (codes "from") (string x.from)
    (member (codes "protocols") (range_value x.region.protocols)
    (member (codes "source_ports") (range_value x.region.source_ports)
    (member (codes "to") (string x.to)
    (member (codes "was") (fate_value c x.was) no_members)))))))
