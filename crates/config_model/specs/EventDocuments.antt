-- The documents of edits and events: a text, or an object with the one member that its word names.
use Rattle.std.specs.Prelude.{ℕ, List, codes}
use Rattle.serde_json.specs.Data.{Data, string, array, object, no_items, item, no_members, member}
use Rattle.config_types.specs.declared.edit.Edit.{Edit}
use Rattle.config_types.specs.declared.edit.Edit.TheVariants.{Put, Delete}
use Rattle.config_types.specs.declared.edit.Object.{Object}
use Rattle.config_types.specs.declared.edit.Object.TheVariants as Objects
use Rattle.config_types.specs.declared.edit.ObjectKind.{ObjectKind}
use Rattle.config_types.specs.declared.edit.ObjectKind.TheVariants as Kinds
use Rattle.config_types.specs.declared.event.Event.{Event}
use Rattle.config_types.specs.declared.event.Event.TheVariants as Events
use Rattle.config_model.specs.declared.input.RunInput.{RunInput}
use Rattle.config_model.specs.Documents.{list_document, number_document, node_document, topology_document}
use Rattle.config_model.specs.Documents.{network_document, port_document, policy_document, service_document, chain_document}
use Rattle.config_model.specs.Documents.{config_document, packet_document}

-- an object with one member
abbrev pub one_document : List ℕ → Data → Data
one_document word d = object (member word d no_members)

abbrev pub kind_word : ObjectKind → List ℕ
kind_word Kinds.Network = codes "network"
kind_word Kinds.Port = codes "port"
kind_word Kinds.Policy = codes "policy"
kind_word Kinds.Service = codes "service"
kind_word Kinds.Chain = codes "chain"
kind_word Kinds.Node = codes "node"

abbrev pub object_document : Object → Data
object_document (Objects.Network x) = one_document (codes "network") (network_document x)
object_document (Objects.Port x) = one_document (codes "port") (port_document x)
object_document (Objects.Policy x) = one_document (codes "policy") (policy_document x)
object_document (Objects.Service x) = one_document (codes "service") (service_document x)
object_document (Objects.Chain x) = one_document (codes "chain") (chain_document x)
object_document (Objects.Node x) = one_document (codes "node") (node_document x)

abbrev pub edit_word : Edit → List ℕ
edit_word (Put x) = codes "put"
edit_word (Delete kind name) = codes "delete"

abbrev pub edit_document : Edit → Data
edit_document (Put x) = one_document (codes "put") (object_document x)
edit_document (Delete kind name) = one_document (codes "delete") (one_document (kind_word kind) (string name))

abbrev pub event_word : Event → List ℕ
event_word (Events.Edit x) = codes "edit"
event_word (Events.Deliver from to n) = codes "deliver"
event_word (Events.DeliverOctets from to n) = codes "deliver-bytes"
event_word (Events.Lose a b) = codes "lose"
event_word (Events.Connect a b) = codes "connect"
event_word (Events.Restart node) = codes "restart"
event_word Events.Round = codes "round"
event_word Events.Settle = codes "settle"
event_word (Events.Show node) = codes "show"
event_word (Events.Trace p) = codes "trace"
event_word (Events.Break from to n) = codes "break"

abbrev pub two_names_document : List ℕ → List ℕ → Data
two_names_document a b = array (item (string a) (item (string b) no_items))

abbrev pub names_and_number_document : List ℕ → List ℕ → ℕ → Data
names_and_number_document from to n =
    array (item (string from) (item (string to) (item (number_document n) no_items)))

abbrev pub event_document : Event → Data
event_document (Events.Edit x) = one_document (codes "edit") (edit_document x)
event_document (Events.Deliver from to n) = one_document (codes "deliver") (names_and_number_document from to n)
event_document (Events.DeliverOctets from to n) =
    one_document (codes "deliver-bytes") (names_and_number_document from to n)
event_document (Events.Lose a b) = one_document (codes "lose") (two_names_document a b)
event_document (Events.Connect a b) = one_document (codes "connect") (two_names_document a b)
event_document (Events.Restart node) = one_document (codes "restart") (string node)
event_document Events.Round = string (codes "round")
event_document Events.Settle = string (codes "settle")
event_document (Events.Show node) = one_document (codes "show") (string node)
event_document (Events.Trace p) = one_document (codes "trace") (packet_document p)
event_document (Events.Break from to n) = one_document (codes "break") (names_and_number_document from to n)

abbrev pub run_document : RunInput → Data
run_document r = object (member (codes "configuration") (config_document r.input.config)
    (member (codes "events") (list_document event_document r.events)
    (member (codes "topology") (topology_document r.input.topology) no_members)))
