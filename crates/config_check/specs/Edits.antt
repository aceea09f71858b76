-- What an edit makes of a topology and a configuration, and when it is refused.
use Rattle.std.specs.Prelude.{◌≡◌, ℕ, List, [], ◌∷◌, ◌++◌, Bool, Option, Some, None, option_map, is_some, position}
use Rattle.std.specs.Prelude.{remove, slice_set, if◌then◌else◌}
use Rattle.std.specs.Option.{option_map_or}
use Rattle.ov_types.specs.First.{same_name, ◌<|>◌}
use Rattle.config_types.specs.declared.config.Chain.{Chain}
use Rattle.config_types.specs.declared.config.Config.{Config}
use Rattle.config_types.specs.declared.config.Network.{Network}
use Rattle.config_types.specs.declared.config.Policy.{Policy}
use Rattle.config_types.specs.declared.config.Port.{Port}
use Rattle.config_types.specs.declared.config.Service.{Service}
use Rattle.config_types.specs.declared.topology.Node.{Node}
use Rattle.config_types.specs.declared.topology.Topology.{Topology}
use Rattle.config_types.specs.declared.edit.Edit.{Edit}
use Rattle.config_types.specs.declared.edit.Edit.TheVariants.{Put, Delete}
use Rattle.config_types.specs.declared.edit.Object.{Object}
use Rattle.config_types.specs.declared.edit.Object.TheVariants as Objects
use Rattle.config_types.specs.declared.edit.ObjectKind.{ObjectKind}
use Rattle.config_types.specs.declared.edit.ObjectKind.TheVariants as Kinds
use Rattle.config_check.specs.declared.edits.EditFault.{EditFault}
use Rattle.config_check.specs.declared.edits.EditFault.TheVariants.{Missing, Rule}
use Rattle.config_check.specs.declared.edits.EditRefusal.{EditRefusal}
use Rattle.config_check.specs.declared.edits.EditRefusal.TheVariants as Refusals
use Rattle.config_check.specs.Rules.{first_broken}
use Rattle.config_check.specs.Checked.{Checked}

-- the place of the first object of a name
abbrev pub place_of : {A : Type 0} → (A → List ℕ) → List ℕ → List A → Option ℕ
place_of name_of name xs = position (λ x. same_name (name_of x) name) xs

-- a list with an object put: in the place of the one of its name, or appended
abbrev pub with_put : {A : Type 0} → (A → List ℕ) → A → List A → List A
with_put name_of x xs = option_map_or (λ i. slice_set xs i x) (place_of name_of (name_of x) xs) (xs ++ x ∷ [])

-- a list without the object of a name
abbrev pub without : {A : Type 0} → (A → List ℕ) → List ℕ → List A → List A
without name_of name xs = option_map_or (λ i. remove xs i) (place_of name_of name xs) xs

abbrev pub network_name : Network → List ℕ
network_name n = n.name

abbrev pub port_name : Port → List ℕ
port_name p = p.name

abbrev pub policy_name : Policy → List ℕ
policy_name p = p.name

abbrev pub service_name : Service → List ℕ
service_name s = s.name

abbrev pub chain_name : Chain → List ℕ
chain_name d = d.name

abbrev pub node_name : Node → List ℕ
node_name n = n.name

-- one of a kind has a name
abbrev pub has_object : ObjectKind → List ℕ → Checked → Bool
has_object Kinds.Network name v = is_some (place_of network_name name v.config.networks)
has_object Kinds.Port name v = is_some (place_of port_name name v.config.ports)
has_object Kinds.Policy name v = is_some (place_of policy_name name v.config.policies)
has_object Kinds.Service name v = is_some (place_of service_name name v.config.services)
has_object Kinds.Chain name v = is_some (place_of chain_name name v.config.chains)
has_object Kinds.Node name v = is_some (place_of node_name name v.topology.nodes)

abbrev pub with_object : Object → Config → Config
with_object (Objects.Network x) c = record c { networks = with_put network_name x c.networks }
with_object (Objects.Port x) c = record c { ports = with_put port_name x c.ports }
with_object (Objects.Policy x) c = record c { policies = with_put policy_name x c.policies }
with_object (Objects.Service x) c = record c { services = with_put service_name x c.services }
with_object (Objects.Chain x) c = record c { chains = with_put chain_name x c.chains }
with_object (Objects.Node x) c = c

abbrev pub without_object : ObjectKind → List ℕ → Config → Config
without_object Kinds.Network name c = record c { networks = without network_name name c.networks }
without_object Kinds.Port name c = record c { ports = without port_name name c.ports }
without_object Kinds.Policy name c = record c { policies = without policy_name name c.policies }
without_object Kinds.Service name c = record c { services = without service_name name c.services }
without_object Kinds.Chain name c = record c { chains = without chain_name name c.chains }
without_object Kinds.Node name c = c

-- compute nodes alone stand in the topology
abbrev pub with_node : Object → Topology → Topology
with_node (Objects.Node x) t = record t { nodes = with_put node_name x t.nodes }
with_node _ t = t

abbrev pub without_node : ObjectKind → List ℕ → Topology → Topology
without_node Kinds.Node name t = record t { nodes = without node_name name t.nodes }
without_node _ name t = t

-- what an edit makes of a configuration, and of a topology
unfoldable pub edited_config : Edit → Config → Config
edited_config (Put x) c = with_object x c
edited_config (Delete kind name) c = without_object kind name c

unfoldable pub edited_topology : Edit → Topology → Topology
edited_topology (Put x) t = with_node x t
edited_topology (Delete kind name) t = without_node kind name t

abbrev pub edited : Edit → Checked → Checked
edited e v = record { topology = edited_topology e v.topology; config = edited_config e v.config }

-- the name that an edit deletes, where no object of its kind has it
unfoldable pub missing_name : Edit → Checked → Option (List ℕ)
missing_name (Put x) v = None
missing_name (Delete kind name) v = if has_object kind name v then None else Some name

-- the fault of an edit, if it has one: what it deletes is missing, or what it makes breaks a rule
unfoldable pub edit_fault : Checked → Edit → Option EditFault
edit_fault v e =
    option_map (λ name. Missing name) (missing_name e v)
    <|> option_map (λ r. Rule r) (first_broken (edited_topology e v.topology) (edited_config e v.config))

-- a refusal names the fault that was found; want of memory says nothing
abbrev pub RefusesEdit : EditRefusal → Option EditFault → Type 0
RefusesEdit (Refusals.Edit f) found = found ≡ Some f
RefusesEdit Refusals.NoMemory found = Unit {0}
