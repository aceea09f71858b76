-- What scenarios are, in words that do not say how they are made.
use Rattle.std.specs.Prelude.{◌≡◌, ℕ, ◌+◌, ◌*◌, ⊤, List, [], ◌∷◌, map, IsTrue}
use Rattle.std.specs.List.{Contains, flat_map, list_any}
use Rattle.ov_types.specs.Prefix.{contains}
use Rattle.config_types.specs.declared.config.Action.{Action}
use Rattle.config_types.specs.declared.config.Action.TheVariants.{Pass, Deny, Through}
use Rattle.config_types.specs.declared.config.Config.{Config}
use Rattle.config_types.specs.declared.config.Network.{Network}
use Rattle.config_types.specs.declared.config.Policy.{Policy}
use Rattle.config_types.specs.declared.config.Port.{Port}
use Rattle.config_types.specs.declared.edit.Edit.{Edit}
use Rattle.config_types.specs.declared.edit.Edit.TheVariants.{Delete}
use Rattle.config_types.specs.declared.edit.ObjectKind.TheVariants as Kinds
use Rattle.config_types.specs.declared.event.Event.{Event}
use Rattle.config_types.specs.declared.event.Event.TheVariants as Events
use Rattle.scenario_gen.specs.Naming.{address}
use Rattle.scenario_gen.specs.Networks.{subnet}
use Rattle.scenario_gen.specs.Nodes.{topology}
use Rattle.scenario_gen.specs.Ports.{network_at}
use Rattle.scenario_gen.specs.Scenario.{config}

-- the use of a chain that an action is
abbrev pub use_of : Action → List ℕ
use_of (Through chain number) = number ∷ []
use_of Pass = []
use_of Deny = []

-- the uses of chains of policies, in order
abbrev pub uses_of : List Policy → List ℕ
uses_of policies = flat_map (λ r. use_of r.action) (flat_map (λ p. p.rules) policies)

-- a network of tenant t at a place among its four: its name, its number, and its one subnet
pub record IsNetworkAt (t place : ℕ) (x : Network) : Type 0 where
  pub name : x.name ≡ network_at t place
  pub number : x.id.0 ≡ 4 * t + place + 1
  pub subnets : x.subnets ≡ subnet place ∷ []

-- a port in that network, at the last octet of an address
pub record IsPortAt (t place octet : ℕ) (p : Port) : Type 0 where
  pub network : p.network ≡ network_at t place
  pub address : p.address ≡ address 10 place 0 octet

-- the network of a port is there, and the port's address is in one of its subnets
pub record HasNetwork (c : Config) (p : Port) : Type 0 where
  pub network : Network
  pub there : Contains c.networks network
  pub name : network.name ≡ p.network
  pub inside : IsTrue (list_any (λ b. contains b p.address.0) network.subnets)

abbrev pub controller_names : List (List ℕ)
controller_names = map (λ x. x.name) topology.controllers

abbrev pub node_names : List (List ℕ)
node_names = map (λ x. x.name) topology.nodes

abbrev pub port_names : ℕ → List (List ℕ)
port_names n = map (λ p. p.name) (config n).ports

-- what an edit deletes is there
abbrev pub DeletesWhatIs : ℕ → Edit → Type 0
DeletesWhatIs n (Delete Kinds.Port name) = Contains (port_names n) name
DeletesWhatIs n edit = ⊤

-- the nodes and objects that an event names are there
abbrev pub NamesWhatIs : ℕ → Event → Type 0
NamesWhatIs n (Events.Lose a b) = Contains controller_names a × Contains controller_names b
NamesWhatIs n (Events.Restart node) = Contains node_names node
NamesWhatIs n (Events.Edit edit) = DeletesWhatIs n edit
NamesWhatIs n event = ⊤
