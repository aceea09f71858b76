-- What a configuration and its topology tie, and the ties with one configuration more. Nothing is ever removed.
use Rattle.std.specs.Prelude.{ℕ, ◌==◌, ◌&&◌, ◌||◌, Bool, false, List, Option, Some, None, option_map, option_and_then}
use Rattle.std.specs.Prelude.{if◌then◌else◌}
use Rattle.std.specs.List.{list_any}
use Rattle.ov_types.specs.First.{first_of, ◌<|>◌}
use Rattle.ov_types.specs.declared.numbers.InstanceId.{InstanceId}
use Rattle.ov_types.specs.declared.numbers.PortNo.{PortNo}
use Rattle.ov_types.specs.declared.prefix.Addr.{Addr}
use Rattle.config_types.specs.declared.config.Action.{Action}
use Rattle.config_types.specs.declared.config.Action.TheVariants.{Pass, Deny, Through}
use Rattle.config_types.specs.declared.config.Config.{Config}
use Rattle.config_types.specs.declared.config.End.{End}
use Rattle.config_types.specs.declared.config.End.TheVariants.{Any, Named}
use Rattle.config_types.specs.declared.config.Port.{Port}
use Rattle.config_types.specs.declared.config.Rule.{Rule}
use Rattle.config_types.specs.declared.topology.Node.{Node}
use Rattle.config_types.specs.declared.topology.Topology.{Topology}
use Rattle.policy_rules.specs.Related.{all_rules, are_related}
use Rattle.config_check.specs.Checked.{Checked}
use Rattle.config_check.specs.Finding.{network_named, node_named, port_numbered}
use Rattle.schedule_script.specs.Ties.{Ties}

-- ---- of one configuration
-- the number of the network of a name
abbrev pub network_id : Config → List ℕ → Option InstanceId
network_id c name = option_map (λ n. n.id) (network_named c name)

-- the number of the network that an end of a rule names
abbrev pub end_id : Config → End → Option InstanceId
end_id c Any = None
end_id c (Named name) = network_id c name

-- the number of the network of a port
abbrev pub home_id : Config → Port → Option InstanceId
home_id c p = network_id c p.network

-- the network of a port number
abbrev pub port_network : Config → PortNo → Option InstanceId
port_network c p = option_and_then (home_id c) (port_numbered c p.0)

abbrev pub pair_of : Option InstanceId → Option InstanceId → Option (InstanceId × InstanceId)
pair_of (Some left) (Some right) = Some (left, right)
pair_of _ _ = None

-- the two networks that a rule names
abbrev pub ends_of : Config → Rule → Option (InstanceId × InstanceId)
ends_of c r = pair_of (end_id c r.source) (end_id c r.destination)

-- the two networks that a chain rule of this use number names
abbrev pub ends_by : Config → Rule → ℕ → Action → Option (InstanceId × InstanceId)
ends_by c r number Pass = None
ends_by c r number Deny = None
ends_by c r number (Through chain use_no) = if use_no == number then ends_of c r else None

-- the two networks of a use number
abbrev pub use_networks : Config → ℕ → Option (InstanceId × InstanceId)
use_networks c number = first_of (λ r. ends_by c r.rule number r.rule.action) (all_rules c)

-- two networks of these numbers are related
abbrev pub relates : Config → InstanceId → InstanceId → Bool
relates c a b =
    list_any (λ m. (m.id.0 == a.0) && list_any (λ n. (n.id.0 == b.0) && are_related c m n) c.networks) c.networks

-- ---- of one topology
-- the address of the compute node of a name
abbrev pub node_address : Topology → List ℕ → Option Addr
node_address t name = option_map (λ (n : Node). n.address) (node_named t name)

-- the name of the compute node at an address
abbrev pub name_by : Addr → Node → Option (List ℕ)
name_by address n = if n.address.0 == address.0 then Some n.name else None

abbrev pub node_name : Topology → Addr → Option (List ℕ)
node_name t address = first_of (name_by address) t.nodes

-- ---- of several
abbrev pub no_ties : Ties
no_ties = record {
  port = λ p. None;
  chain_use = λ number. None;
  was_related = λ a b. false;
  address = λ name. None;
  name = λ address. None;
}

-- the ties with what is valid then: a number, a name and an address keep their first ties
abbrev pub joined : Ties → Checked → Ties
joined t x = record {
  port = λ p. t.port p <|> port_network x.config p;
  chain_use = λ number. t.chain_use number <|> use_networks x.config number;
  was_related = λ a b. t.was_related a b || relates x.config a b;
  address = λ name. t.address name <|> node_address x.topology name;
  name = λ address. t.name address <|> node_name x.topology address;
}

abbrev pub ties_of : Checked → Ties
ties_of x = joined no_ties x
