-- What finds an object by its name, its number or its address.
use Rattle.std.specs.Prelude.{◌≡◌, ◌↔◌, ◌==◌, ◌&&◌, ℕ, List, Option, Some, None, find}
use Rattle.std.specs.List.{All, Contains}
use Rattle.config_types.specs.declared.config.Config.{Config}
use Rattle.config_types.specs.declared.config.Network.{Network}
use Rattle.config_types.specs.declared.config.Port.{Port}
use Rattle.config_types.specs.declared.topology.Node.{Node}
use Rattle.config_types.specs.declared.topology.Topology.{Topology}
use Rattle.ov_types.specs.First.{same_name}

abbrev pub network_named : Config → List ℕ → Option Network
network_named c name = find (λ n. same_name n.name name) c.networks

abbrev pub network_numbered : Config → ℕ → Option Network
network_numbered c number = find (λ n. n.id.0 == number) c.networks

abbrev pub port_numbered : Config → ℕ → Option Port
port_numbered c number = find (λ p. p.id.0 == number) c.ports

-- the port of a network at an address
abbrev pub port_at : Config → Network → ℕ → Option Port
port_at c n address = find (λ p. same_name p.network n.name && (p.address.0 == address)) c.ports

-- the compute node of a name
abbrev pub node_named : Topology → List ℕ → Option Node
node_named t name = find (λ n. same_name n.name name) t.nodes

-- an answer is an item exactly where the list has it and it is the one looked for, and none exactly where none is
pub record Finds {A : Type 0} (found : Option A) (IsIt : A → Type 0) (xs : List A) : Type 0 where
  pub some : (x : A) → (found ≡ Some x) ↔ (Contains xs x × IsIt x)
  pub none : (found ≡ None) ↔ All (λ x. ¬ IsIt x) xs
