-- The instances that a control node needs the routes of.
use Rattle.std.specs.Prelude.{◌≡◌, ◌⊎◌, ◌≤◌, ℕ, Bool, true, ◌&&◌, nat_le, is_some}
use Rattle.std.specs.FinMap.{get}
use Rattle.ov_types.specs.declared.numbers.InstanceId.{InstanceId}
use Rattle.route_targets.specs.Numbers.{circuit_instance_of, other_side_of}
use Rattle.node_model.specs.Members.{Member}
use Rattle.node_model.specs.Keys.{Subscribe}
use Rattle.node_model.specs.Maps.{Map}
use Rattle.node_model.specs.Uses.{Use, uses, is_known}
use Rattle.node_model.specs.Paths.{Holdings, Told}
use Rattle.node_model.specs.Reaching.{publisher}

-- an agent subscribed an instance here
pub record IsSubscribedHere (h : Holdings) (i : InstanceId) : Type 0 where
  pub agent : Told
  pub told : Member agent h.agents
  pub subscribes : is_some (get agent.map (Subscribe i)) ≡ true

-- the numbers of circuits: from the left one of the first service of use 0 to the right one of service 15 of use 3071
abbrev pub is_circuit : ℕ → Bool
is_circuit n = nat_le 32769 n && nat_le n 131070

-- the instance of the other side of a circuit
abbrev pub instance_across : ℕ → InstanceId
instance_across circuit = circuit_instance_of (other_side_of circuit)

-- a circuit is published here whose other side is in an instance
pub record IsAcross (h : Holdings) (i : InstanceId) : Type 0 where
  pub circuit : ℕ
  pub numbered : is_circuit circuit ≡ true
  pub published : is_some (publisher h circuit) ≡ true
  pub across : instance_across circuit ≡ i

-- a known instance that an agent subscribed here, or that a circuit published here has on its other side
pub record IsNeeded (h : Holdings) (i : InstanceId) : Type 0 where
  pub known : is_known h.feed i ≡ true
  pub why : IsSubscribedHere h i ⊎ IsAcross h i

-- no held use has a number above 3071, or more than 15 services
abbrev pub UsesFit : Map → Type 0
UsesFit feed = (u : Use) → Member u (uses feed) → (u.number ≤ 3071) × (u.services ≤ 15)
