-- How ties are kept: their entries, in the order of their numbers.
use Rattle.std.specs.Prelude.{◌≡◌, ◌==◌, ◌||◌, ℕ, Bool, List, Option, Some, None, if◌then◌else◌}
use Rattle.std.specs.declared.cmp.Ordering.{Ordering}
use Rattle.std.specs.BTreeMap.{is_at}
use Rattle.std.specs.Cmp.Lexicographic.{slice_cmp}
use Rattle.std.specs.List.{list_any}
use Rattle.std.specs.Map.{lookup}
use Rattle.std.specs.Ordering.{nat_cmp, ordering_then}
use Rattle.ov_types.specs.First.{same_name, ◌<|>◌}
use Rattle.ov_types.specs.declared.prefix.Addr.{Addr}
use Rattle.ov_types.specs.declared.numbers.InstanceId.{InstanceId}
use Rattle.ov_types.specs.declared.numbers.PortNo.{PortNo}
use Rattle.config_types.specs.declared.config.Config.{Config}
use Rattle.config_types.specs.declared.config.Port.{Port}
use Rattle.config_types.specs.declared.topology.Node.{Node}
use Rattle.schedule_script.specs.Ties.{Ties}
use Rattle.schedule_script.specs.Tying.{home_id}

abbrev pub NetworkPair : Type 0
NetworkPair = InstanceId × InstanceId

-- the network of each port number, the two networks of each use number, the pairs of related networks, the address of
-- each name of a compute node, and the name of each address
pub record Kept : Type 0 where
  pub ports : List (PortNo × InstanceId)
  pub uses : List (ℕ × NetworkPair)
  pub related : List NetworkPair
  pub addresses : List (List ℕ × Addr)
  pub names : List (Addr × List ℕ)

-- ports go by their numbers, pairs by their first network and then the second, names by their octets, and addresses by
-- their numbers
abbrev pub port_cmp : PortNo → PortNo → Ordering
port_cmp p q = nat_cmp p.0 q.0

abbrev pub pair_cmp : NetworkPair → NetworkPair → Ordering
pair_cmp a b = ordering_then (nat_cmp a.0.0 b.0.0) (nat_cmp a.1.0 b.1.0)

abbrev pub name_cmp : List ℕ → List ℕ → Ordering
name_cmp m n = slice_cmp nat_cmp m n

abbrev pub address_cmp : Addr → Addr → Ordering
address_cmp a b = nat_cmp a.0 b.0

abbrev pub port_in : List (PortNo × InstanceId) → PortNo → Option InstanceId
port_in entries p = lookup (is_at (port_cmp p)) entries

abbrev pub use_in : List (ℕ × NetworkPair) → ℕ → Option NetworkPair
use_in entries number = lookup (is_at (nat_cmp number)) entries

abbrev pub are_in : List NetworkPair → InstanceId → InstanceId → Bool
are_in pairs a b = list_any (is_at (pair_cmp (a, b))) pairs

abbrev pub address_in : List (List ℕ × Addr) → List ℕ → Option Addr
address_in entries name = lookup (is_at (name_cmp name)) entries

abbrev pub name_in : List (Addr × List ℕ) → Addr → Option (List ℕ)
name_in entries address = lookup (is_at (address_cmp address)) entries

-- the ties that are kept so
abbrev pub ties_in : Kept → Ties
ties_in k = record {
  port = port_in k.ports;
  chain_use = use_in k.uses;
  was_related = are_in k.related;
  address = address_in k.addresses;
  name = name_in k.names;
}

-- two ties answer alike
pub record AreAlike (s t : Ties) : Type 0 where
  pub ports : (p : PortNo) → s.port p ≡ t.port p
  pub uses : (number : ℕ) → s.chain_use number ≡ t.chain_use number
  pub related : (a b : InstanceId) → s.was_related a b ≡ t.was_related a b
  pub addresses : (name : List ℕ) → s.address name ≡ t.address name
  pub names : (address : Addr) → s.name address ≡ t.name address

-- two networks were related whichever of them comes first, or not
abbrev pub RelatesBothWays : Ties → Type 0
RelatesBothWays t = (a b : InstanceId) → t.was_related a b ≡ t.was_related b a

-- ---- what is added
-- a number that had a tie has it still, and each other has what is added
abbrev pub Adds : {K A : Type 0} → (K → Option A) → (K → Option A) → (K → Option A) → Type 0
Adds {K} old more new = (k : K) → new k ≡ (old k <|> more k)

-- what was related is so still, and what is added is too
abbrev pub Relates : (InstanceId → InstanceId → Bool) → (InstanceId → InstanceId → Bool)
    → (InstanceId → InstanceId → Bool) → Type 0
Relates old more new = (a b : InstanceId) → new a b ≡ (old a b || more a b)

-- the network of a port of this number
abbrev pub home_by : Config → PortNo → Port → Option InstanceId
home_by c p q = if q.id.0 == p.0 then home_id c q else None

-- the address of a compute node of this name
abbrev pub address_by : List ℕ → Node → Option Addr
address_by name n = if same_name n.name name then Some n.address else None
