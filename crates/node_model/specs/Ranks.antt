-- The rank of each key: what a node wants at a key depends on what it holds at keys of lower rank alone.
--     the feed 1; slices 2; publications and subscriptions 3; rows of agents 5 more than the services of the longest
--     chain
--     between control nodes 4 and, of a re-originated subnet, how far its place stands from the end of its side
use Rattle.std.specs.Prelude.{◌≡◌, ℕ, ◌+◌, ◌-◌, ◌%◌, ◌<◌, ◌≤◌, [], ◌∷◌, false, if◌then◌else◌, nat_le}
use Rattle.std.specs.declared.option.Option.{Option}
use Rattle.std.specs.declared.option.Option.TheVariants.{Some, None}
use Rattle.std.specs.List.{list_any, AllZip}
use Rattle.std.specs.FinMap.{get}
use Rattle.ov_types.specs.Prefix.{Block, is_inside}
use Rattle.ov_types.specs.declared.numbers.InstanceId.{InstanceId}
use Rattle.ov_types.specs.declared.numbers.Rd.{Rd}
use Rattle.ov_types.specs.declared.objects.LowKey.{LowKey}
use Rattle.ov_types.specs.declared.vpn.VpnKey.{VpnKey}
use Rattle.ov_types.specs.declared.vpn.VpnRoute.{VpnRoute}
use Rattle.route_targets.specs.Numbers.{target_of}
use Rattle.node_model.specs.Members.{Member}
use Rattle.node_model.specs.Keys.{Key, Low, Vpn}
use Rattle.node_model.specs.Values.{Route}
use Rattle.node_model.specs.Maps.{Map}
use Rattle.node_model.specs.Uses.{Use, uses, is_hop, place_of, held_use}
use Rattle.node_model.specs.Paths.{Holdings, Told}
use Rattle.node_model.specs.Tables.{same_prefix}
use Rattle.node_model.specs.Agent as agent

-- the instance in a distinguisher
abbrev pub instance_in : Rd → InstanceId
instance_in rd = record { 0 = rd.0 % 65536 }

-- how far place j stands from the end of the side that a prefix is a subnet of; 0 for what is no subnet of the use
abbrev pub depth_in : Block → ℕ → Option Use → ℕ
depth_in prefix j None = 0
depth_in prefix j (Some u) =
    if nat_le j u.services
    then (if list_any (same_prefix prefix) u.right_subnets then u.services - j
    else if list_any (same_prefix prefix) u.left_subnets then j
    else 0)
    else 0

abbrev pub depth : Map → InstanceId → Block → ℕ
depth feed i prefix = if is_hop i then depth_in prefix (place_of i) (held_use feed i) else 0

-- between control nodes
abbrev pub peer_rank : Map → Key → ℕ
peer_rank feed (Vpn k) = 4 + depth feed (instance_in k.rd) k.prefix
peer_rank feed _ = 4

-- ---- what the ranks stand on
-- the held uses are within their ranges, and no subnet of one side lies within one of the other
pub record AreOrdered (feed : Map) : Type 0 where
  pub numbers : (u : Use) → Member u (uses feed) → u.number ≤ 3071
  pub short : (u : Use) → Member u (uses feed) → u.services ≤ 15
  pub lefts : (u : Use) → Member u (uses feed) → u.left.0 < 16384
  pub rights : (u : Use) → Member u (uses feed) → u.right.0 < 16384
  pub right_in_left : (u : Use) (l r : Block) → Member u (uses feed) → Member l u.left_subnets
      → Member r u.right_subnets → is_inside r l ≡ false
  pub left_in_right : (u : Use) (l r : Block) → Member u (uses feed) → Member l u.left_subnets
      → Member r u.right_subnets → is_inside l r ≡ false

-- each route has exactly the target of its distinguisher's instance
abbrev pub IsTargeted : ℕ → Map → Type 0
IsTargeted asn m =
    (k : VpnKey) (r : VpnRoute) → get m (Vpn k) ≡ Some (Route r) → r.targets ≡ target_of asn (instance_in k.rd) ∷ []

-- ---- two holdings that agree at the keys of some ranks
abbrev pub AgreeBelow : Map → ℕ → Map → Map → Type 0
AgreeBelow feed rank m n = (k : Key) → peer_rank feed k ≤ rank → get m k ≡ get n k

pub record SameTold (a b : Told) : Type 0 where
  pub session : a.session ≡ b.session
  pub address : a.address ≡ b.address
  pub keys : (k : Key) → get a.map k ≡ get b.map k

-- control nodes of one configuration, with the same sessions, that agree at all keys up to a rank
pub record Agree (rank : ℕ) (h g : Holdings) : Type 0 where
  pub asn : h.asn ≡ g.asn
  pub feed : h.feed ≡ g.feed
  pub agents : 3 ≤ rank → AllZip SameTold h.agents g.agents
  pub peers : AllZip (AgreeBelow h.feed rank) h.peers g.peers

-- agents of which the same sessions are up, and that agree at the objects of their slices
pub record SameSlice (s t : agent.Heard) : Type 0 where
  pub up : s.is_up ≡ t.is_up
  pub objects : (k : LowKey) → get s.map (Low k) ≡ get t.map (Low k)
