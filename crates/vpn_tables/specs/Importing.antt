-- Which rows a change touches, by the targets that it has before and after, in words that their definitions do not use.
use Rattle.std.specs.Prelude.{◌≡◌, ◌⊎◌, ℕ, List}
use Rattle.std.specs.declared.option.Option.{Option}
use Rattle.std.specs.declared.option.Option.TheVariants.{Some, None}
use Rattle.std.specs.FinMap.{get}
use Rattle.ov_sync.specs.declared.Delta.{Delta}
use Rattle.ov_sync.specs.declared.Delta.TheVariants.{Put, Drop}
use Rattle.ov_sync.specs.Keyed.{key_of}
use Rattle.ov_types.specs.Prefix.{Block}
use Rattle.ov_types.specs.declared.keys.UpKey.{UpKey}
use Rattle.ov_types.specs.declared.keys.UpKey.TheVariants as Up
use Rattle.ov_types.specs.declared.numbers.InstanceId.{InstanceId}
use Rattle.ov_types.specs.declared.numbers.Label.{Label as LabelNo}
use Rattle.ov_types.specs.declared.targets.Target.{Target}
use Rattle.ov_types.specs.declared.vpn.VpnKey.{VpnKey}
use Rattle.ov_types.specs.declared.vpn.VpnRoute.{VpnRoute}
use Rattle.route_targets.specs.Numbers.{target_of}
use Rattle.node_model.specs.Keys.{Publish, Vpn}
use Rattle.node_model.specs.Maps.{Map}
use Rattle.node_model.specs.Members.{Member}
use Rattle.node_model.specs.Paths.{Holdings, Told}
use Rattle.node_model.specs.Tables.{known_instances}
use Rattle.node_model.specs.Uses.{Use, imports, uses}
use Rattle.node_model.specs.Values.{Value, Route}
use Rattle.vpn_holdings.specs.Listing.{hops}
use Rattle.vpn_holdings.specs.Moved.{map_at, told_on}

-- ---- rows
-- an instance imports here an instance that has one of these targets
pub record ImportsOneOf (h : Holdings) (targets : List Target) (i : InstanceId) : Type 0 where
  pub import : InstanceId
  pub imported : Member import (imports h.feed i)
  pub targeted : Member (target_of h.asn import) targets

-- the row of the prefix in a known instance that imports an instance with one of these targets
pub record IsAtPrefix (h : Holdings) (targets : List Target) (prefix : Block) (i : InstanceId) (q : Block) : Type 0 where
  pub known : Member i (known_instances h.feed)
  pub importing : ImportsOneOf h targets i
  pub prefix_is : prefix ≡ q

-- the row of a subnet at a place of a held use, of which a place imports an instance with one of these targets
pub record IsAlongUse (h : Holdings) (targets : List Target) (i : InstanceId) (q : Block) : Type 0 where
  pub chain : Use
  pub held : Member chain (uses h.feed)
  pub hop : InstanceId
  pub has_hop : Member hop (hops chain)
  pub importing : ImportsOneOf h targets hop
  pub place : Member i (hops chain)
  pub subnet : Member q chain.left_subnets ⊎ Member q chain.right_subnets

-- ---- targets of a route
-- a route stands there, and has this target
pub record IsOfRoute (o : Option Value) (t : Target) : Type 0 where
  pub route : VpnRoute
  pub stands : o ≡ Some (Route route)
  pub has : Member t route.targets

-- what the peer of a session told of the key
abbrev pub held_of : Holdings → ℕ → VpnKey → Option Value
held_of h place k = get (map_at h.peers place) (Vpn k)

-- what a change puts
abbrev pub route_put : Delta VpnKey VpnRoute → Option Value
route_put (Put k r) = Some (Route r)
route_put (Drop k) = None

-- ---- targets of a publication
-- the change puts something, or drops what was told
abbrev pub PutsOrDrops : Map → Delta UpKey LabelNo → InstanceId → Block → Type 0
PutsOrDrops m (Put k label) i prefix = Unit {0}
PutsOrDrops m (Drop k) i prefix = (v : Value) × (get m (Publish i prefix) ≡ Some v)

-- the agent of the session publishes in an instance by it, or published there before it
pub record IsOfPublication (h : Holdings) (session : ℕ) (d : Delta UpKey LabelNo) (t : Target) : Type 0 where
  pub agent : Told
  pub instance : InstanceId
  pub prefix : Block
  pub told : told_on h.agents session ≡ Some agent
  pub key_is : key_of d ≡ Up.Publish instance prefix
  pub changes : PutsOrDrops agent.map d instance prefix
  pub target : target_of h.asn instance ≡ t
