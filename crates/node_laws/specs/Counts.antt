-- The path of several with one key that a control node tells its peers.
use Rattle.std.specs.Prelude.{◌≡◌, ◌<◌, ◌≤◌, ℕ, List, [], ◌∷◌, true, false}
use Rattle.std.specs.declared.option.Option.TheVariants.{Some}
use Rattle.std.specs.FinMap.{get}
use Rattle.ov_types.specs.Prefix.{Block}
use Rattle.ov_types.specs.declared.numbers.InstanceId.{InstanceId}
use Rattle.ov_types.specs.declared.numbers.Label.{Label as LabelNo}
use Rattle.ov_types.specs.declared.vpn.VpnKey.{VpnKey}
use Rattle.ov_types.specs.declared.vpn.VpnRoute.{VpnRoute}
use Rattle.route_targets.specs.Numbers.{distinguisher_of, target_of}
use Rattle.node_model.specs.Members.{Member}
use Rattle.node_model.specs.Keys.{Publish}
use Rattle.node_model.specs.Values.{Label}
use Rattle.node_model.specs.Maps.{Map}
use Rattle.node_model.specs.Uses.{Use, is_known, uses}
use Rattle.node_model.specs.Paths.{Holdings, IsOwnRoute, Path, Told}
use Rattle.node_model.specs.Reaching.{IsReoriginated}

-- agents are listed in the order of their sessions
abbrev pub AreListed : List Told → Type 0
AreListed [] = Unit {0}
AreListed (a ∷ agents) = ((b : Told) → Member b agents → a.session < b.session) × AreListed agents

-- the numbers of held uses tell all of their places apart
pub record AreNumbered (feed : Map) : Type 0 where
  pub numbers : (u : Use) → Member u (uses feed) → u.number ≤ 3071
  pub short : (u : Use) → Member u (uses feed) → u.services ≤ 15

-- the key and the route under which a path is told
abbrev pub HasKey : VpnKey → Path → Type 0
HasKey k p = record { rd = p.rd; prefix = p.prefix } ≡ k

abbrev pub HasRoute : VpnRoute → Path → Type 0
HasRoute r p = record { next_hop = p.next_hop; label = p.label; targets = p.targets } ≡ r

abbrev pub HasNoOwn : Holdings → VpnKey → Type 0
HasNoOwn h k = (q : Path) → IsOwnRoute h q → HasKey k q → ⊥

-- a re-originated path of a right subnet, and of a left one
abbrev pub LeadsRight : Holdings → Path → Type 0
LeadsRight h p = (o : IsReoriginated h p) × (o.side.is_right ≡ true)

abbrev pub LeadsLeft : Holdings → Path → Type 0
LeadsLeft h p = (o : IsReoriginated h p) × (o.side.is_right ≡ false)

-- a path counts at a key: the own route of the lowest session; where there is none, a right subnet's; and where there
-- is none of these, a left one's
pub data Counts (h : Holdings) (k : VpnKey) (p : Path) : Type 0 where
  as_own : IsOwnRoute h p → ((q : Path) → IsOwnRoute h q → HasKey k q → p.session ≤ q.session) → Counts h k p
  as_right : HasNoOwn h k → LeadsRight h p → Counts h k p
  as_left : HasNoOwn h k → ((q : Path) → LeadsRight h q → HasKey k q → ⊥) → LeadsLeft h p → Counts h k p

-- a route is that of a path that counts at its key
abbrev pub IsCounted : Holdings → VpnKey → VpnRoute → Type 0
IsCounted h k r = (p : Path) × HasKey k p × HasRoute r p × Counts h k p

-- an agent tells this label under an instance that is known here and a prefix
pub record Publishes (h : Holdings) (a : Told) (i : InstanceId) (prefix : Block) (label : LabelNo) : Type 0 where
  pub told : Member a h.agents
  pub publishes : get a.map (Publish i prefix) ≡ Some (Label label)
  pub known : is_known h.feed i ≡ true

-- the key under which peers are told what an agent publishes, and the route
abbrev pub published_key : Told → InstanceId → Block → VpnKey
published_key a i prefix = record { rd = distinguisher_of a.address i; prefix = prefix }

abbrev pub published_route : Holdings → Told → InstanceId → LabelNo → VpnRoute
published_route h a i label =
    record { next_hop = a.address; label = label; targets = target_of h.asn i ∷ [] }

-- whoever publishes under this key does so on this session or a higher one
abbrev pub IsLowestSession : Holdings → VpnKey → ℕ → Type 0
IsLowestSession h k session =
    (b : Told) (j : InstanceId) (prefix : Block) (label : LabelNo)
    → Publishes h b j prefix label → published_key b j prefix ≡ k → session ≤ b.session
