-- What a control node has received and which instances it knows, as relations.
use Rattle.std.specs.Prelude.{◌≡◌, ◌⊎◌, ℕ, ◌+◌, ◌<◌, ◌≤◌, length}
use Rattle.std.specs.declared.option.Option.TheVariants.{Some}
use Rattle.std.specs.FinMap.{get}
use Rattle.ov_types.specs.Prefix.{Block}
use Rattle.ov_types.specs.declared.numbers.InstanceId.{InstanceId}
use Rattle.ov_types.specs.declared.objects.LowKey.TheVariants as key
use Rattle.ov_types.specs.declared.objects.LowValue.{LowValue}
use Rattle.ov_types.specs.declared.rows.TableRow.{TableRow}
use Rattle.route_targets.specs.Numbers.{target_of}
use Rattle.node_model.specs.Members.{Member}
use Rattle.node_model.specs.Keys.{Vpn}
use Rattle.node_model.specs.Values.{Route}
use Rattle.node_model.specs.Maps.{Map, object}
use Rattle.node_model.specs.Uses.{Use, hop, imports, uses}
use Rattle.node_model.specs.Paths.{Holdings, IsOwnRoute, Path}
use Rattle.node_model.specs.Tables.{table}
use Rattle.node_model.specs.Step.{At}

-- a path is of a route that a peer told, under its distinguisher and prefix. The first peer is that of session 1
pub record IsPeerRoute (h : Holdings) (p : Path) : Type 0 where
  pub place : ℕ
  pub told : Map
  pub within : place < length h.peers
  pub at : At h.peers place told
  pub route : get told (Vpn (record { rd = p.rd; prefix = p.prefix }))
      ≡ Some (Route (record { next_hop = p.next_hop; label = p.label; targets = p.targets }))
  pub session : p.session ≡ 1 + place

-- one of its targets is that of an instance that is imported here
pub record HasImportedTarget (h : Holdings) (i : InstanceId) (p : Path) : Type 0 where
  pub imported : InstanceId
  pub imports_it : Member imported (imports h.feed i)
  pub has_target : Member (target_of h.asn imported) p.targets

-- a path is received in an instance: it is an own route or a peer's, and has the target of an import
abbrev pub IsReceived : Holdings → InstanceId → Path → Type 0
IsReceived h i p = (IsOwnRoute h p ⊎ IsPeerRoute h p) × HasImportedTarget h i p

-- an instance is known: that of a held network, or that of a place of a held use
pub data IsKnown (feed : Map) (i : InstanceId) : Type 0 where
  of_network : (v : LowValue) → object feed (key.Instance i.0) ≡ Some v → IsKnown feed i
  of_place : (u : Use) (j : ℕ) → Member u (uses feed) → j ≤ u.services → i ≡ hop u j → IsKnown feed i

-- networks have numbers below those of places
abbrev pub AreNetworks : Map → Type 0
AreNetworks feed = (n : ℕ) (v : LowValue) → object feed (key.Instance n) ≡ Some v → n < 16384

-- a row is shown: it is of the path selected for its prefix in a known instance
pub record IsShown (h : Holdings) (i : InstanceId) (prefix : Block) (row : TableRow) : Type 0 where
  pub known : IsKnown h.feed i
  pub path : Path
  pub selected : get (table h i) prefix ≡ Some path
  pub row_is : row ≡ record { rd = path.rd; next_hop = path.next_hop; label = path.label }
