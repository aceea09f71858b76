-- What is wanted at marked keys.
use Rattle.std.specs.Prelude.{◌≡◌, ℕ, List, map, false}
use Rattle.std.specs.declared.option.Option.{Option}
use Rattle.std.specs.FinMap.{get}
use Rattle.std.specs.List.{AllByRecursion, filter}
use Rattle.std.specs.List.Sorted.{IsStrictlySortedBy}
use Rattle.std.specs.Option.{option_map}
use Rattle.ov_types.specs.declared.keys.DownKey.{DownKey}
use Rattle.ov_types.specs.declared.keys.DownValue.{DownValue}
use Rattle.ov_types.specs.declared.vpn.VpnKey.{VpnKey}
use Rattle.ov_types.specs.declared.vpn.VpnRoute.{VpnRoute}
use Rattle.control_wants.specs.NodeCore.Told.{down_value}
use Rattle.vpn_tables.specs.NodeModel.Directions.{down_order, vpn_order}
use Rattle.vpn_tables.specs.NodeModel.Keys.{Key, Vpn, of_down}
use Rattle.vpn_tables.specs.NodeModel.Maps.{Map}
use Rattle.vpn_tables.specs.NodeModel.Paths.{Holdings, Told}
use Rattle.vpn_tables.specs.NodeModel.Values.{Route}
use Rattle.vpn_tables.specs.NodeModel.Wants.{wanted_by_peers}
use Rattle.vpn_tables.specs.Listing.{told_in}
use Rattle.vpn_tables.specs.Views.{peer_of}
use Rattle.vpn_tables.specs.Here.{wanted_on}
use Rattle.control_wants.specs.Marks.{IsCleanItem, IsCleanRoute, Marks, is_of}
use Rattle.control_wants.specs.declared.whom.Whom.{Whom}
use Rattle.control_wants.specs.declared.peers.RoutesWanted.{RoutesWanted}
use Rattle.control_wants.specs.declared.peers.RoutesWanted.TheVariants.{Marked, Whole}

-- each marked key of peers, in order, with what is wanted of it
pub record AreRoutes (d : Marks) (h : Holdings) (es : List (VpnKey × Option VpnRoute)) : Type 0 where
  pub keys : map (λ e. e.0) es ≡ d.routes
  pub ascending : IsStrictlySortedBy vpn_order d.routes
  pub each : AllByRecursion (λ e. option_map Route e.1 ≡ get (wanted_by_peers h) (Vpn e.0)) es

-- all that peers are to have been told, or what is wanted at marked keys
abbrev pub AreRoutesWanted : Marks → Holdings → RoutesWanted → Type 0
AreRoutesWanted d h (Whole m) = peer_of m.entries ≡ wanted_by_peers h
AreRoutesWanted d h (Marked es) = (d.all ≡ false) × AreRoutes d h es.items

-- the keys that are marked of an agent, in order
abbrev pub keys_of : Told → List (DownKey × Whom) → List DownKey
keys_of a items = map (λ e. e.0) (filter (λ e. is_of a e.0 e.1) items)

-- what is wanted of each key on a session stands beside the key
abbrev pub AreEachWanted : Holdings → ℕ → List (DownKey × Option DownValue) → Type 0
AreEachWanted h session es =
    AllByRecursion (λ e. option_map down_value e.1 ≡ get (wanted_on h session) (of_down e.0)) es

-- each key that is marked of a session's agent, in order, with what is wanted of it there
pub record AreItems (d : Marks) (h : Holdings) (session : ℕ) (es : List (DownKey × Option DownValue)) : Type 0 where
  pub keys : map (λ e. e.0) es ≡ keys_of (told_in h.agents session) d.items
  pub ascending : IsStrictlySortedBy down_order (map (λ e. e.0) es)
  pub each : AreEachWanted h session es

-- what was sent is what is wanted where it is not marked
abbrev pub IsSentToPeer : Marks → Holdings → Map → Type 0
IsSentToPeer d h sent = d.all ≡ false → (k : Key) → IsCleanRoute d k → get sent k ≡ get (wanted_by_peers h) k

abbrev pub IsSentToAgent : Marks → Holdings → ℕ → Map → Type 0
IsSentToAgent d h session sent =
    d.all ≡ false → (k : Key) → IsCleanItem d (told_in h.agents session) k → get sent k ≡ get (wanted_on h session) k
