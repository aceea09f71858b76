-- Where what peers and agents told stands in the order of prefixes.
use Rattle.std.specs.Prelude.{◌≡◌, ◌<◌, ℕ, zero, suc, List, [], ◌∷◌, map, Bool, ◌==◌, ◌&&◌, is_some, if◌then◌else◌}
use Rattle.std.specs.Option.{option_map}
use Rattle.std.specs.declared.cmp.Ordering.{Ordering}
use Rattle.std.specs.declared.option.Option.{Option}
use Rattle.std.specs.declared.option.Option.TheVariants.{Some, None}
use Rattle.std.specs.BTreeMap as tree
use Rattle.std.specs.BTreeMap.{BTreeMap}
use Rattle.std.specs.FinMap.{empty, get}
use Rattle.std.specs.List.{list_any}
use Rattle.ov_types.specs.Prefix.{Block, is_inside}
use Rattle.ov_types.specs.declared.keys.UpKey.{UpKey}
use Rattle.ov_types.specs.declared.keys.UpKey.TheVariants as Up
use Rattle.ov_types.specs.declared.numbers.InstanceId.{InstanceId}
use Rattle.ov_types.specs.declared.numbers.Label.{Label as LabelNo}
use Rattle.ov_types.specs.declared.prefix.Addr.{Addr}
use Rattle.ov_types.specs.declared.targets.Target.{Target}
use Rattle.ov_types.specs.declared.vpn.VpnKey.{VpnKey}
use Rattle.ov_types.specs.declared.vpn.VpnRoute.{VpnRoute}
use Rattle.route_targets.specs.Numbers.{distinguisher_of, target_of}
use Rattle.path_select.specs.NodeModel.Keys.{Publish, Vpn, of_up}
use Rattle.path_select.specs.NodeModel.Maps.{Map, as_label}
use Rattle.path_select.specs.NodeModel.Paths.{Holdings, Told, received}
use Rattle.path_select.specs.NodeModel.Tables.{of_prefix}
use Rattle.path_select.specs.NodeModel.Uses.{imports, is_known}
use Rattle.path_select.specs.NodeModel.Values.{Route, Value}
use Rattle.path_select.specs.declared.selection.Path.{Path}
use Rattle.path_select.specs.Selection.{plain}
use Rattle.vpn_holdings.specs.Listing.{told_in}
use Rattle.vpn_holdings.specs.Moved.{map_at, told_on}
use Rattle.vpn_holdings.specs.declared.places.LabelAt.{LabelAt}
use Rattle.vpn_holdings.specs.declared.places.RouteAt.{RouteAt}
use Rattle.vpn_holdings.specs.contracts.places.LabelAtOrd.TheImpl as label_keys
use Rattle.vpn_holdings.specs.contracts.places.RouteAtOrd.TheImpl as route_keys

abbrev pub route_order : RouteAt → RouteAt → Ordering
route_order = route_keys.ghosts.cmp

abbrev pub label_order : LabelAt → LabelAt → Ordering
label_order = label_keys.ghosts.cmp

-- ---- places
abbrev pub route_at : ℕ → VpnKey → RouteAt
route_at session k = record { addr = record { 0 = k.prefix.addr }; len = k.prefix.len; session = session; rd = k.rd }

abbrev pub label_at : ℕ → InstanceId → Block → LabelAt
label_at session i prefix =
    record { addr = record { 0 = prefix.addr }; len = prefix.len; session = session; instance = i }

abbrev pub is_route_to : Block → RouteAt → Bool
is_route_to prefix k = (k.addr.0 == prefix.addr) && (k.len == prefix.len)

abbrev pub is_label_to : Block → LabelAt → Bool
is_label_to prefix k = (k.addr.0 == prefix.addr) && (k.len == prefix.len)

-- where a publication stands, with its prefix: nowhere where the session is no agent's, and no subscription does
abbrev pub place_of_told : Option Told → ℕ → UpKey → Option (LabelAt × Block)
place_of_told None session k = None
place_of_told (Some a) session (Up.Publish i prefix) = Some (label_at session i prefix, prefix)
place_of_told (Some a) session (Up.Subscribe i) = None

abbrev pub place_told : List Told → ℕ → UpKey → Option (LabelAt × Block)
place_told agents session k = place_of_told (told_on agents session) session k

-- ---- what stands there, by what is held
abbrev pub as_route : Option Value → Option VpnRoute
as_route (Some (Route r)) = Some r
as_route _ = None

-- what a session's peer told. Session 0 is the feed
abbrev pub told_by_peer : List Map → ℕ → Map
told_by_peer maps zero = empty
told_by_peer maps (suc place) = map_at maps place

-- the route that it told at a key
abbrev pub route_of : List Map → ℕ → VpnKey → Option VpnRoute
route_of maps session k = as_route (get (told_by_peer maps session) (Vpn k))

abbrev pub vpn_key : RouteAt → VpnKey
vpn_key k = record { rd = k.rd; prefix = record { addr = k.addr.0; len = k.len } }

abbrev pub route_in : List Map → RouteAt → Option VpnRoute
route_in maps k = route_of maps k.session (vpn_key k)

abbrev pub block_at : LabelAt → Block
block_at k = record { addr = k.addr.0; len = k.len }

abbrev pub label_in : List Told → LabelAt → Option LabelNo
label_in agents k = as_label (get (told_in agents k.session).map (Publish k.instance (block_at k)))

-- the place of each route, and of each publication, is kept with its prefix, and no other place
abbrev pub if_told : {X : Type 0} → Block → Option X → Option Block
if_told b None = None
if_told b (Some x) = Some b

abbrev pub AreRoutes : BTreeMap RouteAt Block → List Map → Type 0
AreRoutes routes maps = (k : RouteAt) → tree.get route_order routes k ≡ if_told (vpn_key k).prefix (route_in maps k)

abbrev pub AreLabels : BTreeMap LabelAt Block → List Told → Type 0
AreLabels labels agents = (k : LabelAt) → tree.get label_order labels k ≡ if_told (block_at k) (label_in agents k)

-- agents stand in the order of their sessions
abbrev pub AreAbove : ℕ → List Told → Type 0
AreAbove session [] = Unit {0}
AreAbove session (a ∷ agents) = (session < a.session) × AreAbove session agents

abbrev pub AreInOrder : List Told → Type 0
AreInOrder [] = Unit {0}
AreInOrder (a ∷ agents) = AreAbove a.session agents × AreInOrder agents

-- ---- the paths of an instance to a prefix, of those that it received
abbrev pub received_at : Holdings → InstanceId → Block → List Path
received_at h i prefix = map plain (of_prefix prefix (received h i))

abbrev pub wanted_by : Holdings → InstanceId → List Target
wanted_by h i = map (target_of h.asn) (imports h.feed i)

abbrev pub has_one : List Target → List Target → Bool
has_one wanted targets = list_any (λ t. list_any (λ u. t.0 == u.0) wanted) targets

-- the path of a route, where it has a wanted target
abbrev pub path_of_route : List Target → RouteAt → Option VpnRoute → Option Path
path_of_route wanted k None = None
path_of_route wanted k (Some r) =
    if has_one wanted r.targets
    then Some (record { session = k.session; rd = k.rd; next_hop = r.next_hop; label = r.label })
    else None

-- the path of the route that is told at a place with its prefix, where it has a wanted target
abbrev pub route_path : Holdings → List Target → RouteAt × Block → Option Path
route_path h wanted e =
    path_of_route wanted e.0 (route_of h.peers e.0.session (record { rd = e.0.rd; prefix = e.1 }))

-- what an agent publishes at a key: its address and the label
abbrev pub published_at : Told → UpKey → Option (Addr × LabelNo)
published_at a k = option_map (λ label. (a.address, label)) (as_label (get a.map (of_up k)))

abbrev pub path_of_label : LabelAt → Option (Addr × LabelNo) → Option Path
path_of_label k None = None
path_of_label k (Some p) =
    Some (record { session = k.session; rd = distinguisher_of p.0 k.instance; next_hop = p.0; label = p.1 })

-- the path of the publication at a place with its prefix, where it is of a known instance and has a wanted target
abbrev pub label_path : Holdings → List Target → LabelAt × Block → Option Path
label_path h wanted e =
    if is_known h.feed e.0.instance
    then (if has_one wanted (target_of h.asn e.0.instance ∷ [])
    then path_of_label e.0 (published_at (told_in h.agents e.0.session) (Up.Publish e.0.instance e.1))
    else None)
    else None

-- ---- what leads within a subnet
abbrev pub is_route_within : Block → RouteAt → Bool
is_route_within subnet k = is_inside (record { addr = k.addr.0; len = k.len }) subnet

abbrev pub is_label_within : Block → LabelAt → Bool
is_label_within subnet k = is_inside (record { addr = k.addr.0; len = k.len }) subnet

abbrev pub leads_route : Holdings → List Target → Block → RouteAt × Block → Bool
leads_route h wanted subnet e = is_route_within subnet e.0 && is_some (route_path h wanted e)

abbrev pub leads_label : Holdings → List Target → Block → LabelAt × Block → Bool
leads_label h wanted subnet e = is_label_within subnet e.0 && is_some (label_path h wanted e)
