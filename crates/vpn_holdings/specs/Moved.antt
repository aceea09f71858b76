-- Which paths a change of a route or of a publication moves, and where it publishes.
use Rattle.std.specs.Prelude.{ℕ, zero, suc, List, [], ◌∷◌, ◌++◌, ◌==◌, is_some, nat_lt, if◌then◌else◌}
use Rattle.std.specs.declared.option.Option.{Option}
use Rattle.std.specs.declared.option.Option.TheVariants.{Some, None}
use Rattle.std.specs.List.{cons_option, flat_map}
use Rattle.std.specs.FinMap.{empty, get}
use Rattle.ov_sync.specs.declared.Delta.{Delta}
use Rattle.ov_sync.specs.declared.Delta.TheVariants.{Put, Drop}
use Rattle.ov_sync.specs.Embed.{moved_delta}
use Rattle.ov_sync.specs.Keyed.{key_of}
use Rattle.ov_types.specs.declared.keys.UpKey.{UpKey}
use Rattle.ov_types.specs.declared.keys.UpKey.TheVariants as Up
use Rattle.ov_types.specs.declared.numbers.InstanceId.{InstanceId}
use Rattle.ov_types.specs.declared.numbers.Label.{Label as LabelNo}
use Rattle.ov_types.specs.declared.targets.Target.{Target}
use Rattle.ov_types.specs.declared.vpn.VpnKey.{VpnKey}
use Rattle.ov_types.specs.declared.vpn.VpnRoute.{VpnRoute}
use Rattle.path_select.specs.NodeModel.Keys.{Key, Publish, Vpn, of_up}
use Rattle.path_select.specs.NodeModel.Values.{Value, Route, Label}
use Rattle.path_select.specs.NodeModel.Maps.{Change, Map}
use Rattle.path_select.specs.NodeModel.Paths.{Holdings, Path, Told, own_path, peer_path}
use Rattle.route_targets.specs.Numbers.{target_of}

-- ---- one change of a map
-- what it has the key hold then
abbrev pub value_of : Change → Option Value
value_of (Put k v) = Some v
value_of (Drop k) = None

-- the path that a value of a key is told as
abbrev pub told_as : (Key → Value → Option Path) → Key → Option Value → List Path
told_as told k None = []
told_as told k (Some v) = cons_option (told k v) []

-- the paths of its key before it and after it
abbrev pub moved_in : (Key → Value → Option Path) → Map → Change → List Path
moved_in told m d = told_as told (key_of d) (get m (key_of d)) ++ told_as told (key_of d) (value_of d)

-- ---- a route of a peer
abbrev pub map_at : List Map → ℕ → Map
map_at [] place = empty
map_at (m ∷ maps) zero = m
map_at (m ∷ maps) (suc place) = map_at maps place

abbrev pub moved_by_route : Holdings → ℕ → Delta VpnKey VpnRoute → List Path
moved_by_route h zero d = []
moved_by_route h (suc place) d = moved_in (peer_path (suc place)) (map_at h.peers place) (moved_delta Vpn Route d)

-- the targets of a route before its change and after it
abbrev pub targets_by_route : Holdings → ℕ → Delta VpnKey VpnRoute → List Target
targets_by_route h session d = flat_map (λ (p : Path). p.targets) (moved_by_route h session d)

-- ---- a publication of an agent
-- the agent of a session, among agents in the order of their sessions
abbrev pub told_on : List Told → ℕ → Option Told
told_on [] session = None
told_on (a ∷ agents) session =
    if nat_lt a.session session then told_on agents session
    else if a.session == session then Some a
    else None

abbrev pub moved_by : Holdings → Option Told → Delta UpKey LabelNo → List Path
moved_by h None d = []
moved_by h (Some a) d = moved_in (own_path h a) a.map (moved_delta of_up Label d)

abbrev pub moved_by_publication : Holdings → ℕ → Delta UpKey LabelNo → List Path
moved_by_publication h session d = moved_by h (told_on h.agents session) d

-- the instance in which the agent publishes before it or after it
abbrev pub place_in : Map → Delta UpKey LabelNo → Option InstanceId
place_in m (Put (Up.Publish i prefix) label) = Some i
place_in m (Put (Up.Subscribe i) label) = None
place_in m (Drop (Up.Publish i prefix)) = if is_some (get m (Publish i prefix)) then Some i else None
place_in m (Drop (Up.Subscribe i)) = None

abbrev pub place_by : Option Told → Delta UpKey LabelNo → Option InstanceId
place_by None d = None
place_by (Some a) d = place_in a.map d

abbrev pub place_by_publication : Holdings → ℕ → Delta UpKey LabelNo → Option InstanceId
place_by_publication h session d = place_by (told_on h.agents session) d

abbrev pub target_at : ℕ → Option InstanceId → List Target
target_at asn None = []
target_at asn (Some i) = target_of asn i ∷ []

-- the target of a publication: of one instance, before its change and after it
abbrev pub targets_by_publication : Holdings → ℕ → Delta UpKey LabelNo → List Target
targets_by_publication h session d = target_at h.asn (place_by_publication h session d)
