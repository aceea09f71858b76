-- The keys towards peers that a change of one route, or of one publication, may touch.
use Rattle.std.specs.Prelude.{ℕ, List, [], ◌∷◌, map, Bool, true, ◌==◌, ◌&&◌, if◌then◌else◌}
use Rattle.std.specs.declared.option.Option.{Option}
use Rattle.std.specs.declared.option.Option.TheVariants.{Some, None}
use Rattle.std.specs.List.{filter, flat_map}
use Rattle.ov_types.specs.Prefix.{Block}
use Rattle.ov_types.specs.declared.keys.UpKey.{UpKey}
use Rattle.ov_types.specs.declared.keys.UpKey.TheVariants as Up
use Rattle.ov_types.specs.declared.targets.Target.{Target}
use Rattle.ov_types.specs.declared.vpn.VpnKey.{VpnKey}
use Rattle.route_targets.specs.Numbers.{distinguisher_of}
use Rattle.path_select.specs.NodeModel.Uses.{Use, uses}
use Rattle.path_select.specs.NodeModel.Paths.{Holdings, Path, Told}
use Rattle.path_select.specs.NodeModel.Reaching.{Side, below, into, sides_of}
use Rattle.path_select.specs.NodeModel.Tables.{same_prefix}
use Rattle.vpn_holdings.specs.Moved.{told_on}
use Rattle.vpn_holdings.specs.Touched.{is_touched}

abbrev pub path_key : Path → VpnKey
path_key p = record { rd = p.rd; prefix = p.prefix }

-- the routes that may lead a side's subnets on: towards each circuit that is published here, whether a subnet is up or not
abbrev pub always : Side → Block → ℕ → Bool
always s subnet d = true

abbrev pub may_lead : Holdings → Side → List Path
may_lead h s = flat_map (into always h s) (below s.chain.services)

-- the keys of those along the uses that are touched
abbrev pub keys_along : Holdings → Use → List VpnKey
keys_along h u = flat_map (λ s. map path_key (may_lead h s)) (sides_of u)

abbrev pub keys_led : Holdings → List Target → List VpnKey
keys_led h targets = flat_map (keys_along h) (filter (is_touched h targets) (uses h.feed))

abbrev pub keys_if_touched : Holdings → List Target → Use → List VpnKey
keys_if_touched h targets u = if is_touched h targets u then keys_along h u else []

-- the key of the own route of a publication: none where the session is no agent's, and none of a subscription
abbrev pub published_key : Option Told → UpKey → Option VpnKey
published_key None k = None
published_key (Some a) (Up.Publish i prefix) = Some (record { rd = distinguisher_of a.address i; prefix = prefix })
published_key (Some a) (Up.Subscribe i) = None

abbrev pub key_published : Holdings → ℕ → UpKey → Option VpnKey
key_published h session k = published_key (told_on h.agents session) k

-- the first path of a key
abbrev pub same_key : VpnKey → Path → Bool
same_key k p = (p.rd.0 == k.rd.0) && same_prefix p.prefix k.prefix

abbrev pub first_keyed : VpnKey → List Path → Option Path
first_keyed k [] = None
first_keyed k (p ∷ paths) = if same_key k p then Some p else first_keyed k paths
