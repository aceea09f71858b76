-- What follows of an instance and a prefix, as sessions are told it, and what a change changes of that.
use Rattle.std.specs.Prelude.{◌≡◌, ◌≢◌, List, [], ◌∷◌, Bool, true, false}
use Rattle.std.specs.declared.option.Option.{Option}
use Rattle.std.specs.declared.option.Option.TheVariants.{Some, None}
use Rattle.std.specs.List.{cons_option}
use Rattle.std.specs.Option.{option_map}
use Rattle.ov_types.specs.Prefix.{Block}
use Rattle.ov_types.specs.declared.numbers.InstanceId.{InstanceId}
use Rattle.ov_types.specs.declared.targets.Target.{Target}
use Rattle.ov_types.specs.declared.vpn.VpnKey.{VpnKey}
use Rattle.node_model.specs.Members.{Member}
use Rattle.node_model.specs.Paths.{Holdings, Path}
use Rattle.vpn_holdings.specs.At.{led_at, selected_at}
use Rattle.vpn_holdings.specs.Routes.{path_of}
use Rattle.vpn_holdings.specs.declared.routes.Route.{Route}
use Rattle.vpn_tables.specs.declared.changes.Followed.{Followed}
use Rattle.vpn_tables.specs.declared.changes.RowChange.{RowChange}

-- a route that leads on, as a list of none or one
abbrev pub led_by : Option Route → List Path
led_by r = cons_option (option_map path_of r) []

-- the route that leads on from an end, and the key of a route towards peers
abbrev pub led_of : Bool → Followed → Option Route
led_of true f = f.led_right
led_of false f = f.led_left

abbrev pub led_key : Route → VpnKey
led_key r = record { rd = r.path.rd; prefix = r.prefix }

abbrev pub key_led : Option Route → Option VpnKey
key_led r = option_map led_key r

-- the selected path, and the routes that lead the prefix on into the place of a use that the instance is
pub record IsFollowed (h : Holdings) (i : InstanceId) (q : Block) (f : Followed) : Type 0 where
  pub path : f.path ≡ selected_at h i q
  pub led_right : led_by f.led_right ≡ led_at h i q true
  pub led_left : led_by f.led_left ≡ led_at h i q false

-- something else follows there
pub record HasMoved (h h' : Holdings) (i : InstanceId) (q : Block) : Type 0 where
  pub before : Followed
  pub after : Followed
  pub was : IsFollowed h i q before
  pub is : IsFollowed h' i q after
  pub other : before ≢ after

-- a row change tells what followed, and what follows now, which is something else
pub record IsRowChange (h h' : Holdings) (c : RowChange) : Type 0 where
  pub was : IsFollowed h c.instance c.prefix c.before
  pub is : IsFollowed h' c.instance c.prefix c.after
  pub other : c.before ≢ c.after

pub record IsListed (cs : List RowChange) (i : InstanceId) (q : Block) : Type 0 where
  pub change : RowChange
  pub listed : Member change cs
  pub instance : change.instance ≡ i
  pub prefix : change.prefix ≡ q

-- ---- what follows, computed
-- a path with one target, as a route that leads on
abbrev pub route_to : Path → List Target → Option Route
route_to p [] = None
route_to p (t ∷ ts) = Some (record {
  prefix = p.prefix;
  path = record { session = p.session; rd = p.rd; next_hop = p.next_hop; label = p.label };
  target = t;
})

abbrev pub first_route : List Path → Option Route
first_route [] = None
first_route (p ∷ ps) = route_to p p.targets

abbrev pub followed_at : Holdings → InstanceId → Block → Followed
followed_at h i q = record {
  path = selected_at h i q;
  led_right = first_route (led_at h i q true);
  led_left = first_route (led_at h i q false);
}

-- a row at which the same follows after as before
abbrev pub unchanged_at : Holdings → InstanceId × Block → RowChange
unchanged_at h e = record { instance = e.0; prefix = e.1; before = followed_at h e.0 e.1; after = followed_at h e.0 e.1 }

-- a row change, with what follows there now
abbrev pub followed_again : Holdings → RowChange → RowChange
followed_again h c = record { instance = c.instance; prefix = c.prefix; before = c.before; after = followed_at h c.instance c.prefix }

-- what is kept of some row changes: those after which something else follows
pub record AreOther (all kept : List RowChange) : Type 0 where
  pub each : (c : RowChange) → Member c kept → Member c all × (c.before ≢ c.after)
  pub every : (c : RowChange) → Member c all → c.before ≢ c.after → Member c kept
