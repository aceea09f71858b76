-- What an UPDATE says of VPN-IPv4 routes, where it lies.
use Rattle.std.specs.Prelude.{◌≡◌, ℕ, List, [], ◌∷◌, ◌++◌, map, Option, Some, None, unwrap_or}
use Rattle.ov_types.specs.declared.prefix.Addr.{Addr}
use Rattle.ov_types.specs.declared.targets.Target.{Target}
use Rattle.ov_types.specs.declared.vpn.VpnKey.{VpnKey}
use Rattle.ov_types.specs.declared.vpn.VpnRoute.{VpnRoute}
use Rattle.ov_sync.specs.declared.Delta.{Delta}
use Rattle.ov_sync.specs.declared.Delta.TheVariants.{Put, Drop}
use Rattle.bgp_vpn.specs.declared.routes.Labeled.{Labeled}
use Rattle.bgp_vpn.specs.Routes.{RouteFields, key_of, label_of, routes_in}
use Rattle.bgp_vpn.specs.Values.{next_hop_of, routes_behind, targets_among}

-- a route's key, with its label
abbrev pub labeled_of : RouteFields → Labeled
labeled_of r = record { key = key_of r; label = label_of r }

abbrev pub labeled_in : List ℕ → List Labeled
labeled_in octets = map labeled_of (routes_in octets)

-- one step over routes: the first, and those behind it; nothing where there are none
abbrev pub NextRoute : List Labeled → Option Labeled → List Labeled → Type 0
NextRoute routes None after = (routes ≡ []) × (after ≡ [])
NextRoute routes (Some r) after = routes ≡ r ∷ after

-- the routes that are withdrawn and those that are announced, and the next hop and the targets of these
pub record Said : Type 0 where
  pub next_hop : Addr
  pub targets : List Target
  pub withdrawn : List Labeled
  pub announced : List Labeled

-- by the values of MP_UNREACH_NLRI, MP_REACH_NLRI and EXTENDED COMMUNITIES
abbrev pub said_in : Option (List ℕ) → Option (List ℕ) → Option (List ℕ) → Said
said_in unreach reach communities = record {
  next_hop = next_hop_of reach;
  targets = targets_among (unwrap_or communities []);
  withdrawn = labeled_in (routes_behind 3 unreach);
  announced = labeled_in (routes_behind 17 reach);
}

abbrev pub dropped : Labeled → Delta VpnKey VpnRoute
dropped r = Drop r.key

abbrev pub put_to : Addr → List Target → Labeled → Delta VpnKey VpnRoute
put_to next_hop targets r = Put r.key (record { next_hop = next_hop; label = r.label; targets = targets })

-- the changes that it makes
abbrev pub changes_said : Said → List (Delta VpnKey VpnRoute)
changes_said s = map dropped s.withdrawn ++ map (put_to s.next_hop s.targets) s.announced
