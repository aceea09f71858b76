-- What is held where each peer told only some of its routes.
use Rattle.std.specs.Prelude.{◌≡◌, Bool, true, false, map}
use Rattle.std.specs.List.{filter}
use Rattle.std.specs.FinMap.{entries, from_entries}
use Rattle.ov_types.specs.declared.numbers.InstanceId.{InstanceId}
use Rattle.ov_types.specs.declared.vpn.VpnRoute.{VpnRoute}
use Rattle.route_targets.specs.Numbers.{target_of}
use Rattle.node_model.specs.Members.{Member}
use Rattle.node_model.specs.Values.{Value, Route}
use Rattle.node_model.specs.Maps.{Map}
use Rattle.node_model.specs.Uses.{imports}
use Rattle.node_model.specs.Paths.{Holdings}
use Rattle.rt_constrain.specs.Needs.{IsNeeded}

-- a route has the target of an import of a needed instance
pub record IsOfUse (h : Holdings) (r : VpnRoute) : Type 0 where
  pub instance : InstanceId
  pub needed : IsNeeded h instance
  pub import : InstanceId
  pub imported : Member import (imports h.feed instance)
  pub targeted : Member (target_of h.asn import) r.targets

-- each route of use passes a test
abbrev pub PassesWhatIsOfUse : Holdings → (VpnRoute → Bool) → Type 0
PassesWhatIsOfUse h test = (r : VpnRoute) → IsOfUse h r → test r ≡ true

abbrev pub passes : (VpnRoute → Bool) → Value → Bool
passes test (Route r) = test r
passes test _ = false

-- the routes of a map that pass a test
abbrev pub restricted : (VpnRoute → Bool) → Map → Map
restricted test m = from_entries (filter (λ e. passes test e.1) (entries m))

-- what is held, with the routes of each peer restricted to those that pass a test
abbrev pub cut_to : (VpnRoute → Bool) → Holdings → Holdings
cut_to test h = record h { peers = map (restricted test) h.peers }
