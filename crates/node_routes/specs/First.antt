-- What octets bring first, and what the types of a change say of it.
use Rattle.std.specs.Prelude.{◌≡◌, ◌<◌, ◌^◌, ℕ, List}
use Rattle.ov_types.specs.Targets.{IsAscending}
use Rattle.ov_types.specs.declared.vpn.VpnKey.{VpnKey}
use Rattle.ov_types.specs.declared.vpn.VpnRoute.{VpnRoute}
use Rattle.ov_sync.specs.declared.Delta.{Delta}
use Rattle.ov_sync.specs.declared.Delta.TheVariants.{Put, Drop}
use Rattle.bgp_vpn.specs.Written.{FitsItsTypes}
use Rattle.bgp_session.specs.Happenings.{SessionFields}
use Rattle.bgp_session.specs.Inputs.{Came}
use Rattle.node_routes.specs.Hearing.{IsNext}

-- the octets bring this first and nothing else, and leave these octets
pub record BringFirst (s : SessionFields) (octets : List ℕ) (came : Came) (rest : List ℕ) : Type 0 where
  pub next : IsNext s octets came rest
  pub only : (other : Came) (left : List ℕ) → IsNext s octets other left → (other ≡ came) × (left ≡ rest)

-- what holds of a route by its types
pub record RouteFitsItsTypes (r : VpnRoute) : Type 0 where
  pub next_hop : r.next_hop.0 < 2 ^ 32
  pub ascending : IsAscending r.targets

-- what holds of a change of a route by its types
abbrev pub ChangeFitsItsTypes : Delta VpnKey VpnRoute → Type 0
ChangeFitsItsTypes (Put k r) = FitsItsTypes k × RouteFitsItsTypes r
ChangeFitsItsTypes (Drop k) = FitsItsTypes k
