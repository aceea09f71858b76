-- What an UPDATE says of VPN-IPv4 routes, and what is wrong with one, by whether it is read wide.
use Rattle.std.specs.Prelude.{Bool, ◌≡◌, ℕ, List, [], ◌++◌, map, Some, None}
use Rattle.ov_types.specs.declared.vpn.VpnKey.{VpnKey}
use Rattle.ov_types.specs.declared.vpn.VpnRoute.{VpnRoute}
use Rattle.ov_sync.specs.declared.Delta.{Delta}
use Rattle.bgp_wire.specs.declared.fault.WireFault.{WireFault}
use Rattle.bgp_wire.specs.declared.update.UpdatePart.{UpdatePart}
use Rattle.bgp_wire.specs.Content.{UpdateFields}
use Rattle.bgp_wire.specs.Attributes.{AttributeFields, AreAttributes}
use Rattle.bgp_vpn.specs.declared.fault.UpdateFault.{UpdateFault}
use Rattle.bgp_vpn.specs.declared.fault.UpdateFault.TheVariants.{Wire, NoMemory}
use Rattle.bgp_vpn.specs.Routes.{RouteFields, AreRoutes, drop_of, put_of}
use Rattle.bgp_vpn.specs.Values.{withdrawn_octets, reached_octets, next_hop_in, targets_in}
use Rattle.bgp_vpn.specs.Checks.{update_fault}

abbrev pub parts_of : UpdatePart → UpdateFields
parts_of p = record { withdrawn = p.withdrawn.now; attributes = p.attributes.now; routes = p.routes.now }

-- the changes that attributes make: the routes withdrawn are dropped, and then those announced are put, in order
abbrev pub changes_of : List AttributeFields → List RouteFields → List RouteFields → List (Delta VpnKey VpnRoute)
changes_of attributes withdrawn reached =
    map drop_of withdrawn ++ map (put_of (next_hop_in attributes) (targets_in attributes)) reached

-- an UPDATE that passes all checks makes these changes
pub record Changes (wide : Bool) (parts : UpdateFields) (deltas : List (Delta VpnKey VpnRoute)) : Type 0 where
  pub attributes : List AttributeFields
  pub withdrawn : List RouteFields
  pub reached : List RouteFields
  pub are : AreAttributes parts.attributes attributes []
  pub passes : update_fault wide parts attributes [] ≡ None
  pub withdrawn_are : AreRoutes (withdrawn_octets attributes) withdrawn
  pub reached_are : AreRoutes (reached_octets attributes) reached
  pub made : deltas ≡ changes_of attributes withdrawn reached

-- the first check that fails on an UPDATE gives this fault
pub record HasUpdateFault (wide : Bool) (parts : UpdateFields) (f : WireFault) : Type 0 where
  pub attributes : List AttributeFields
  pub tail : List ℕ
  pub are : AreAttributes parts.attributes attributes tail
  pub fails : update_fault wide parts attributes tail ≡ Some f

-- a fault of the message, and not want of memory
abbrev pub IfWire : UpdateFault → (WireFault → Type 0) → Type 0
IfWire (Wire f) P = P f
IfWire NoMemory P = Unit {0}
