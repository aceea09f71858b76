-- Routes where they lie.
use Rattle.bgp_vpn.specs.declared.route.Route.{Route}
use Rattle.bgp_vpn.specs.Routes.{RouteFields}

abbrev pub fields_of : Route → RouteFields
fields_of r = record { bits = r.bits; octets = r.octets.now }
