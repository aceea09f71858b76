-- The routes that lead on, by their keys.
use Rattle.std.specs.Prelude.{[], ◌∷◌}
use Rattle.ov_sync.specs.Embed.{moved_entry}
use Rattle.ov_types.specs.declared.vpn.VpnKey.{VpnKey}
use Rattle.ov_types.specs.declared.vpn.VpnRoute.{VpnRoute}
use Rattle.vpn_holdings.specs.declared.routes.Route.{Route}

abbrev pub keyed : Route → VpnKey × Route
keyed r = (record { rd = r.path.rd; prefix = r.prefix }, r)

abbrev pub told_of : Route → VpnRoute
told_of r = record { next_hop = r.path.next_hop; label = r.path.label; targets = r.target ∷ [] }

abbrev pub told_entry : VpnKey × Route → VpnKey × VpnRoute
told_entry = moved_entry (λ (key : VpnKey). key) told_of
