use Rattle.std.proofs.Common.{ap, ◌∙◌, map, List}
use Rattle.ov_sync.specs.Embed.{moved_entry}
use Rattle.ov_types.specs.declared.vpn.VpnKey.{VpnKey}
use Rattle.ov_types.specs.declared.vpn.VpnRoute.{VpnRoute}
use Rattle.vpn_tables.specs.NodeModel.Keys.{Vpn}
use Rattle.vpn_tables.specs.NodeModel.Values.{Route}
use Rattle.vpn_tables.specs.NodeModel.Reaching.{reoriginated_paths}
use Rattle.chain_reorigin.proofs.Telling.{told_is, of_all_sessions}
use Rattle.chain_reorigin.proofs.routes.reoriginated.Goals as goal

pub returns-clause-routes : goal.returns-clause-routes
returns-clause-routes c =
    c.in_ok-routes.ensures.routes
    ∙ told_is c.in_ok-led.led.items c.in_ok-counting.counting.entries (reoriginated_paths c.args.tables.now)
    c.in_ok-routes.ensures.ascending c.in_ok-counting.ensures c.in_ok-led.ensures

pub returns-clause-of_the_model : goal.returns-clause-of_the_model
returns-clause-of_the_model c =
    ap (λ (es : List (VpnKey × VpnRoute)). map (moved_entry Vpn Route) es) (returns-clause-routes c)
    ∙ of_all_sessions (reoriginated_paths c.args.tables.now)
