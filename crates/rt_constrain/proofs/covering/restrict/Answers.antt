use Rattle.std.proofs.Common.{ap, ◌∙◌}
use Rattle.std.specs.FinMap.{FinMap, from_entries}
use Rattle.ov_sync.specs.Embed.{embedded}
use Rattle.ov_types.specs.declared.vpn.VpnRoute.{VpnRoute}
use Rattle.node_model.specs.Keys.{Vpn, key_cmp}
use Rattle.node_model.specs.Values.{Route}
use Rattle.vpn_tables.specs.Views.{vpn_order}
use Rattle.rt_constrain.specs.Covering.{covers}
use Rattle.rt_constrain.proofs.Passing.{restricted_is}
use Rattle.rt_constrain.proofs.covering.restrict.Goals as goal

pub returns-clause-of_the_model : goal.returns-clause-of_the_model
returns-clause-of_the_model c =
    ap (λ (m : FinMap vpn_order VpnRoute). embedded {S = key_cmp} Vpn Route m) (c.in_ok-sent.ensures ∙ ap from_entries c.in_ok-covered.ensures.covered)
    ∙ restricted_is (covers c.args.asked.now) c.args.routes.now.entries c.in_ok-covered.ensures.ascending
