use Rattle.std.proofs.Common.{◌+◌, ap, sym, ◌∙◌}
use Rattle.ov_sync.proofs.Ascending.{map_of-remove}
use Rattle.path_select.proofs.NodeModel.Directions.{low_exact, low_total}
use Rattle.vpn_holdings.specs.Ports.{one_at, ports_at}
use Rattle.vpn_holdings.specs.Views.{feed_of, low_order}
use Rattle.vpn_holdings.specs.declared.ports.Site.{Site}
use Rattle.vpn_holdings.proofs.Counting.{dropped, recounted}
use Rattle.vpn_holdings.proofs.ports.drop_object.Goals as goal

pub returns-in-Some-clause-dropped : goal.returns-in-Some-clause-dropped
returns-in-Some-clause-dropped c = map_of-remove low_order low_total low_exact c.args.low.now c.remove.new.self c.args.key.now c.remove.ensures.updates

pub returns-in-Some-clause-counted : goal.returns-in-Some-clause-counted
returns-in-Some-clause-counted c =
    let es = c.args.low.now.entries in
    let fs = c.remove.new.self.entries in
    let w = c.in-Some.before in
    c.count_out.ensures (ports_at (feed_of fs))
    (recounted c.args.ports.now (ports_at (feed_of es)) (λ (s : Site). one_at c.site_of.result s + ports_at (feed_of fs) s)
    (λ s. dropped es fs c.args.key.now c.len-held.ensures.ordered c.remove.ensures.ordered w c.remove.ensures.entries (sym c.in-Some.is ∙ c.remove.ensures.value) s
    ∙ ap (λ o. one_at o s + ports_at (feed_of fs) s) (sym c.site_of.ensures)) c.requires)

pub returns-in_default-clause-dropped : goal.returns-in_default-clause-dropped
returns-in_default-clause-dropped c = map_of-remove low_order low_total low_exact c.args.low.now c.remove.new.self c.args.key.now c.remove.ensures.updates
