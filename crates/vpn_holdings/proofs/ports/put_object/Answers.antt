use Rattle.std.proofs.Common.{◌<◌, ◌+◌, ◌^◌, ap, sym, subst, ◌∙◌, List}
use Rattle.std.specs.Prelude.{IfSome, Some, None}
use Rattle.std.specs.declared.option.Option.{Option}
use Rattle.std.specs.Prelude.{unwrap_or}
use Rattle.std.specs.BTreeMap as tree
use Rattle.ov_sync.proofs.Ascending.{map_of-insert}
use Rattle.ov_types.specs.declared.objects.LowKey.{LowKey}
use Rattle.ov_types.specs.declared.objects.LowValue.{LowValue}
use Rattle.path_select.proofs.NodeModel.Directions.{low_total}
use Rattle.vpn_holdings.specs.Ports.{one_at, ports_at, site_of, site_order}
use Rattle.vpn_holdings.specs.Views.{feed_of, low_order}
use Rattle.vpn_holdings.specs.declared.ports.Site.{Site}
use Rattle.vpn_holdings.proofs.Counting.{counts_small, put_new, put_over, recounted}
use Rattle.vpn_holdings.proofs.ports.put_object.Goals as goal

each_some : (P : Site → Type 0) (o : Option Site) → ((s : Site) → P s) → IfSome o P
each_some P None f = tt
each_some P (Some s) f = f s

pub count_in-requires : goal.count_in-requires
count_in-requires c =
    each_some (λ s. unwrap_or (tree.get site_order c.args.ports.now s) 0 < 2 ^ 63) c.site_of-site.result
    (counts_small c.args.ports.now c.args.low.now.entries c.len-held.ensures.ordered c.requires (subst (λ n. n < 2 ^ 63) c.len-held.ensures.len c.len-held.ensures.small))

pub returns-in_err-count_in-clause-counted : goal.returns-in_err-count_in-clause-counted
returns-in_err-count_in-clause-counted c = c.in_err-count_in.ensures.err (ports_at (feed_of c.args.low.now.entries)) c.requires

pub returns-in-Ok-Some-clause-ok : goal.returns-in-Ok-Some-clause-ok
returns-in-Ok-Some-clause-ok c =
    map_of-insert low_order low_total c.args.low.now c.insert.new.self c.args.key c.args.value c.in-Ok-Some.ensures.entries c.in-Ok-Some.ensures.was_ordered c.in-Ok-Some.ensures.ordered

pub returns-in-Ok-Some-clause-counted : goal.returns-in-Ok-Some-clause-counted
returns-in-Ok-Some-clause-counted c =
    let es = c.args.low.now.entries in
    let fs = c.insert.new.self.entries in
    c.count_out.ensures (ports_at (feed_of fs))
    (recounted c.count_in.new.ports (λ (s : Site). one_at c.site_of-site.result s + ports_at (feed_of es) s) (λ (s : Site). one_at c.site_of.result s + ports_at (feed_of fs) s)
    (λ s. ap (λ o. one_at o s + ports_at (feed_of es) s) c.site_of-site.ensures
    ∙ put_over es fs c.args.key c.in-Ok-Some.ensures.was_ordered c.in-Ok-Some.ensures.ordered c.args.value c.in-Ok-Some.before c.in-Ok-Some.ensures.entries (sym c.in-Ok-Some.field-0-is ∙ c.in-Ok-Some.ensures.old) s
    ∙ ap (λ (w : LowValue). one_at (site_of w) s + ports_at (feed_of fs) s) (sym c.in-Ok-Some.before-is)
    ∙ ap (λ o. one_at o s + ports_at (feed_of fs) s) (sym c.site_of.ensures))
    (c.in_ok-count_in.ensures.ok (ports_at (feed_of es)) c.requires))

pub returns-in-Ok-None-clause-ok : goal.returns-in-Ok-None-clause-ok
returns-in-Ok-None-clause-ok c =
    map_of-insert low_order low_total c.args.low.now c.insert.new.self c.args.key c.args.value c.in-Ok-None.ensures.entries c.in-Ok-None.ensures.was_ordered c.in-Ok-None.ensures.ordered

pub returns-in-Ok-None-clause-counted : goal.returns-in-Ok-None-clause-counted
returns-in-Ok-None-clause-counted c =
    let es = c.args.low.now.entries in
    let fs = c.insert.new.self.entries in
    recounted c.count_in.new.ports (λ (s : Site). one_at c.site_of-site.result s + ports_at (feed_of es) s) (ports_at (feed_of fs))
    (λ s. ap (λ o. one_at o s + ports_at (feed_of es) s) c.site_of-site.ensures
    ∙ put_new es fs c.args.key c.in-Ok-None.ensures.was_ordered c.in-Ok-None.ensures.ordered c.args.value c.in-Ok-None.ensures.entries (sym c.in-Ok-None.field-0-is ∙ c.in-Ok-None.ensures.old) s)
    (c.in_ok-count_in.ensures.ok (ports_at (feed_of es)) c.requires)

pub returns-clause-counted : goal.returns-clause-counted
returns-clause-counted c =
    let es = c.args.low.now.entries in
    let fs = c.insert.new.self.entries in
    c.count_out-in-Err.ensures (ports_at (feed_of fs))
    (recounted c.count_in.new.ports (λ (s : Site). one_at c.site_of-site.result s + ports_at (feed_of es) s) (λ (s : Site). one_at c.site_of-site.result s + ports_at (feed_of fs) s)
    (λ s. ap (λ (l : List (LowKey × LowValue)). one_at c.site_of-site.result s + ports_at (feed_of l) s) (sym c.in-Err.ensures.err))
    (c.in_ok-count_in.ensures.ok (ports_at (feed_of es)) c.requires))
