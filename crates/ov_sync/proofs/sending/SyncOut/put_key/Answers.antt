use Rattle.std.proofs.Common.{Some, cond, ap, sym, ◌∙◌}
use Rattle.std.specs.FinMap.{get}
use Rattle.std.specs.Ordering.{eq_by_cmp}
use Rattle.ov_sync.specs.Keyed.{map_of, change}
use Rattle.ov_sync.proofs.Ascending.{get-map_of, turned}
use Rattle.ov_sync.proofs.sending.SyncOut.put_key.Goals as goal

pub returns-clause-change : goal.returns-clause-change
returns-clause-change g c =
    let R = g.K.Ord.cmp in
    c.in_ok-delta.ensures
    ∙ ap (λ o. change g.V.PartialEq.eq c.args.key o (Some c.args.value))
    (c.get.ensures.value ∙ sym (get-map_of R g.met.K.Ord.total c.self.inside.sent.entries c.args.key) ∙ ap (λ es. get (map_of R es) c.args.key) c.self.view_is)

pub returns-clause-sent : goal.returns-clause-sent
returns-clause-sent g c = λ q.
    let R = g.K.Ord.cmp in
    get-map_of R g.met.K.Ord.total c.insert.new.self.entries q ∙ c.in_ok-insert.ensures.updates.0 q
    ∙ turned R g.met.K.Ord.total c.args.key q _ _
    ∙ ap (cond (eq_by_cmp R q c.args.key) (Some c.args.value)) (sym (get-map_of R g.met.K.Ord.total c.self.inside.sent.entries q))
    ∙ ap (λ es. cond (eq_by_cmp R q c.args.key) (Some c.args.value) (get (map_of R es) q)) c.self.view_is
