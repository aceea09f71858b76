use Rattle.std.proofs.Common.{None, cond, ap, sym, ◌∙◌}
use Rattle.std.specs.FinMap.{get}
use Rattle.std.specs.Ordering.{eq_by_cmp}
use Rattle.ov_sync.specs.Keyed.{map_of, change}
use Rattle.ov_sync.proofs.Ascending.{get-map_of, turned}
use Rattle.ov_sync.proofs.sending.SyncOut.drop_key.Goals.{in-Some+in-Some-1, in-Some+in-None-1, in-None}
use Rattle.ov_sync.proofs.sending.SyncOut.drop_key.Goals as goal

pub returns-clause-change : goal.returns-clause-change
returns-clause-change g c =
    let R = g.K.Ord.cmp in
    let was = c.remove.ensures.value ∙ sym (get-map_of R g.met.K.Ord.total c.self.inside.sent.entries c.args.key)
    ∙ ap (λ es. get (map_of R es) c.args.key) c.self.view_is in
    elim c.match-remove.branch [
      | in-Some+in-Some-1 w ↦ w.result-is ∙ ap (λ o. change g.V.PartialEq.eq c.args.key o None) (sym w.in-Some.is ∙ was)
      | in-Some+in-None-1 w ↦ w.result-is ∙ ap (λ o. change g.V.PartialEq.eq c.args.key o None) (sym w.in-Some.is ∙ was)
      | in-None w ↦ w.result-is ∙ ap (λ o. change g.V.PartialEq.eq c.args.key o None) (sym w.in-None.is ∙ was)
    ]

pub returns-clause-sent : goal.returns-clause-sent
returns-clause-sent g c = λ q.
    let R = g.K.Ord.cmp in
    get-map_of R g.met.K.Ord.total c.remove.new.self.entries q ∙ c.remove.ensures.updates.0 q
    ∙ turned R g.met.K.Ord.total c.args.key q _ _
    ∙ ap (cond (eq_by_cmp R q c.args.key) None) (sym (get-map_of R g.met.K.Ord.total c.self.inside.sent.entries q))
    ∙ ap (λ es. cond (eq_by_cmp R q c.args.key) None (get (map_of R es) q)) c.self.view_is
