use Rattle.std.proofs.Common.{List, ap, ℕ}
use Rattle.std.proofs.lemmas.Result.{on_err_weaker, on_ok_weaker}
use Rattle.ov_link.specs.Breaks.{with_break}
use Rattle.ov_link.specs.FailingState.{FailingState}
use Rattle.running_nodes.proofs.Links.{breaks_changed, edge_same}
use Rattle.running_nodes.proofs.edges.Edge.add_break.Goals as goal

pub returns-clause-ok : goal.returns-clause-ok
returns-clause-ok c =
    on_ok_weaker c.add_break.result
    (λ is. breaks_changed c.self.inside.links c.args.session c.get_mut.result.now c.get_mut.ensures.value c.add_break.new.self c.args.self.now
    c.self.inside.name c.self.inside.others.items c.self.inside.notices.items c.self.view_is
    (λ (bs : List ℕ). with_break c.args.n bs) (ap (λ (l : FailingState). l.breaks) is) (ap (λ (l : FailingState). l.accepted) is))
    c.add_break.ensures.ok

pub returns-clause-err : goal.returns-clause-err
returns-clause-err c =
    on_err_weaker c.add_break.result
    (λ is. edge_same c.self.inside.links c.args.session c.get_mut.result.now c.get_mut.ensures.value c.add_break.new.self c.args.self.now
    c.self.inside.name c.self.inside.others.items c.self.inside.notices.items c.self.view_is
    (ap (λ (l : FailingState). l.accepted) is) (ap (λ (l : FailingState). l.breaks) is))
    c.add_break.ensures.err
