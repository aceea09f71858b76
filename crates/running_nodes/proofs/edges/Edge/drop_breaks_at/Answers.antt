use Rattle.std.proofs.Common.{List, [], ap, ℕ}
use Rattle.ov_link.specs.FailingState.{FailingState}
use Rattle.running_nodes.proofs.Links.{breaks_changed}
use Rattle.running_nodes.proofs.edges.Edge.drop_breaks_at.Goals as goal

pub returns : goal.returns
returns c =
    breaks_changed c.self.inside.links c.args.session c.get_mut.result.now c.get_mut.ensures.value c.drop_breaks.new.self c.args.self.now
    c.self.inside.name c.self.inside.others.items c.self.inside.notices.items c.self.view_is
    (λ (bs : List ℕ). []) (ap (λ (l : FailingState). l.breaks) c.drop_breaks.ensures) (ap (λ (l : FailingState). l.accepted) c.drop_breaks.ensures)
