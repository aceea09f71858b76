use Rattle.std.proofs.Common.{List, [], ap, ℕ}
use Rattle.ov_link.specs.FailingState.{FailingState}
use Rattle.running_nodes.proofs.Links.{links_changed}
use Rattle.running_nodes.proofs.edges.Edge.clear.Goals as goal

pub returns : goal.returns
returns c =
    links_changed c.self.inside.links c.args.session c.get_mut.result.now c.get_mut.ensures.value c.clear.new.self c.args.self.now
    c.self.inside.name c.self.inside.others.items c.self.inside.notices.items c.self.view_is
    (λ (ms : List (List ℕ)). []) (ap (λ (l : FailingState). l.accepted) c.clear.ensures) (ap (λ (l : FailingState). l.breaks) c.clear.ensures)
