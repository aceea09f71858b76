use Rattle.std.proofs.Common.{List, ap, drop, ℕ}
use Rattle.ov_link.specs.FailingState.{FailingState}
use Rattle.running_nodes.proofs.Links.{links_changed}
use Rattle.running_nodes.proofs.edges.Edge.pop.Goals as goal

pub returns-clause-rest : goal.returns-clause-rest
returns-clause-rest c =
    links_changed c.self.inside.links c.args.session c.get_mut.result.now c.get_mut.ensures.value c.pop.new.self c.args.self.now
    c.self.inside.name c.self.inside.others.items c.self.inside.notices.items c.self.view_is
    (λ (ms : List (List ℕ)). drop 1 ms) (ap (λ (l : FailingState). l.accepted) c.pop.ensures.rest) (ap (λ (l : FailingState). l.breaks) c.pop.ensures.rest)
