use Rattle.std.proofs.Common.{◌≡◌, ◌+◌, List, ℕ}
use Rattle.std.proofs.lemmas.Result.{IfOk-weaker}
use Rattle.running_nodes.specs.Steps.{untaken}
use Rattle.running_nodes.proofs.Links.{links_changed}
use Rattle.running_nodes.proofs.edges.Edge.take_octets.Goals as goal

pub returns-clause-rest : goal.returns-clause-rest
returns-clause-rest c =
    IfOk-weaker c.take_octets.result (λ _. c.take_octets.new.link.accepted ≡ untaken (c.args.skip + c.args.n) c.get_mut.result.now.accepted) _
    (λ octets is. links_changed c.self.inside.links c.args.session c.get_mut.result.now c.get_mut.ensures.value c.take_octets.new.link c.args.self.now
    c.self.inside.name c.self.inside.others.items c.self.inside.notices.items c.self.view_is
    (λ (ms : List (List ℕ)). untaken (c.args.skip + c.args.n) ms) is c.take_octets.ensures.breaks)
    c.take_octets.ensures.rest
