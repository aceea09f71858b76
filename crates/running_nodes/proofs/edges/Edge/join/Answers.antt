use Rattle.std.proofs.Common.{◌≡◌, ◌<◌, ◌∙◌, length, arith}
use Rattle.std.proofs.lemmas.Result.{on_ok_weaker}
use Rattle.running_nodes.proofs.Moved.{joined_behind, joined_there}
use Rattle.running_nodes.proofs.edges.Edge.join.Goals as goal

pub returns-then-session-sessions-clause-ok : goal.returns-then-session-sessions-clause-ok
returns-then-session-sessions-clause-ok c =
    let lt : c.args.session < length c.args.self.now.others = omega (arith, c.if-session-sessions.true, c.sessions.ensures.sessions) in
    joined_there c.args.name c.args.session c.args.self.now c.empty.new.self c.set_other.new.self c.sessions.ensures.even lt c.empty.ensures c.set_other.ensures

pub returns-else-session-sessions-clause-ok : goal.returns-else-session-sessions-clause-ok
returns-else-session-sessions-clause-ok c =
    let last : c.args.session ≡ length c.args.self.now.others = omega (arith, c.if-session-sessions.false, c.sessions.ensures.sessions, c.requires.next) in
    on_ok_weaker c.add.result
    (λ is. is ∙ joined_behind c.args.name c.args.session c.args.self.now c.sessions.ensures.even last)
    c.add.ensures.ok
