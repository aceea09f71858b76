use Rattle.std.proofs.Common.{sym, ◌∙◌, ap, refl, arith, ◌+◌, ◌-◌}
use Rattle.running_nodes.specs.Steps.{cleared_from}
use Rattle.net_machine.proofs.Going.{all_left, cleared_more, cleared_none}
use Rattle.net_machine.proofs.Kept.{keeps_all, keeps_both, seated_kept}
use Rattle.net_machine.proofs.clear.clear_node.Goals as goal

pub loop-session-init : goal.loop-session-init
loop-session-init c = record {
  cleared = ap (λ n. cleared_from n c.args.node 0 c.args.nodes.now.seats) (all_left c.sessions-sessions.result);
  keeps = keeps_all _ c.requires.long;
  failed = refl;
}

pub clear_at-requires-clause-long : goal.clear_at-requires-clause-long
clear_at-requires-clause-long c = c.loop-session.invariant.keeps.long

pub clear_at-requires-clause-seated : goal.clear_at-requires-clause-seated
clear_at-requires-clause-seated c =
    let there = c.loop-session-test.true in
    let count = c.sessions-sessions.ensures in
    seated_kept _ _ _ c.loop-session.invariant.keeps
    (record { node = c.requires.node; session = omega (arith, there, count) })

pub loop-session-preserved : goal.loop-session-preserved
loop-session-preserved c = record {
  cleared = ap (cleared_from (c.sessions-sessions.result - (c.loop-session.session + 1)) c.args.node (c.loop-session.session + 1))
      c.clear_at.ensures.cleared
      ∙ sym (cleared_more c.sessions-sessions.result c.loop-session.session c.args.node _ c.loop-session-test.true)
      ∙ c.loop-session.invariant.cleared;
  keeps = keeps_both _ _ _ c.loop-session.invariant.keeps c.clear_at.ensures.keeps;
  failed = c.clear_at.ensures.failed ∙ c.loop-session.invariant.failed;
}

pub returns-clause-cleared : goal.returns-clause-cleared
returns-clause-cleared c =
    sym (cleared_none c.sessions-sessions.result c.loop-session.session c.args.node _ c.loop-session-test.false)
    ∙ c.loop-session.invariant.cleared
    ∙ ap (λ n. cleared_from n c.args.node 0 c.args.nodes.now.seats) c.sessions-sessions.ensures

pub returns-clause-keeps : goal.returns-clause-keeps
returns-clause-keeps c = c.loop-session.invariant.keeps

pub returns-clause-failed : goal.returns-clause-failed
returns-clause-failed c = c.loop-session.invariant.failed
