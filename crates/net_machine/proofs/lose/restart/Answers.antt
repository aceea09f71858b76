use Rattle.std.proofs.Common.{sym, ◌∙◌, ap, subst, arith, ◌+◌, ◌-◌}
use Rattle.running_laws.specs.Losing.{all_told}
use Rattle.net_machine.specs.Seating.{Keeps}
use Rattle.net_machine.proofs.Changes.{emptied_keeps}
use Rattle.net_machine.proofs.Going.{all_left, told_more, told_none}
use Rattle.net_machine.proofs.Kept.{keeps_both, seated_kept}
use Rattle.net_machine.proofs.lose.restart.Goals as goal

pub loop-session-init : goal.loop-session-init
loop-session-init c = record {
  told = ap (λ n. all_told n c.args.node 0 (c.restart.new.self.seats))
      (all_left c.sessions-sessions.result);
  keeps = subst (Keeps c.args.nodes.now.seats) (sym c.restart.ensures.emptied)
      (emptied_keeps _ c.args.node c.requires.long c.requires.node);
  failed = c.restart.ensures.failed;
}

pub tell_of_loss-requires-clause-long : goal.tell_of_loss-requires-clause-long
tell_of_loss-requires-clause-long c = c.loop-session.invariant.keeps.long

pub tell_of_loss-requires-clause-seated : goal.tell_of_loss-requires-clause-seated
tell_of_loss-requires-clause-seated c =
    let there = c.loop-session-test.true in
    let count = c.sessions-sessions.ensures in
    seated_kept _ _ _ c.loop-session.invariant.keeps
    (record { node = c.requires.node; session = omega (arith, there, count) })

pub loop-session-preserved : goal.loop-session-preserved
loop-session-preserved c = record {
  told = ap (all_told (c.sessions-sessions.result - (c.loop-session.session + 1)) c.args.node (c.loop-session.session + 1))
      c.tell_of_loss.ensures.told
      ∙ sym (told_more c.sessions-sessions.result c.loop-session.session c.args.node _ c.loop-session-test.true)
      ∙ c.loop-session.invariant.told;
  keeps = keeps_both _ _ _ c.loop-session.invariant.keeps c.tell_of_loss.ensures.keeps;
  failed = λ works. c.tell_of_loss.ensures.failed ∙ c.loop-session.invariant.failed works;
}

pub returns-clause-restarted : goal.returns-clause-restarted
returns-clause-restarted c =
    sym (told_none c.sessions-sessions.result c.loop-session.session c.args.node _ c.loop-session-test.false)
    ∙ c.loop-session.invariant.told
    ∙ (λ j. all_told (c.sessions-sessions.ensures j) c.args.node 0 (c.restart.ensures.emptied j))

pub returns-clause-keeps : goal.returns-clause-keeps
returns-clause-keeps c = c.loop-session.invariant.keeps

pub returns-clause-failed : goal.returns-clause-failed
returns-clause-failed c = c.loop-session.invariant.failed
