use Rattle.std.proofs.Common.{refl, sym, ◌∙◌, arith, subst}
use Rattle.net_machine.specs.Settling.{RoundsFrom}
use Rattle.net_machine.proofs.Going.{all_left, rounds_more, rounds_none, rounds_quiet}
use Rattle.net_machine.proofs.Kept.{all_kept, keeps_all, keeps_both}
use Rattle.net_machine.proofs.settle.rounds.Goals as goal

pub loop-init : goal.loop-init
loop-init c = record {
  rounds = λ n after h.
      subst (λ m. RoundsFrom m 1 c.args.order.now c.args.nodes.now.seats n after)
      (all_left c.args.most) h;
  done = omega arith;
  keeps = keeps_all _ c.requires.long;
  failed = refl;
}

pub is_quiet-requires : goal.is_quiet-requires
is_quiet-requires c = all_kept _ _ c.args.order.now c.loop.invariant.keeps c.requires.seated

pub returns-then-is_quiet-clause-rounds : goal.returns-then-is_quiet-clause-rounds
returns-then-is_quiet-clause-rounds c =
    c.loop.invariant.rounds c.loop.done _ (rounds_quiet c.args.most c.loop.counter c.loop.done c.args.order.now _
    c.loop-test.true (sym c.is_quiet.ensures ∙ c.if-is_quiet.true))

pub returns-then-is_quiet-clause-keeps : goal.returns-then-is_quiet-clause-keeps
returns-then-is_quiet-clause-keeps c = c.loop.invariant.keeps

pub returns-then-is_quiet-clause-failed : goal.returns-then-is_quiet-clause-failed
returns-then-is_quiet-clause-failed c = c.loop.invariant.failed

pub round-requires-clause-long : goal.round-requires-clause-long
round-requires-clause-long c = c.loop.invariant.keeps.long

pub round-requires-clause-seated : goal.round-requires-clause-seated
round-requires-clause-seated c = all_kept _ _ c.args.order.now c.loop.invariant.keeps c.requires.seated

pub overflow_add-done : goal.overflow_add-done
overflow_add-done c =
    let done = c.loop.invariant.done in
    let below = c.loop-test.true in
    let most = c.requires.most in
    omega (arith, done, below, most)

pub loop-preserved : goal.loop-preserved
loop-preserved c = let done = c.loop.invariant.done in record {
  rounds = λ n after h. c.loop.invariant.rounds n after
      (rounds_more c.args.most c.loop.counter c.loop.done c.args.order.now _ _ after n c.loop-test.true
      (sym c.is_quiet.ensures ∙ c.if-is_quiet.false) c.in_ok-round.ensures.round h);
  done = omega (arith, done);
  keeps = keeps_both _ _ _ c.loop.invariant.keeps c.in_ok-round.ensures.keeps;
  failed = c.in_ok-round.ensures.failed ∙ c.loop.invariant.failed;
}

pub returns-clause-rounds : goal.returns-clause-rounds
returns-clause-rounds c =
    c.loop.invariant.rounds c.loop.done _
    (rounds_none c.args.most c.loop.counter c.loop.done c.args.order.now _ c.loop-test.false)

pub returns-clause-keeps : goal.returns-clause-keeps
returns-clause-keeps c = c.loop.invariant.keeps

pub returns-clause-failed : goal.returns-clause-failed
returns-clause-failed c = c.loop.invariant.failed
