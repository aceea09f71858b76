use Rattle.std.proofs.Common.{◌++◌, ap, map, subst, sym}
use Rattle.net_machine.specs.Runs.{tied_moment}
use Rattle.compile_answers.proofs.LineLemmas.{drop_at}
use Rattle.top_call.specs.Constraint.{AreControlNodes, asking_of}
use Rattle.top_call.specs.ConstraintNetworks.{EachNeedsNoMore}
use Rattle.top_call.proofs.Askings.{made_more}
use Rattle.top_call.proofs.asking.askings_of.Goals as goal

pub asking_at-requires-clause-there : goal.asking_at-requires-clause-there
asking_at-requires-clause-there c =
    let left = drop_at c.args.controllers.now c.loop-controller.controller-index c.controller-item.result c.loop-controller-test.true c.controller-item.is in
    (subst (AreControlNodes (tied_moment c.args.net.now.opening c.args.net.now.events).network.setup.topology) left c.loop-controller.invariant.there).0

pub loop-controller-init : goal.loop-controller-init
loop-controller-init c = record {
  made = ap (λ all. all ++ map (asking_of (tied_moment c.args.net.now.opening c.args.net.now.events).network) c.args.controllers.now) c.new-all.ensures.items;
  enough = λ each. each;
  there = c.requires.there;
}

pub loop-controller-preserved : goal.loop-controller-preserved
loop-controller-preserved c =
    let w = (tied_moment c.args.net.now.opening c.args.net.now.events).network in
    let left = drop_at c.args.controllers.now c.loop-controller.controller-index c.controller-item.result c.loop-controller-test.true c.controller-item.is in
    record {
      made = made_more w _ _ _ _ _ _ _ c.loop-controller.invariant.made left c.in_ok-asking.ensures.asking c.in_ok-push.ensures.items;
      enough = λ each. c.loop-controller.invariant.enough (subst (EachNeedsNoMore w) (sym left) (c.in_ok-asking.ensures.enough, each));
      there = (subst (AreControlNodes w.setup.topology) left c.loop-controller.invariant.there).1;
    }
