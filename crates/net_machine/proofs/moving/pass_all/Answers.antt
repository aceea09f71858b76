use Rattle.std.proofs.Common.{refl, sym, ◌∙◌, subst}
use Rattle.running_nodes.specs.MachineModel.Setup.{Name}
use Rattle.running_nodes.specs.Moving.{PassesAt}
use Rattle.running_nodes.specs.Seats.{seat_named}
use Rattle.net_machine.specs.Moving.{IsControlNode}
use Rattle.net_machine.proofs.Moved.{controls_still, next_alike, passes_more, passes_none}
use Rattle.net_machine.proofs.moving.pass_all.Goals as goal

pub loop-control-init : goal.loop-control-init
loop-control-init c = record { passes = λ after h. h; long = c.requires.long; controls = c.requires.controls; failed = refl }

pub pass-requires-clause-long : goal.pass-requires-clause-long
pass-requires-clause-long c = c.loop-control.invariant.long

pub pass-requires-clause-control : goal.pass-requires-clause-control
pass-requires-clause-control c =
    subst (IsControlNode c.loop-control.nodes.seats) (sym c.control-item.is)
    (c.loop-control.invariant.controls c.loop-control.control-index c.control-item.result c.loop-control-test.true)

pub loop-control-preserved : goal.loop-control-preserved
loop-control-preserved c =
    let before = c.loop-control.nodes.seats in
    let after = c.pass.new.nodes.seats in
    let one = subst (λ (d : Name). PassesAt (seat_named before d) before after) c.control-item.is c.in_ok-pass.ensures.passes in
    let stays = next_alike _ before after c.loop-control.invariant.long one in
    record {
      passes = λ last h. c.loop-control.invariant.passes last
          (passes_more c.args.controls.now c.loop-control.control-index c.control-item.result before after last
          c.loop-control-test.true one h);
      long = stays.long;
      controls = controls_still before after c.args.controls.now stays.alike c.loop-control.invariant.controls;
      failed = c.in_ok-pass.ensures.failed ∙ c.loop-control.invariant.failed;
    }

pub returns-clause-passes : goal.returns-clause-passes
returns-clause-passes c =
    c.loop-control.invariant.passes _
    (passes_none c.args.controls.now c.loop-control.control-index _ c.loop-control-test.false)

pub returns-clause-failed : goal.returns-clause-failed
returns-clause-failed c = c.loop-control.invariant.failed
