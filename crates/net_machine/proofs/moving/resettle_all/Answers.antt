use Rattle.std.proofs.Common.{◌≤◌, ◌<◌, length, refl, ◌∙◌, arith, subst}
use Rattle.net_machine.proofs.Coming.{all_resettled, next_control, next_found, next_leaves, next_room, next_up, up_to_none}
use Rattle.net_machine.proofs.moving.resettle_all.Goals as goal

pub loop-index-init : goal.loop-index-init
loop-index-init c = record { resettled = up_to_none _ c.args.nodes.now.seats; failed = refl }

pub control_seat-requires : goal.control_seat-requires
control_seat-requires c =
    let few = c.requires.few in
    let below = subst (λ cs. c.loop-index.index < length cs) c.as_slice-controllers.ensures c.loop-index-test.true in
    omega (arith, few, below)

pub resettle_at-requires-clause-control : goal.resettle_at-requires-clause-control
resettle_at-requires-clause-control c =
    next_control c.args.topology.now c.args.name.now _ c.args.nodes.now.seats _ c.loop-index.index c.requires.ordered
    c.loop-index.invariant.resettled c.control_seat.result c.as_slice-controllers.result.now c.index-controllers-index.result _
    c.loop-index-test.true c.index-controllers-index.is c.as_slice-controllers.ensures c.control_seat.ensures

pub resettle_at-requires-clause-found : goal.resettle_at-requires-clause-found
resettle_at-requires-clause-found c =
    next_found c.args.topology.now c.args.name.now _ c.args.nodes.now.seats _ c.loop-index.index c.requires.ordered
    c.loop-index.invariant.resettled c.control_seat.result c.as_slice-controllers.result.now c.index-controllers-index.result _
    c.loop-index-test.true c.index-controllers-index.is c.as_slice-controllers.ensures c.control_seat.ensures c.requires.found

pub resettle_at-requires-clause-leaves : goal.resettle_at-requires-clause-leaves
resettle_at-requires-clause-leaves c =
    next_leaves c.args.topology.now c.args.name.now _ c.args.nodes.now.seats _ c.loop-index.index c.requires.ordered
    c.loop-index.invariant.resettled c.control_seat.result c.as_slice-controllers.result.now c.index-controllers-index.result _
    c.loop-index-test.true c.index-controllers-index.is c.as_slice-controllers.ensures c.control_seat.ensures c.requires.leaves

pub resettle_at-requires-clause-room : goal.resettle_at-requires-clause-room
resettle_at-requires-clause-room c =
    next_room c.args.topology.now c.args.name.now _ c.args.nodes.now.seats _ c.loop-index.index c.requires.ordered
    c.loop-index.invariant.resettled c.control_seat.result c.as_slice-controllers.result.now c.index-controllers-index.result _
    c.loop-index-test.true c.index-controllers-index.is c.as_slice-controllers.ensures c.control_seat.ensures c.requires.room

pub loop-index-preserved : goal.loop-index-preserved
loop-index-preserved c = record {
  resettled = next_up c.args.topology.now c.args.name.now _ c.args.nodes.now.seats _ c.loop-index.index c.requires.ordered
      c.loop-index.invariant.resettled c.control_seat.result c.as_slice-controllers.result.now c.index-controllers-index.result _
      c.loop-index-test.true c.index-controllers-index.is c.as_slice-controllers.ensures c.control_seat.ensures _
      c.in_ok-resettle_at.ensures.resettled;
  failed = c.in_ok-resettle_at.ensures.failed ∙ c.loop-index.invariant.failed;
}

pub returns-clause-resettled : goal.returns-clause-resettled
returns-clause-resettled c =
    all_resettled c.args.topology.now c.args.name.now _ c.args.nodes.now.seats _ c.loop-index.index c.requires.ordered
    c.loop-index.invariant.resettled
    (subst (λ cs. length cs ≤ c.loop-index.index) c.as_slice-controllers.ensures c.loop-index-test.false)

pub returns-clause-failed : goal.returns-clause-failed
returns-clause-failed c = c.loop-index.invariant.failed
