use Rattle.std.proofs.Common.{◌≡◌, ◌++◌, ◌+◌, drop, refl, ◌∙◌, ap}
use Rattle.running_nodes.specs.MachineModel.Network.{peerings}
use Rattle.net_machine.specs.Seating.{order_among, peerings_of}
use Rattle.net_machine.proofs.Ordering.{peerings_step, pushed_all, pushed_some}
use Rattle.net_machine.proofs.order.push_peerings.Goals as goal

pub loop-i-init : goal.loop-i-init
loop-i-init c = record { pushed = refl; seated = c.requires.seated }

pub push_peerings_of-requires-clause-seated : goal.push_peerings_of-requires-clause-seated
push_peerings_of-requires-clause-seated c = c.loop-i.invariant.seated

pub loop-i-preserved : goal.loop-i-preserved
loop-i-preserved c =
    let seats = c.args.nodes.now.seats in
    let controllers = c.args.controllers.now in
    let controller = c.index-controllers-i.result in
    let pushed : c.push_peerings_of.new.order.items
    ≡ c.loop-i.order.items ++ order_among seats (peerings_of controller (drop (c.loop-i.i + 1) controllers)) =
    c.in_ok-push_peerings_of.ensures.pushed
    ∙ ap (λ cs. c.loop-i.order.items ++ order_among seats (peerings_of controller cs)) c.from_place-later.ensures in
    record {
      pushed = pushed_some (λ cs. order_among seats (peerings cs)) (λ x xs. order_among seats (peerings_of x xs))
          (peerings_step seats) controllers c.loop-i.i controller c.loop-i.order.items c.push_peerings_of.new.order.items
          c.loop-i-test.true c.index-controllers-i.is pushed
          ∙ c.loop-i.invariant.pushed;
      seated = c.in_ok-push_peerings_of.ensures.seated;
    }

pub returns-clause-pushed : goal.returns-clause-pushed
returns-clause-pushed c =
    pushed_all (λ cs. order_among c.args.nodes.now.seats (peerings cs)) refl c.args.controllers.now
    c.loop-i.i _ _ c.loop-i-test.false c.loop-i.invariant.pushed

pub returns-clause-seated : goal.returns-clause-seated
returns-clause-seated c = c.loop-i.invariant.seated
