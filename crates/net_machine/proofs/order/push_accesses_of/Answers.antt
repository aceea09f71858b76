use Rattle.std.proofs.Common.{refl, ◌∙◌, ◌∷◌, []}
use Rattle.running_nodes.specs.MachineModel.Network.{accesses_of}
use Rattle.net_machine.specs.Seating.{order_among}
use Rattle.net_machine.proofs.Ordering.{access_step, pushed_all, pushed_some}
use Rattle.net_machine.proofs.order.push_accesses_of.Goals as goal

pub loop-controller-init : goal.loop-controller-init
loop-controller-init c = record { pushed = refl; seated = c.requires.seated }

pub push_access-requires-clause-seated : goal.push_access-requires-clause-seated
push_access-requires-clause-seated c = c.loop-controller.invariant.seated

pub loop-controller-preserved : goal.loop-controller-preserved
loop-controller-preserved c =
    let seats = c.args.nodes.now.seats in
    record {
      pushed = pushed_some (λ cs. order_among seats (accesses_of cs c.args.node.now))
          (λ x xs. order_among seats (accesses_of (x ∷ []) c.args.node.now)) (access_step seats c.args.node.now)
          c.args.controllers.now c.loop-controller.controller-index c.controller-item.result
          c.loop-controller.order.items c.push_access.new.order.items c.loop-controller-test.true c.controller-item.is
          c.in_ok-push_access.ensures.pushed
          ∙ c.loop-controller.invariant.pushed;
      seated = c.in_ok-push_access.ensures.seated;
    }

pub returns-clause-pushed : goal.returns-clause-pushed
returns-clause-pushed c =
    pushed_all (λ cs. order_among c.args.nodes.now.seats (accesses_of cs c.args.node.now)) refl
    c.args.controllers.now c.loop-controller.controller-index _ _ c.loop-controller-test.false
    c.loop-controller.invariant.pushed

pub returns-clause-seated : goal.returns-clause-seated
returns-clause-seated c = c.loop-controller.invariant.seated
