use Rattle.std.proofs.Common.{refl, ◌∙◌}
use Rattle.running_nodes.specs.MachineModel.Network.{accesses, accesses_of}
use Rattle.net_machine.specs.Seating.{order_among}
use Rattle.net_machine.proofs.Ordering.{accesses_step, pushed_all, pushed_some}
use Rattle.net_machine.proofs.order.push_accesses.Goals as goal

pub loop-node-init : goal.loop-node-init
loop-node-init c = record { pushed = refl; seated = c.requires.seated }

pub push_accesses_of-requires-clause-seated : goal.push_accesses_of-requires-clause-seated
push_accesses_of-requires-clause-seated c = c.loop-node.invariant.seated

pub loop-node-preserved : goal.loop-node-preserved
loop-node-preserved c =
    let seats = c.args.nodes.now.seats in
    let controllers = c.args.controllers.now in
    record {
      pushed = pushed_some (λ ns. order_among seats (accesses controllers ns))
          (λ x xs. order_among seats (accesses_of controllers x)) (accesses_step seats controllers) c.args.compute_nodes.now
          c.loop-node.node-index c.node-item.result c.loop-node.order.items c.push_accesses_of.new.order.items
          c.loop-node-test.true c.node-item.is c.in_ok-push_accesses_of.ensures.pushed
          ∙ c.loop-node.invariant.pushed;
      seated = c.in_ok-push_accesses_of.ensures.seated;
    }

pub returns-clause-pushed : goal.returns-clause-pushed
returns-clause-pushed c =
    pushed_all (λ ns. order_among c.args.nodes.now.seats (accesses c.args.controllers.now ns)) refl
    c.args.compute_nodes.now c.loop-node.node-index _ _ c.loop-node-test.false c.loop-node.invariant.pushed

pub returns-clause-seated : goal.returns-clause-seated
returns-clause-seated c = c.loop-node.invariant.seated
