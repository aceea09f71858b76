use Rattle.std.proofs.Common.{◌≡◌, ◌++◌, refl, ◌∙◌, ap}
use Rattle.std.specs.Option.{option_to_list}
use Rattle.ov_types.specs.declared.rows.NodeId.{NodeId}
use Rattle.running_nodes.specs.MachineModel.Network.{config, feeds}
use Rattle.net_machine.specs.Seating.{ends_of, order_among}
use Rattle.net_machine.proofs.Ordering.{pushed_all, pushed_one}
use Rattle.net_machine.proofs.order.push_feeds.Goals as goal

pub loop-controller-init : goal.loop-controller-init
loop-controller-init c = record { pushed = refl; seated = c.requires.seated }

pub push_ends-requires-clause-seated : goal.push_ends-requires-clause-seated
push_ends-requires-clause-seated c = c.loop-controller.invariant.seated

pub loop-controller-preserved : goal.loop-controller-preserved
loop-controller-preserved c =
    let seats = c.args.nodes.now.seats in
    let pushed : c.push_ends.new.order.items
    ≡ c.loop-controller.order.items ++ option_to_list (ends_of seats config c.controller-item.result.name) =
    c.in_ok-push_ends.ensures.pushed
    ∙ ap (λ m. c.loop-controller.order.items ++ option_to_list (ends_of seats m c.controller-item.result.name))
    c.config_name-config.ensures in
    record {
      pushed = pushed_one (λ cs. order_among seats (feeds cs)) (λ (n : NodeId). ends_of seats config n.name)
          (λ x xs. refl) c.args.controllers.now c.loop-controller.controller-index c.controller-item.result
          c.loop-controller.order.items c.push_ends.new.order.items c.loop-controller-test.true c.controller-item.is pushed
          ∙ c.loop-controller.invariant.pushed;
      seated = c.in_ok-push_ends.ensures.seated;
    }

pub returns-clause-pushed : goal.returns-clause-pushed
returns-clause-pushed c =
    pushed_all (λ cs. order_among c.args.nodes.now.seats (feeds cs)) refl c.args.controllers.now
    c.loop-controller.controller-index _ _ c.loop-controller-test.false c.loop-controller.invariant.pushed

pub returns-clause-seated : goal.returns-clause-seated
returns-clause-seated c = c.loop-controller.invariant.seated
