use Rattle.std.proofs.Common.{refl, ◌∙◌}
use Rattle.ov_types.specs.declared.rows.NodeId.{NodeId}
use Rattle.net_machine.specs.Seating.{ends_of, order_among, peerings_of}
use Rattle.net_machine.proofs.Ordering.{pushed_all, pushed_one}
use Rattle.net_machine.proofs.order.push_peerings_of.Goals as goal

pub loop-other-init : goal.loop-other-init
loop-other-init c = record { pushed = refl; seated = c.requires.seated }

pub push_ends-requires-clause-seated : goal.push_ends-requires-clause-seated
push_ends-requires-clause-seated c = c.loop-other.invariant.seated

pub loop-other-preserved : goal.loop-other-preserved
loop-other-preserved c =
    let seats = c.args.nodes.now.seats in
    record {
      pushed = pushed_one (λ cs. order_among seats (peerings_of c.args.controller.now cs))
          (λ (n : NodeId). ends_of seats c.args.controller.now.name n.name) (λ x xs. refl) c.args.others.now
          c.loop-other.other-index c.other-item.result c.loop-other.order.items c.push_ends.new.order.items
          c.loop-other-test.true c.other-item.is c.in_ok-push_ends.ensures.pushed
          ∙ c.loop-other.invariant.pushed;
      seated = c.in_ok-push_ends.ensures.seated;
    }

pub returns-clause-pushed : goal.returns-clause-pushed
returns-clause-pushed c =
    pushed_all (λ cs. order_among c.args.nodes.now.seats (peerings_of c.args.controller.now cs)) refl
    c.args.others.now c.loop-other.other-index _ _ c.loop-other-test.false c.loop-other.invariant.pushed

pub returns-clause-seated : goal.returns-clause-seated
returns-clause-seated c = c.loop-other.invariant.seated
