use Rattle.std.proofs.Common.{ap, sym, ◌∙◌, ◌≤◌, List, find, length, arith}
use Rattle.std.specs.Option.{unwrap_or}
use Rattle.std.specs.declared.option.Option.{Option}
use Rattle.ov_types.specs.First.{same_name}
use Rattle.ov_types.specs.declared.rows.NodeId.{NodeId}
use Rattle.running_nodes.specs.Seats.{no_node}
use Rattle.running_nodes.proofs.Found.{found_here, found_later, is_found, none_found}
use Rattle.running_nodes.proofs.plans.controller_named.Goals as goal

pub loop-controller-init : goal.loop-controller-init
loop-controller-init c =
    ap (λ (xs : List NodeId). find (λ (n : NodeId). same_name n.name c.args.name.now) xs) (sym c.as_slice-controller-items.ensures)

pub returns-then-eq : goal.returns-then-eq
returns-then-eq c =
    sym (ap (λ (r : Option NodeId). unwrap_or r no_node) (c.loop-controller.invariant ∙
    found_here (λ (n : NodeId). same_name n.name c.args.name.now) c.as_slice-controller-items.result.now c.loop-controller.controller-index c.controller-item.result c.loop-controller-test.true c.controller-item.is (sym c.eq.ensures ∙ c.if-eq.true)))

pub loop-controller-preserved : goal.loop-controller-preserved
loop-controller-preserved c =
    c.loop-controller.invariant ∙
    found_later (λ (n : NodeId). same_name n.name c.args.name.now) c.as_slice-controller-items.result.now c.loop-controller.controller-index c.controller-item.result c.loop-controller-test.true c.controller-item.is (sym c.eq.ensures ∙ c.if-eq.false)

pub unreachable-requires : goal.unreachable-requires
unreachable-requires c =
    let all : length c.as_slice-controller-items.result.now ≤ c.loop-controller.controller-index = omega arith in
    is_found c.args.topology.now.controllers c.args.name.now c.requires (c.loop-controller.invariant ∙
    none_found (λ (n : NodeId). same_name n.name c.args.name.now) c.as_slice-controller-items.result.now c.loop-controller.controller-index all)
