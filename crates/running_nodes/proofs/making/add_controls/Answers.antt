use Rattle.std.proofs.Common.{ap, sym, ◌≤◌, ◌++◌, ◌∙◌, List, length, map, refl, arith}
use Rattle.std.proofs.lemmas.List.{append-nil}
use Rattle.ov_types.specs.declared.rows.NodeId.{NodeId}
use Rattle.running_nodes.specs.ControlNode.Core.{fresh}
use Rattle.running_nodes.specs.Controls.{controls_of}
use Rattle.running_nodes.specs.Seats.{Controlling}
use Rattle.running_nodes.specs.Fresh.{fresh_outer, opening_plan}
use Rattle.running_nodes.proofs.Pushed.{all_pushed, pushed}
use Rattle.running_nodes.proofs.making.add_controls.Goals as goal

pub loop-controller-init : goal.loop-controller-init
loop-controller-init c = record {
  made = sym (append-nil c.args.controls.now.items);
  edges = sym (append-nil c.args.edges.now.items);
}

pub loop-controller-preserved : goal.loop-controller-preserved
loop-controller-preserved c = record {
  made = pushed (λ (x : NodeId). fresh (opening_plan c.args.topology.now x)) c.args.controls.now.items c.loop-controller.controls.items c.add_control.new.controls.items c.as_slice-controller-items.result.now c.loop-controller.controller-index c.controller-item.result (fresh (opening_plan c.args.topology.now c.controller-item.result)) c.loop-controller.invariant.made c.in_ok-add_control.ensures.control refl c.controller-item.is c.loop-controller-test.true;
  edges = pushed (λ (x : NodeId). fresh_outer (Controlling (controls_of (opening_plan c.args.topology.now x)))) c.args.edges.now.items c.loop-controller.edges.items c.add_control.new.edges.items c.as_slice-controller-items.result.now c.loop-controller.controller-index c.controller-item.result (fresh_outer (Controlling (controls_of (opening_plan c.args.topology.now c.controller-item.result)))) c.loop-controller.invariant.edges c.in_ok-add_control.ensures.edge refl c.controller-item.is c.loop-controller-test.true;
}

pub returns-clause-controls : goal.returns-clause-controls
returns-clause-controls c =
    let all : length c.as_slice-controller-items.result.now ≤ c.loop-controller.controller-index = omega arith in
    all_pushed (λ (x : NodeId). fresh (opening_plan c.args.topology.now x)) c.args.controls.now.items c.loop-controller.controls.items c.as_slice-controller-items.result.now c.loop-controller.controller-index c.loop-controller.invariant.made all ∙ ap (λ (xs : List NodeId). c.args.controls.now.items ++ map (λ (x : NodeId). fresh (opening_plan c.args.topology.now x)) xs) c.as_slice-controller-items.ensures

pub returns-clause-edges : goal.returns-clause-edges
returns-clause-edges c =
    let all : length c.as_slice-controller-items.result.now ≤ c.loop-controller.controller-index = omega arith in
    all_pushed (λ (x : NodeId). fresh_outer (Controlling (controls_of (opening_plan c.args.topology.now x)))) c.args.edges.now.items c.loop-controller.edges.items c.as_slice-controller-items.result.now c.loop-controller.controller-index c.loop-controller.invariant.edges all ∙ ap (λ (xs : List NodeId). c.args.edges.now.items ++ map (λ (x : NodeId). fresh_outer (Controlling (controls_of (opening_plan c.args.topology.now x)))) xs) c.as_slice-controller-items.ensures
