use Rattle.std.proofs.Common.{◌≡◌, ◌++◌, map, take}
use Rattle.running_nodes.specs.ControlNode.Core.{fresh}
use Rattle.running_nodes.specs.Controls.{controls_of}
use Rattle.running_nodes.specs.Seats.{Controlling}
use Rattle.running_nodes.specs.Fresh.{fresh_outer, opening_plan}
use Rattle.running_nodes.proofs.making.add_controls.Given as goal

abbrev pub invariant-loop-controller : goal.invariant-loop-controller
invariant-loop-controller l = record {
  made : l.controls.items ≡ l.initial.controls.items ++ map (λ x. fresh (opening_plan l.topology x)) (take l.controller-index l.controller-items);
  edges : l.edges.items ≡ l.initial.edges.items ++ map (λ x. fresh_outer (Controlling (controls_of (opening_plan l.topology x)))) (take l.controller-index l.controller-items);
}
