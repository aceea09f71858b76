use Rattle.std.proofs.Common.{◌≡◌, ◌≤◌, max, drop}
use Rattle.std.specs.List.{flat_map}
use Rattle.running_nodes.specs.MachineModel.Setup.{longest_of}
use Rattle.transform_model.specs.Uses.{uses_of}
use Rattle.net_machine.proofs.longest.longest.Given as goal

abbrev pub invariant-loop-policy : goal.invariant-loop-policy
invariant-loop-policy l = record {
  most : max l.longest (longest_of (flat_map (uses_of l.config) (drop l.policy-index l.policy-items)))
      ≡ longest_of (flat_map (uses_of l.config) l.policy-items);
  few : l.longest ≤ 15;
}
