use Rattle.std.proofs.Common.{◌≡◌, ◌≤◌, max, drop}
use Rattle.running_nodes.specs.MachineModel.Setup.{longest_of}
use Rattle.transform_model.specs.Uses.{use_by}
use Rattle.std.specs.List.{filter_map}
use Rattle.config_types.specs.declared.config.Rule.{Rule}
use Rattle.net_machine.proofs.longest.longest_by.Given as goal

abbrev pub invariant-loop-rule : goal.invariant-loop-rule
invariant-loop-rule l = record {
  most : max l.longest (longest_of (filter_map (λ (r : Rule). use_by l.config l.policy r r.action)
      (drop l.rule-index l.rule-items)))
      ≡ longest_of (filter_map (λ (r : Rule). use_by l.config l.policy r r.action) l.rule-items);
  few : l.longest ≤ 15;
}
