use Rattle.std.proofs.Common.{◌≡◌, drop}
use Rattle.ov_types.specs.First.{first_of}
use Rattle.config_check.specs.Rules.{repeated_controller}
use Rattle.config_check.proofs.names.first_repeated_controller.Given as goal

abbrev pub invariant-loop-node : goal.invariant-loop-node
invariant-loop-node l = first_of repeated_controller (drop l.node-index l.nodes) ≡ first_of repeated_controller l.nodes
