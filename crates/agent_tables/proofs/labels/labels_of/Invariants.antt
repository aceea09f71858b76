use Rattle.std.proofs.Common.{◌≡◌, [], drop}
use Rattle.std.specs.List.{filter_map}
use Rattle.node_core.specs.NodeModel.Agent.{attached}
use Rattle.agent_tables.specs.Kept.{label_order}
use Rattle.agent_tables.specs.Slice.{pairs_of}
use Rattle.agent_tables.proofs.Ordered.{all_with}
use Rattle.agent_tables.proofs.labels.labels_of.Given as goal

abbrev pub invariant-loop-object : goal.invariant-loop-object
invariant-loop-object l =
    all_with label_order l.labels (filter_map (λ e. attached e.0 e.1) (pairs_of (drop l.object-index l.slice)))
    ≡ all_with label_order [] (filter_map (λ e. attached e.0 e.1) (pairs_of l.slice))
