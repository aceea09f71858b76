use Rattle.std.proofs.Common.{◌≡◌}
use Rattle.std.specs.List.{filter_map}
use Rattle.ov_sync.specs.Keyed.{after}
use Rattle.node_core.specs.Told.{AllFit, change_of, down_of}
use Rattle.agent_node.proofs.begin.apply_all.Given as goal

abbrev pub invariant-loop-item : goal.invariant-loop-item
invariant-loop-item l = record {
  changed : down_of l.held ≡ after (down_of l.fn.held) (filter_map change_of l.yielded);
  fits : AllFit (down_of l.held);
}
