use Rattle.std.proofs.Common.{◌≡◌, true}
use Rattle.std.specs.List.{AllByRecursion, filter_map}
use Rattle.ov_sync.specs.Keyed.{after}
use Rattle.item_wire.specs.Inputs.{is_of_agent}
use Rattle.node_core.specs.Told.{IsWritable, change_of}
use Rattle.control_node.specs.Stays.{StaysHeld}
use Rattle.control_node.specs.Taking.{agent_by}
use Rattle.control_node.specs.Tracking.{AreMarked}
use Rattle.control_node.proofs.taking.take_publications.Given as goal

abbrev pub invariant-loop-item : goal.invariant-loop-item
invariant-loop-item l = record {
  stays : StaysHeld l.fn.tables l.tables;
  marked : AreMarked l.fn.dirty l.dirty l.fn.tables l.tables;
  rest : agent_by (λ m. after m (filter_map change_of l.item-iterator.rest.items)) l.tables l.session
      ≡ agent_by (λ m. after m (filter_map change_of l.fn.records.items)) l.fn.tables l.session;
  agent : AllByRecursion (λ i. is_of_agent i ≡ true) l.item-iterator.rest.items;
  writable : AllByRecursion IsWritable l.item-iterator.rest.items;
}
