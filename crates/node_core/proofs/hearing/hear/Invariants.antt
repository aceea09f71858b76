use Rattle.std.proofs.Common.{◌≡◌, IsTrue, length}
use Rattle.std.specs.List.{AllByRecursion}
use Rattle.item_wire.specs.Inputs.{may_send}
use Rattle.node_core.specs.Told.{IsWritable}
use Rattle.ov_link.proofs.Ends.{IsEnd}
use Rattle.node_core.proofs.Hearings.{LeadsFrom}
use Rattle.node_core.proofs.hearing.hear.Given as goal

abbrev pub invariant-hearing : goal.invariant-hearing
invariant-hearing l = record {
  leads : LeadsFrom l.fn.session l.fn.bytes l.records.items l.session l.rest;
  end : IsEnd l.fn.bytes l.rest;
  peer : l.session.peer ≡ l.fn.session.peer;
  from : l.session.from ≡ l.fn.session.from;
  sent : AllByRecursion (λ i. IsTrue (may_send l.fn.session.from i)) l.records.items;
  writable : AllByRecursion IsWritable l.records.items;
}

abbrev pub decreases-hearing : goal.decreases-hearing
decreases-hearing l = length l.rest
