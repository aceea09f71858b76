use Rattle.std.proofs.Common.{◌≡◌, map, take}
use Rattle.vpn_tables.specs.Listing.{told_in}
use Rattle.control_wants.specs.Marked.{marked_entry}
use Rattle.control_wants.specs.Wanted.{AreEachWanted, keys_of}
use Rattle.control_wants.proofs.agents.marked_items.Given as goal

abbrev pub invariant-loop-item : goal.invariant-loop-item
invariant-loop-item l = record {
  keys : map (λ e. e.0) l.wanted.items ≡ keys_of (told_in l.tables.agents l.session) (map marked_entry (take l.item-index l.marked));
  each : AreEachWanted l.tables l.session l.wanted.items;
}
