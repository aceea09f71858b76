use Rattle.std.proofs.Common.{◌≡◌, drop, length, IsTrue}
use Rattle.std.specs.List.{list_all}
use Rattle.serde_json.specs.View.{items_view}
use Rattle.item_wire.specs.Entries.{all_from}
use Rattle.item_wire.proofs.Lists.{with_front}
use Rattle.item_wire.proofs.list.all_from.Given as goal

abbrev pub invariant-loop-value : goal.invariant-loop-value
invariant-loop-value g l = record {
  so_far : with_front l.items (all_from g.T.Entry.reads (items_view (drop l.value-index l.values))) ≡ all_from g.T.Entry.reads (items_view l.values);
  form : IsTrue (list_all g.T.Entry.is_fit l.items);
  size : length l.items ≡ l.value-index;
}
