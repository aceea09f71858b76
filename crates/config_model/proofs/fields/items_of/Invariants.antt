use Rattle.std.proofs.Common.{◌≡◌, drop, length, IsTrue}
use Rattle.std.specs.List.{list_all}
use Rattle.serde_json.specs.View.{items_view}
use Rattle.config_model.specs.Fields.{items_at}
use Rattle.config_model.specs.Paths.{place_text}
use Rattle.config_model.proofs.Lists.{with_front}
use Rattle.config_model.proofs.fields.items_of.Given as goal

abbrev pub invariant-loop-index : goal.invariant-loop-index
invariant-loop-index g l = record {
  so_far : with_front l.items (items_at g.T.FromDocument.reads (place_text l.place) l.index (items_view (drop l.index l.values)))
      ≡ items_at g.T.FromDocument.reads (place_text l.place) 0 (items_view l.values);
  form : IsTrue (list_all g.T.FromDocument.has_form l.items);
  size : length l.items ≡ l.index;
}
