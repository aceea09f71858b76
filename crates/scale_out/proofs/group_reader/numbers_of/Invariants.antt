use Rattle.std.proofs.Common.{◌≡◌, drop, length, IsTrue, nat_le}
use Rattle.std.specs.List.{list_all}
use Rattle.serde_json.specs.View.{items_view}
use Rattle.config_model.specs.Fields.{items_at, whole_at}
use Rattle.config_model.specs.Paths.{place_text}
use Rattle.config_model.proofs.Lists.{with_front}
use Rattle.scale_out.proofs.group_reader.numbers_of.Given as goal

abbrev pub invariant-loop-index : goal.invariant-loop-index
invariant-loop-index l = record {
  so_far : with_front l.numbers (items_at (whole_at 0 65535) (place_text l.place) l.index (items_view (drop l.index l.values)))
      ≡ items_at (whole_at 0 65535) (place_text l.place) 0 (items_view l.values);
  form : IsTrue (list_all (λ n. nat_le n 65535) l.numbers);
  size : length l.numbers ≡ l.index;
}
