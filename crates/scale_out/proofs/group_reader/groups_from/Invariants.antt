use Rattle.std.proofs.Common.{◌≡◌, [], drop, IsTrue}
use Rattle.std.specs.List.{list_all}
use Rattle.serde_json.specs.View.{items_view}
use Rattle.config_model.specs.Paths.{place_text}
use Rattle.scale_out.specs.Form.{has_group_form}
use Rattle.scale_out.specs.Reading.{groups_from}
use Rattle.scale_out.proofs.group_reader.groups_from.Given as goal

abbrev pub invariant-loop-index : goal.invariant-loop-index
invariant-loop-index l = record {
  so_far : groups_from l.config (place_text l.place) l.index l.groups (items_view (drop l.index l.values))
      ≡ groups_from l.config (place_text l.place) 0 [] (items_view l.values);
  form : IsTrue (list_all has_group_form l.groups);
}
