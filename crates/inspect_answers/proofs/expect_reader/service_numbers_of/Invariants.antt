use Rattle.std.proofs.Common.{◌≡◌, drop}
use Rattle.serde_json.specs.View.{items_view}
use Rattle.config_model.specs.Fields.{items_at}
use Rattle.config_model.specs.Paths.{place_text}
use Rattle.config_model.proofs.Lists.{with_front}
use Rattle.inspect_answers.specs.Expectations.{service_number_at}
use Rattle.inspect_answers.proofs.expect_reader.service_numbers_of.Given as goal

abbrev pub invariant-loop-index : goal.invariant-loop-index
invariant-loop-index l =
    with_front l.services (items_at service_number_at (place_text l.place) l.index (items_view (drop l.index l.values)))
    ≡ items_at service_number_at (place_text l.place) 0 (items_view l.values)
