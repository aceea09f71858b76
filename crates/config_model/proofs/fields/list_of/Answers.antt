use Rattle.std.proofs.Common.{sym, ◌∙◌}
use Rattle.config_model.specs.Paths.{place_text}
use Rattle.serde_json.specs.View.{view}
use Rattle.config_model.proofs.Counts.{fails, is_kept, is_refused}
use Rattle.config_model.proofs.fields.list_of.Goals as goal

pub returns-then-allows-clause-reads : goal.returns-then-allows-clause-reads
returns-then-allows-clause-reads c =
    is_kept c.args.count (place_text c.args.place.now) (view c.args.value.now) c.in-Some.list.now.items c.as_slice-items.result.now c.as_slice-items.ensures.value c.in-Some.ensures
    (sym c.allows.ensures ∙ c.if-allows.true)

pub returns-else-allows-clause-reads : goal.returns-else-allows-clause-reads
returns-else-allows-clause-reads c =
    fails c.fault-else-allows.result _ _ c.fault-else-allows.ensures
    (is_refused c.args.count (place_text c.args.place.now) (view c.args.value.now) c.in-Some.list.now.items c.as_slice-items.result.now c.as_slice-items.ensures.value c.in-Some.ensures
    (sym c.allows.ensures ∙ c.if-allows.false))
