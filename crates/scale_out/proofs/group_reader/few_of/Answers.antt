use Rattle.std.proofs.Common.{sym, ◌∙◌}
use Rattle.serde_json.specs.View.{view}
use Rattle.config_model.specs.Paths.{place_text}
use Rattle.config_model.proofs.Counts.{fails}
use Rattle.scale_out.proofs.GroupsRead.{few_kept, few_refused}
use Rattle.scale_out.proofs.group_reader.few_of.Goals as goal

pub returns-then-is_few-clause-reads : goal.returns-then-is_few-clause-reads
returns-then-is_few-clause-reads c =
    few_kept (place_text c.args.place.now) (view c.args.value.now) c.in_ok-values.values.now c.in_ok-values.ensures.reads (sym c.is_few.ensures ∙ c.if-is_few.true)

pub returns-else-is_few-clause-reads : goal.returns-else-is_few-clause-reads
returns-else-is_few-clause-reads c =
    fails c.fault.result _ _ c.fault.ensures
    (few_refused (place_text c.args.place.now) (view c.args.value.now) c.in_ok-values.values.now c.in_ok-values.ensures.reads (sym c.is_few.ensures ∙ c.if-is_few.false))
