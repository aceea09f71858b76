use Rattle.std.proofs.Common.{ap, sym, ◌∙◌, List}
use Rattle.ov_types.specs.declared.numbers.Label.{Label}
use Rattle.ov_types.specs.declared.rows.Attached.{Attached}
use Rattle.std.specs.List.{All}
use Rattle.std.proofs.Common.{subst}
use Rattle.packet_trace.specs.Circuits.{IsOfAUse}
use Rattle.agent_tables.specs.Kept.{label_order}
use Rattle.agent_tables.specs.Slice.{pairs_of}
use Rattle.agent_tables.specs.declared.object.SliceObject.{SliceObject}
use Rattle.agent_tables.proofs.Lists.{rest_none}
use Rattle.agent_tables.proofs.Ordered.{all_with}
use Rattle.agent_tables.proofs.Slices.{labels_in, labels_in_order, circuits_of_uses}
use Rattle.agent_tables.proofs.labels.labels_of.Goals as goal

abbrev labels_left : List (Label × Attached) → List SliceObject → List (Label × Attached)
labels_left labels slice = all_with label_order labels (labels_in (pairs_of slice))

pub returns-clause-labels : goal.returns-clause-labels
returns-clause-labels c =
    let items = c.args.slice.now in
    let k = c.loop-object.object-index in
    sym (ap (labels_left c.loop-object.labels) (rest_none items k c.loop-object-test.false)) ∙ c.loop-object.invariant ∙ labels_in_order (pairs_of items) c.requires

pub returns-clause-circuits : goal.returns-clause-circuits
returns-clause-circuits c =
    let is = returns-clause-labels c in
    subst (λ (l : List (Label × Attached)). All (λ e. IsOfAUse e.1) l) (sym is) (circuits_of_uses c.args.slice.now)
