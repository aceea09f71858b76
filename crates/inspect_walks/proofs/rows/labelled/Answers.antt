use Rattle.std.proofs.Common.{eq-eqb, ne_eqb}
use Rattle.inspect_walks.proofs.Labels.{label_apart, labels_past}
use Rattle.inspect_walks.proofs.Searching.{at_another, at_end, at_it}
use Rattle.inspect_walks.proofs.rows.labelled.Goals as goal

pub returns-in_err-entry : goal.returns-in_err-entry
returns-in_err-entry c =
    let n = c.args.label.0 in
    let ls = c.args.labels.now in
    rw c.from_residual.ensures
    (at_end _ _ (label_apart n) ls c.labels_before.result c.labels_before.ensures (labels_past n ls c.requires) c.item_at.result c.item_at.ensures c.in_err-entry.was)

pub returns-then-entry-label : goal.returns-then-entry-label
returns-then-entry-label c =
    let n = c.args.label.0 in
    let ls = c.args.labels.now in
    at_another _ _ (label_apart n) ls c.labels_before.result c.labels_before.ensures (labels_past n ls c.requires) c.item_at.result c.item_at.ensures c.in_ok-entry.entry c.in_ok-entry.was
    (ne_eqb c.in_ok-entry.entry.now.0.0 n c.if-entry-label.true)

pub returns : goal.returns
returns c =
    let n = c.args.label.0 in
    let ls = c.args.labels.now in
    at_it _ _ (label_apart n) ls c.labels_before.result c.labels_before.ensures (labels_past n ls c.requires) c.item_at.result c.item_at.ensures c.in_ok-entry.entry c.in_ok-entry.was
    (eq-eqb c.in_ok-entry.entry.now.0.0 n c.if-entry-label.false)
