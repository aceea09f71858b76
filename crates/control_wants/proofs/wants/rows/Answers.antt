use Rattle.std.proofs.Common.{◌++◌, ◌∙◌, ap, append-nil, sym, List}
use Rattle.std.proofs.lemmas.List.{at_drop_all}
use Rattle.std.specs.List.{flat_map}
use Rattle.ov_types.specs.declared.numbers.InstanceId.{InstanceId}
use Rattle.node_routes.specs.NodeModel.Tables.{known_instances}
use Rattle.control_wants.specs.Entries.{shown_rows}
use Rattle.control_wants.proofs.Wanting.{rows_shown}
use Rattle.control_wants.proofs.wants.rows.Goals as goal

pub returns : goal.returns
returns c =
    let h = c.args.tables.now in
    let items = c.deref-instance-items.result.now in
    c.from_vec.ensures ∙ sym (append-nil c.loop-instance.rows.items)
    ∙ sym (at_drop_all (λ (l : List InstanceId). c.loop-instance.rows.items ++ flat_map (shown_rows h) l) items c.loop-instance.instance-index c.loop-instance-test.false)
    ∙ c.loop-instance.invariant
    ∙ ap (λ (l : List InstanceId). flat_map (shown_rows h) l) (c.deref-instance-items.ensures.value ∙ c.in_ok-instances.ensures)
    ∙ rows_shown h (known_instances h.feed)
