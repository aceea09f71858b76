use Rattle.std.proofs.Common.{Some, ap, sym, ◌∙◌}
use Rattle.ov_types.specs.declared.keys.DownValue.{DownValue}
use Rattle.node_core.specs.Told.{Fits, down_of, down_value}
use Rattle.node_core.specs.NodeModel.Keys.{Low}
use Rattle.node_core.specs.NodeModel.Maps.{as_object}
use Rattle.node_core.specs.NodeModel.Values.{Object}
use Rattle.agent_tables.proofs.Held.{object_found}
use Rattle.agent_tables.proofs.Images.{object-get, slice-get}
use Rattle.agent_tables.proofs.Objects.{circuit, keyed}
use Rattle.agent_tables.proofs.slice.object_under.Goals as goal

pub invariant_of-result : goal.invariant_of-result
invariant_of-result c =
    let fits : Fits (Low c.args.key) (Object c.in-Some-Object.value) = c.requires (Low c.args.key) (Object c.in-Some-Object.value)
    (sym (slice-get c.args.held.now c.args.key _ c.in-Some-Object.ensures)
    ∙ ap (λ (v : DownValue). Some (down_value v)) c.in-Some-Object.field-0-is) in
    record { keyed = keyed c.args.key c.in-Some-Object.value fits; circuit = circuit c.args.key c.in-Some-Object.value fits }

pub returns-in-Some-Object-clause-object : goal.returns-in-Some-Object-clause-object
returns-in-Some-Object-clause-object c =
    ap (λ (v : DownValue). as_object (Some (down_value v))) (sym c.in-Some-Object.field-0-is)
    ∙ object-get c.args.held.now c.args.key _ c.in-Some-Object.ensures ∙ sym (object_found (down_of c.args.held.now) c.args.key)

pub returns-in-Some-Row-clause-object : goal.returns-in-Some-Row-clause-object
returns-in-Some-Row-clause-object c =
    ap (λ (v : DownValue). as_object (Some (down_value v))) (sym c.in-Some-Row.field-0-is)
    ∙ object-get c.args.held.now c.args.key _ c.in-Some-Row.ensures ∙ sym (object_found (down_of c.args.held.now) c.args.key)

pub returns-in-None-clause-object : goal.returns-in-None-clause-object
returns-in-None-clause-object c =
    object-get c.args.held.now c.args.key _ c.in-None.ensures ∙ sym (object_found (down_of c.args.held.now) c.args.key)
