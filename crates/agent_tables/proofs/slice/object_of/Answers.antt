use Rattle.std.proofs.Common.{subst}
use Rattle.ov_types.specs.declared.keys.DownKey.{DownKey}
use Rattle.ov_types.specs.declared.keys.DownValue.{DownValue}
use Rattle.node_core.specs.Told.{Fits, down_value}
use Rattle.node_core.specs.NodeModel.Keys.{Low, of_down}
use Rattle.node_core.specs.NodeModel.Values.{Object}
use Rattle.agent_tables.proofs.Objects.{keyed, circuit}
use Rattle.agent_tables.proofs.slice.object_of.Goals as goal

pub invariant_of-result : goal.invariant_of-result
invariant_of-result c =
    let at_key : Fits (Low c.in-Slice.key) (down_value c.args.value.now) = subst (λ (k : DownKey). Fits (of_down k) (down_value c.args.value.now)) c.in-Slice.is c.requires in
    let fits : Fits (Low c.in-Slice.key) (Object c.in-Object.value) = subst (λ (v : DownValue). Fits (Low c.in-Slice.key) (down_value v)) c.in-Object.is at_key in
    record { keyed = keyed c.in-Slice.key c.in-Object.value fits; circuit = circuit c.in-Slice.key c.in-Object.value fits }
