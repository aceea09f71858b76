use Rattle.std.proofs.Common.{Some, ap, sym, ◌∙◌}
use Rattle.ov_types.specs.declared.keys.DownValue.{DownValue}
use Rattle.node_core.specs.Told.{down_value}
use Rattle.node_core.specs.NodeModel.Agent.{as_hop}
use Rattle.agent_tables.proofs.Images.{row-get}
use Rattle.agent_tables.proofs.hearing.row_held.Goals as goal

pub returns-in-Some-Row : goal.returns-in-Some-Row
returns-in-Some-Row c =
    ap (λ (v : DownValue). as_hop (Some (down_value v))) (sym c.in-Some-Row.field-0-is)
    ∙ row-get c.args.held.now c.args.instance c.args.prefix _ c.in-Some-Row.ensures

pub returns-in-Some-Object : goal.returns-in-Some-Object
returns-in-Some-Object c =
    ap (λ (v : DownValue). as_hop (Some (down_value v))) (sym c.in-Some-Object.field-0-is)
    ∙ row-get c.args.held.now c.args.instance c.args.prefix _ c.in-Some-Object.ensures

pub returns-in-None : goal.returns-in-None
returns-in-None c = row-get c.args.held.now c.args.instance c.args.prefix _ c.in-None.ensures
