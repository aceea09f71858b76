use Rattle.std.proofs.Common.{◌∙◌, ap, sym}
use Rattle.std.specs.FinMap.{get}
use Rattle.vpn_tables.specs.NodeModel.Keys.{of_down}
use Rattle.vpn_tables.specs.Here.{wanted_on}
use Rattle.control_wants.specs.Marked.{key_in}
use Rattle.control_wants.specs.declared.marked.ItemKey.{ItemKey}
use Rattle.control_wants.proofs.RowsMarked.{row_told}
use Rattle.control_wants.proofs.marked.value_of.Goals as goal

pub returns-in-Row : goal.returns-in-Row
returns-in-Row c =
    let h = c.args.tables.now in
    c.subscribed.ensures
    ∙ row_told h c.args.session c.in-Row.instance c.in-Row.prefix c.in-Row.row (rw c.in-Row.is at c.requires)
    ∙ ap (λ (m : ItemKey). get (wanted_on h c.args.session) (of_down (key_in m))) (sym c.in-Row.is)
