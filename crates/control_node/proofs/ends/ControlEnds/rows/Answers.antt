use Rattle.std.specs.Prelude.{List, map}
use Rattle.std.specs.List.Sorted.{IsStrictlySortedBy}
use Rattle.std.proofs.Common.{◌≡◌, sym, ◌∙◌, ap, subst}
use Rattle.ov_types.specs.Keys.{row_key_cmp}
use Rattle.ov_types.specs.Prefix.{Block}
use Rattle.ov_types.specs.declared.numbers.InstanceId.{InstanceId}
use Rattle.ov_types.specs.declared.rows.TableRow.{TableRow}
use Rattle.node_core.specs.NodeModel.Tables.{rows}
use Rattle.control_node.specs.Core.{holdings}
use Rattle.control_node.specs.Ends.{Ends}
use Rattle.control_node.proofs.Holding.{holdings_are}
use Rattle.control_node.proofs.Kept.{if_ok}
use Rattle.control_node.proofs.Shown.{rows_ascend}
use Rattle.control_node.proofs.ends.ControlEnds.rows.Goals as goal

pub returns-clause-shown : goal.returns-clause-shown
returns-clause-shown c =
    let inside = c.self.inside in
    if_ok c.rows.result (λ shown. shown ≡ rows inside.tables) _
    (λ shown e. e
    ∙ ap rows (sym (holdings_are inside.me inside.asn inside.feed inside.peers.items inside.agents.items inside.tables c.self.invariant.ends))
    ∙ ap (λ (v : Ends). rows (holdings v.plan v.posts)) c.self.view_is)
    c.rows.ensures

pub returns-clause-ascending : goal.returns-clause-ascending
returns-clause-ascending c =
    let inside = c.self.inside in
    if_ok c.rows.result (λ shown. shown ≡ rows inside.tables) _
    (λ shown e. subst (λ (rows : List ((InstanceId × Block) × TableRow)). IsStrictlySortedBy row_key_cmp (map (λ row. row.0) rows))
    (sym e) (rows_ascend inside.tables c.self.invariant.ends.fit))
    c.rows.ensures
