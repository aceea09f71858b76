use Rattle.std.proofs.Common.{ap, ◌∙◌}
use Rattle.ov_types.specs.declared.rows.NodeRows.TheVariants as Rows
use Rattle.running_nodes.specs.ControlNode.Core as core
use Rattle.running_nodes.specs.Controls as controls
use Rattle.running_nodes.specs.Controls.{controls_of}
use Rattle.node_laws.proofs.Quiet.{quiet_rows}
use Rattle.running_nodes.proofs.Vacant.{same_but_quiet}
use Rattle.running_nodes.proofs.acting.show_control.Goals as goal

pub returns : goal.returns
returns c =
    let plan = c.args.node.now.plan in
    let posts = c.args.node.now.posts in
    ap Rows.Control (c.in_ok-rows.ensures.shown
    ∙ quiet_rows (core.holdings plan posts) (controls.holdings (controls_of plan) posts) (same_but_quiet plan posts c.requires.none))
