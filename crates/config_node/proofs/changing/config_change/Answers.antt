use Rattle.std.proofs.Common.{List, subst}
use Rattle.config_types.specs.declared.config.Port.{Port}
use Rattle.config_node.specs.Changing.{DifferInOne}
use Rattle.config_node.proofs.changing.config_change.Goals as goal

pub returns : goal.returns
returns c =
    let change = c.in_ok-change.change in
    subst (λ (ps : List Port). DifferInOne ps c.args.now.now.ports change.old change.new) c.as_slice-one.ensures
    (subst (λ (ps : List Port). DifferInOne c.as_slice-one.result.now ps change.old change.new) c.as_slice-other.ensures
    c.in_ok-change.ensures)
