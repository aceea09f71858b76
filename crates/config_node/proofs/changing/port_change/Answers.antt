use Rattle.std.proofs.Common.{List, drop, subst}
use Rattle.config_types.specs.declared.config.Port.{Port}
use Rattle.config_node.specs.Changing.{DifferInOne}
use Rattle.config_node.proofs.Changed.{differ_later}
use Rattle.config_node.proofs.changing.port_change.Goals as goal

pub returns : goal.returns
returns c =
    let n = c.shared_front-shared.result in
    let change = c.in_ok-change.change in
    differ_later n c.args.before.now c.args.now.now change.old change.new c.shared_front-shared.ensures.same
    (subst (λ (ps : List Port). DifferInOne ps (drop n c.args.now.now) change.old change.new) c.behind-one.ensures
    (subst (λ (ps : List Port). DifferInOne c.behind-one.result.now ps change.old change.new) c.behind-other.ensures
    c.in_ok-change.ensures))
