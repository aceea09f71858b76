use Rattle.std.proofs.Common.{sym, subst}
use Rattle.node_core.specs.Told.{change_of}
use Rattle.control_node.specs.Stays.{StaysHeld}
use Rattle.control_node.specs.Taking.{changed_by}
use Rattle.control_node.proofs.Applied.{agent-changed, by_record, stays-agent}
use Rattle.control_node.proofs.taking.take_publication.Goals as goal

pub returns-in_ok-set_publication-in-Some-clause-stays :
    goal.returns-in_ok-set_publication-in-Some-clause-stays
returns-in_ok-set_publication-in-Some-clause-stays c =
    let held = c.args.tables.now in
    let is = agent-changed held c.set_publication.new.tables c.args.session c.args.item c.in-Some.delta c.in_ok-set_publication-in-Some.ensures.ok (c.in-Some.ensures c.requires.agent) in
    subst (StaysHeld held) (sym is) (stays-agent (λ m. changed_by m (change_of c.args.item)) held c.args.session (by_record c.args.item c.requires.writable))
