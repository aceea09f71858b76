use Rattle.std.proofs.Common.{sym, subst}
use Rattle.node_core.specs.Told.{change_of}
use Rattle.control_node.specs.Stays.{StaysHeld}
use Rattle.control_node.specs.Taking.{changed_by}
use Rattle.control_node.proofs.Applied.{by_record, feed-changed, stays-feed}
use Rattle.control_node.proofs.taking.take_object.Goals as goal

pub returns-in_ok-set_low-in-Some-clause-stays : goal.returns-in_ok-set_low-in-Some-clause-stays
returns-in_ok-set_low-in-Some-clause-stays c =
    let held = c.args.tables.now in
    let is = feed-changed held c.set_low.new.tables c.args.item c.in-Some.delta c.in_ok-set_low-in-Some.ensures.ok (c.in-Some.ensures c.requires.feed) in
    subst (StaysHeld held) (sym is) (stays-feed (λ m. changed_by m (change_of c.args.item)) held (by_record c.args.item c.requires.writable))
