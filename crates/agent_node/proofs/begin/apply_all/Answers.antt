use Rattle.std.proofs.Common.{sym, ap, ◌∙◌}
use Rattle.node_core.specs.Told.{change_of}
use Rattle.agent_node.specs.Applying.{changed_by}
use Rattle.node_core.specs.Told.{down_of}
use Rattle.agent_node.proofs.Applied.{after_more}
use Rattle.agent_node.proofs.begin.apply_all.Goals as goal

pub loop-item-preserved : goal.loop-item-preserved
loop-item-preserved c =
    let l = c.loop-item in
    record {
      changed = c.in_ok-apply.ensures.changed ∙ ap (changed_by (change_of c.in-Some.item)) l.invariant.changed
          ∙ sym (after_more (down_of c.args.held.now) l.yielded c.in-Some.item);
      fits = c.apply.ensures.fits;
    }
