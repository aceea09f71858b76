use Rattle.control_wants.specs.Marks.{IsRowMoved, no_route}
use Rattle.ov_types.specs.declared.keys.DownKey.TheVariants as down
use Rattle.vpn_tables.specs.NodeModel.Keys.{of_down}
use Rattle.control_wants.proofs.Only.{only_itself, only_more}
use Rattle.control_wants.proofs.told.mark_row.Goals as goal
use Rattle.std.proofs.Common.{rules, ◌≡◌, ◌≢◌}

pub returns-then-ne-clause-only : goal.returns-then-ne-clause-only
returns-then-ne-clause-only c =
    let x = c.args.change.now in
    let differs : x.before.path ≢ x.after.path = search rules in
    only_more no_route (IsRowMoved x) no_route (λ a k. k ≡ of_down (down.Route x.instance x.prefix)) (λ k n. n) (λ a k e. (differs, e)) _ _ c.add_item.ensures.only

pub returns-else-ne-clause-only : goal.returns-else-ne-clause-only
returns-else-ne-clause-only c = only_itself no_route (IsRowMoved c.args.change.now) c.args.dirty.now
