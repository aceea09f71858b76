use Rattle.std.proofs.Common.{◌≡◌, refl, subst, sym}
use Rattle.ov_types.specs.declared.objects.LowKey.{LowKey}
use Rattle.vpn_tables.specs.NodeModel.Keys.{Low}
use Rattle.control_wants.specs.Marks.{IsCleanItem, MarksOnly, no_route}
use Rattle.control_wants.proofs.Only.{only_all}
use Rattle.control_wants.proofs.objects.mark_name.Goals as goal

pub returns-then-follows-clause-marked : goal.returns-then-follows-clause-marked
returns-then-follows-clause-marked c = λ all a clean.
    c.add_item.ensures.marked all a refl
    (subst (λ (x : LowKey). IsCleanItem c.add_item.new.self a (Low x)) (sym c.key_of-name.ensures) clean)

pub returns-then-follows-clause-only : goal.returns-then-follows-clause-only
returns-then-follows-clause-only c =
    subst (λ (x : LowKey). MarksOnly no_route (λ a k. k ≡ Low x) c.args.dirty.now c.add_item.new.self) c.key_of-name.ensures c.add_item.ensures.only

pub returns-else-follows-clause-only : goal.returns-else-follows-clause-only
returns-else-follows-clause-only c = only_all _ _ c.args.dirty.now c.set_all.new.self c.set_all.ensures
