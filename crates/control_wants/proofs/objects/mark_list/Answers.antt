use Rattle.std.proofs.Common.{◌≡◌, ℕ, ap, refl, subst, sym, ◌∙◌}
use Rattle.ov_types.specs.declared.objects.LowKey.{LowKey}
use Rattle.ov_types.specs.declared.objects.LowKey.TheVariants as key
use Rattle.vpn_tables.specs.NodeModel.Keys.{Low}
use Rattle.control_wants.specs.Marks.{IsCleanItem}
use Rattle.control_wants.specs.Marks.{no_route}
use Rattle.control_wants.proofs.Only.{only_more}
use Rattle.control_wants.proofs.objects.mark_list.Goals as goal

pub returns-in-Acl-clause-marked : goal.returns-in-Acl-clause-marked
returns-in-Acl-clause-marked c = λ all to is a clean.
    c.add_item.ensures.marked all a refl (subst (λ (x : LowKey). IsCleanItem c.add_item.new.self a (Low x)) c.in-Acl.is clean)

pub returns-in-Acl-clause-only : goal.returns-in-Acl-clause-only
returns-in-Acl-clause-only c =
    only_more _ _ no_route (λ a k. k ≡ Low (key.Acl c.in-Acl.number c.in-Acl.to)) (λ k n. absurd n)
    (λ a k is. (c.in-Acl.to, (c.in-Acl.is ∙ ap (λ (from : ℕ). key.Acl from c.in-Acl.to) c.if-number-from.true, is ∙ ap Low (sym c.in-Acl.is))))
    c.args.dirty.now c.add_item.new.self c.add_item.ensures.only
