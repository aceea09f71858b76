use Rattle.std.proofs.Common.{subst, ◌∙◌}
use Rattle.control_wants.specs.Marks.{AreListsMarked}
use Rattle.control_wants.specs.Marks.{IsListAmong, MarksOnly, no_route}
use Rattle.control_wants.proofs.Only.{only_all}
use Rattle.control_wants.proofs.objects.mark_network.Goals as goal

pub returns-in-Ok-clause-marked : goal.returns-in-Ok-clause-marked
returns-in-Ok-clause-marked c =
    subst (AreListsMarked c.mark_lists.new.dirty c.args.network.0) (c.deref.ensures.value ∙ c.in-Ok.ensures) c.mark_lists.ensures.marked

pub returns-in-Ok-clause-only : goal.returns-in-Ok-clause-only
returns-in-Ok-clause-only c =
    subst (λ objects. MarksOnly no_route (IsListAmong c.args.network.0 objects) c.args.dirty.now c.mark_lists.new.dirty) (c.deref.ensures.value ∙ c.in-Ok.ensures) c.mark_lists.ensures.only

pub returns-in-Err-clause-only : goal.returns-in-Err-clause-only
returns-in-Err-clause-only c = only_all _ _ c.args.dirty.now c.set_all.new.self c.set_all.ensures
