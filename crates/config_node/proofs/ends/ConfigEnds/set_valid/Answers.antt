use Rattle.std.proofs.Common.{Option, ◌∙◌, ap, subst, sym}
use Rattle.ov_types.specs.declared.objects.LowKey.{LowKey}
use Rattle.config_node.specs.Ends.{AreEnds, Ends}
use Rattle.config_node.proofs.Posts.{ends_changed}
use Rattle.config_node.proofs.ends.ConfigEnds.set_valid.Goals as goal

pub invariant_of-self-in-Some : goal.invariant_of-self-in-Some
invariant_of-self-in-Some c =
    let x = c.self.inside.valid in
    let wants = c.self.inside.wants.entries in
    let es = c.self.inside.ends.items in
    let change = c.in-Some.ensures.change in
    ends_changed x c.args.valid wants c.want.new.wants.entries c.in-Some.key c.in-Some.value es
    (subst (λ (o : Option LowKey). AreEnds x wants o es) c.in-Some.ensures.told c.self.invariant)
    (c.requires.same ∙ sym (ap (λ (e : Ends). e.setup.topology.controllers) c.self.view_is))
    c.in_ok-want-in-Some.ensures.ok change.change change.fits
