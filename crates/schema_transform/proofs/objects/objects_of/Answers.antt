use Rattle.std.proofs.Common.{◌∙◌, ap, map}
use Rattle.transform_model.specs.Objects.{instance_object, with_objects}
use Rattle.schema_transform.specs.HeldUses.{use_of}
use Rattle.schema_transform.proofs.Putting.{all_put}
use Rattle.schema_transform.proofs.objects.objects_of.Goals as goal

pub returns : goal.returns
returns c =
    all_put c.args.topology.now c.args.config.now (map use_of c.args.chain_uses.now) _ _ _ _ _ c.requires.uses
    (c.in_ok-put_instances.ensures
    ∙ ap (λ e. with_objects e (map (instance_object c.args.config.now) c.args.config.now.networks)) c.new-low.ensures.empty)
    c.in_ok-put_ports.ensures c.in_ok-put_all_circuits.ensures
    c.in_ok-put_all_acls.ensures c.in_ok-put_uses.ensures
