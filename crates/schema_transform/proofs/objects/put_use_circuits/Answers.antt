use Rattle.std.proofs.Common.{◌∙◌, ap, map}
use Rattle.std.specs.List.{filter_map}
use Rattle.transform_model.specs.Objects.{circuit_object, with_objects}
use Rattle.schema_transform.specs.Held.{circuit_of}
use Rattle.schema_transform.specs.HeldUses.{use_of}
use Rattle.schema_transform.proofs.Putting.{circuits_put}
use Rattle.schema_transform.proofs.objects.put_use_circuits.Goals as goal

pub returns : goal.returns
returns c =
    c.in_ok-put_circuits-2.ensures
    ∙ ap (λ e. with_objects e (filter_map (circuit_object c.args.topology.now) (map circuit_of c.as_slice-2.result.now)))
    c.in_ok-put_circuits.ensures
    ∙ circuits_put c.args.topology.now (use_of c.args.found.now) (map circuit_of c.as_slice.result.now)
    (map circuit_of c.as_slice-2.result.now) c.args.low.now.entries
    (ap (map circuit_of) c.as_slice.ensures ∙ c.args.found.now.lefts)
    (ap (map circuit_of) c.as_slice-2.ensures ∙ c.args.found.now.rights)
