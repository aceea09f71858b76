use Rattle.std.proofs.Common.{◌≡◌, drop}
use Rattle.std.specs.Prelude.{map}
use Rattle.transform_model.specs.Objects.{use_object, with_objects}
use Rattle.schema_transform.specs.HeldUses.{use_of}
use Rattle.schema_transform.proofs.objects.put_uses.Given as goal

abbrev pub invariant-loop-found : goal.invariant-loop-found
invariant-loop-found l =
    with_objects l.low.entries (map (use_object l.topology) (map use_of (drop l.found-index l.chain_uses)))
    ≡ with_objects l.fn.low.entries (map (use_object l.topology) (map use_of l.chain_uses))
