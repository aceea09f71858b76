use Rattle.std.proofs.Common.{◌≡◌, drop}
use Rattle.std.specs.Prelude.{◌++◌, flat_map, map}
use Rattle.transform_model.specs.Uses.{hops}
use Rattle.schema_transform.specs.HeldUses.{use_of}
use Rattle.schema_transform.proofs.transform.push_all_hops.Given as goal

abbrev pub invariant-loop-found : goal.invariant-loop-found
invariant-loop-found l =
    l.instances.items ++ flat_map hops (map use_of (drop l.found-index l.chain_uses))
    ≡ l.fn.instances.items ++ flat_map hops (map use_of l.chain_uses)
