use Rattle.std.proofs.Common.{◌+◌, ◌++◌, ◌∷◌, ◌∙◌, [], ap, sym}
use Rattle.std.proofs.lemmas.List.{append_assoc}
use Rattle.route_targets.specs.Numbers.{hop_instance_of}
use Rattle.transform_model.specs.Uses.{hops_from}
use Rattle.schema_transform.proofs.Ends.{one_more}
use Rattle.schema_transform.proofs.transform.push_hops.Goals as goal

pub loop-place-preserved : goal.loop-place-preserved
loop-place-preserved c =
    c.in_ok-push_hop.ensures
    ∙ ap (λ is. is ++ hop_instance_of c.args.found.now.number (c.loop-place.place + 1) ∷ []) c.loop-place.invariant
    ∙ append_assoc c.args.instances.now.items (hops_from c.args.found.now.number 0 c.loop-place.place)
    (hop_instance_of c.args.found.now.number (c.loop-place.place + 1) ∷ [])
    ∙ ap (λ is. c.args.instances.now.items ++ is) (sym (one_more c.args.found.now.number c.loop-place.place))
