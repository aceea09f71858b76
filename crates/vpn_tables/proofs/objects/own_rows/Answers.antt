use Rattle.std.proofs.Common.{rules, ◌≡◌, ◌∙◌, ap, map, List}
use Rattle.std.specs.List.{flat_map}
use Rattle.ov_types.specs.Prefix.{Block}
use Rattle.ov_types.specs.declared.numbers.InstanceId.{InstanceId}
use Rattle.vpn_tables.specs.Changing.{instances_of}
use Rattle.vpn_tables.proofs.objects.own_rows.Goals as goal

abbrev of_each : List Block → List InstanceId → List (InstanceId × Block)
of_each prefixes instances = flat_map (λ (i : InstanceId). map (λ (p : Block). (i, p)) prefixes) instances

pub returns : goal.returns
returns c =
    let prefixes = c.in_ok-prefixes.prefixes.items in
    let listed : c.loop-instance.rows.items ≡ of_each prefixes c.deref-instance-items.result.now = search rules in
    listed
    ∙ ap (of_each prefixes) (c.deref-instance-items.ensures.value ∙ c.in_ok-instances.ensures)
    ∙ ap (λ (ps : List Block). of_each ps (instances_of c.args.of.now)) c.in_ok-prefixes.ensures
