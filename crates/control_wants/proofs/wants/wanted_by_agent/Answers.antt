use Rattle.std.proofs.Common.{ap, ◌∙◌, List, ◌++◌, map}
use Rattle.std.specs.List.{flat_map}
use Rattle.ov_types.specs.declared.keys.DownKey.{DownKey}
use Rattle.ov_types.specs.declared.keys.DownValue.{DownValue}
use Rattle.ov_types.specs.declared.numbers.InstanceId.{InstanceId}
use Rattle.vpn_tables.specs.Listing.{told_in}
use Rattle.control_wants.specs.Entries.{told_object, told_rows}
use Rattle.control_wants.proofs.Wanting.{agent_wanted}
use Rattle.control_wants.proofs.wants.wanted_by_agent.Goals as goal

pub returns : goal.returns
returns c =
    let h = c.args.tables.now in
    agent_wanted h (told_in h.agents c.args.session) c.in_ok-wanted.wanted.entries c.push_tables.new.told.items
    c.in_ok-objects.objects.items c.address_of.result c.in_ok-instances.instances.items
    c.in_ok-wanted.ensures
    (c.in_ok-push_tables.ensures
    ∙ ap (λ (l : List (DownKey × DownValue)). l ++ flat_map (told_rows h) c.as_slice.result.now) c.in_ok-told.ensures
    ∙ ap (λ (l : List InstanceId). map told_object c.in_ok-objects.objects.items ++ flat_map (told_rows h) l) c.as_slice.ensures.value)
    c.in_ok-objects.ensures c.address_of.ensures c.in_ok-instances.ensures
