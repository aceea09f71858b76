use Rattle.std.proofs.Common.{ap, sym, ◌∙◌, List}
use Rattle.ov_types.specs.Keys.{low_key_cmp}
use Rattle.ov_types.specs.declared.objects.LowKey.{LowKey}
use Rattle.ov_types.specs.declared.objects.LowValue.{LowValue}
use Rattle.agent_tables.specs.Slice.{pairs_of}
use Rattle.agent_tables.specs.declared.object.SliceObject.{SliceObject}
use Rattle.agent_tables.proofs.Lists.{rest_none}
use Rattle.agent_tables.proofs.Ordered.{all_with}
use Rattle.agent_tables.proofs.Slices.{lists_in, lists_in_order}
use Rattle.agent_tables.proofs.acls.acls_of.Goals as goal

abbrev lists_left : List (LowKey × LowValue) → List SliceObject → List (LowKey × LowValue)
lists_left lists slice = all_with low_key_cmp lists (lists_in (pairs_of slice))

pub returns : goal.returns
returns c =
    let items = c.args.slice.now in
    let k = c.loop-object.object-index in
    sym (ap (lists_left c.loop-object.acls) (rest_none items k c.loop-object-test.false)) ∙ c.loop-object.invariant ∙ lists_in_order (pairs_of items) c.requires
