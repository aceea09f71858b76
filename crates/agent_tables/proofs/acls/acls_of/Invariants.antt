use Rattle.std.proofs.Common.{◌≡◌, [], drop}
use Rattle.std.specs.List.{filter_map}
use Rattle.ov_types.specs.Keys.{low_key_cmp}
use Rattle.node_core.specs.NodeModel.Agent.{acl_entry}
use Rattle.agent_tables.specs.Slice.{pairs_of}
use Rattle.agent_tables.proofs.Ordered.{all_with}
use Rattle.agent_tables.proofs.acls.acls_of.Given as goal

abbrev pub invariant-loop-object : goal.invariant-loop-object
invariant-loop-object l =
    all_with low_key_cmp l.acls (filter_map (λ e. acl_entry e.0 e.1) (pairs_of (drop l.object-index l.slice)))
    ≡ all_with low_key_cmp [] (filter_map (λ e. acl_entry e.0 e.1) (pairs_of l.slice))
