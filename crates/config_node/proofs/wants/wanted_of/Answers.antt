use Rattle.std.proofs.Common.{sym, ◌∙◌}
use Rattle.ov_sync.proofs.Ascending.{get-map_of}
use Rattle.node_core.proofs.NodeModel.Directions.{low_total}
use Rattle.config_node.specs.Ends.{low_order}
use Rattle.config_node.proofs.wants.wanted_of.Goals as goal

pub returns : goal.returns
returns c =
    c.in_ok-value.ensures ∙ c.get.ensures.value
    ∙ sym (get-map_of low_order low_total c.args.wants.now.entries c.args.key.now)
