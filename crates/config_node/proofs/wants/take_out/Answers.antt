use Rattle.ov_sync.proofs.Ascending.{map_of-remove}
use Rattle.node_core.proofs.NodeModel.Directions.{low_exact, low_total}
use Rattle.config_node.specs.Ends.{low_order}
use Rattle.config_node.proofs.wants.take_out.Goals as goal

pub returns : goal.returns
returns c =
    map_of-remove low_order low_total low_exact c.args.wants.now c.remove.new.self c.args.key c.remove.ensures.updates
