use Rattle.ov_sync.proofs.Ascending.{map_of-insert}
use Rattle.node_core.proofs.NodeModel.Directions.{low_total}
use Rattle.config_node.specs.Ends.{low_order}
use Rattle.config_node.proofs.wants.put.Goals as goal

pub returns-clause-ok : goal.returns-clause-ok
returns-clause-ok c =
    let h = c.in_ok-insert.ensures in
    map_of-insert low_order low_total c.args.wants.now c.insert.new.self c.args.key c.args.value h.entries h.was_ordered
    h.ordered
