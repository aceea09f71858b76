use Rattle.std.proofs.Common.{ap, ◌+◌, List, drop}
use Rattle.std.specs.List.{flat_map}
use Rattle.node_core.specs.Told.{up_of}
use Rattle.node_core.specs.NodeModel.Agent.{publication}
use Rattle.node_core.specs.NodeModel.Keys.{Key}
use Rattle.node_core.specs.NodeModel.Values.{Value}
use Rattle.agent_tables.specs.Kept.{added}
use Rattle.agent_tables.specs.Slice.{pairs_of}
use Rattle.agent_tables.specs.declared.object.SliceObject.{SliceObject}
use Rattle.agent_tables.proofs.Added.{added_turn, added_end}
use Rattle.agent_tables.proofs.Lists.{rest_none}
use Rattle.agent_tables.proofs.wants.publish_all.Goals as goal
use Rattle.ov_types.proofs.FirstLemmas.{next_is}

abbrev published : List SliceObject → List (Key × Value)
published slice = flat_map (λ e. publication e.0 e.1) (pairs_of slice)

pub loop-object-preserved : goal.loop-object-preserved
loop-object-preserved c =
    let items = c.args.slice.now in
    let k = c.loop-object.object-index in
    let x = c.object-item.result in
    added_turn (up_of c.loop-object.wanted.entries) (up_of c.publish.new.wanted.entries) (added (up_of c.args.wanted.now.entries) (published items)) (publication x.key x.value.now)
    (published (drop (k + 1) items)) (published (drop k items)) c.in_ok-publish.ensures (ap published (next_is items k x c.loop-object-test.true c.object-item.is)) c.loop-object.invariant

pub returns : goal.returns
returns c =
    let items = c.args.slice.now in
    let k = c.loop-object.object-index in
    added_end (up_of c.loop-object.wanted.entries) (added (up_of c.args.wanted.now.entries) (published items)) (published (drop k items))
    (ap published (rest_none items k c.loop-object-test.false)) c.loop-object.invariant
