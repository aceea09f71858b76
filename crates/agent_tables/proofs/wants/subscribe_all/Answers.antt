use Rattle.std.proofs.Common.{ap, ◌+◌, ◌∷◌, [], drop, map, get_or}
use Rattle.node_core.specs.Told.{up_of}
use Rattle.agent_tables.specs.Kept.{added}
use Rattle.agent_tables.proofs.Added.{added_turn, added_end}
use Rattle.agent_tables.proofs.Lists.{turn_at, rest_none}
use Rattle.agent_tables.proofs.wants.subscribe_all.Goals as goal
use Rattle.agent_tables.proofs.Telling.{subscription}

pub loop-instance-preserved : goal.loop-instance-preserved
loop-instance-preserved c =
    let items = c.args.instances.now in
    let k = c.loop-instance.instance-index in
    let x = get_or items k (record { 0 = 0 }) in
    added_turn (up_of c.loop-instance.wanted.entries) (up_of c.add.new.wanted.entries) (added (up_of c.args.wanted.now.entries) (map subscription items)) (subscription x ∷ [])
    (map subscription (drop (k + 1) items)) (map subscription (drop k items)) c.in_ok-add.ensures (ap (map subscription) (turn_at items k (record { 0 = 0 }) c.loop-instance-test.true)) c.loop-instance.invariant

pub returns : goal.returns
returns c =
    let items = c.args.instances.now in
    let k = c.loop-instance.instance-index in
    added_end (up_of c.loop-instance.wanted.entries) (added (up_of c.args.wanted.now.entries) (map subscription items)) (map subscription (drop k items))
    (ap (map subscription) (rest_none items k c.loop-instance-test.false)) c.loop-instance.invariant
