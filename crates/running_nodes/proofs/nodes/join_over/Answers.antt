use Rattle.std.proofs.Common.{ap, arith, length, ◌≡◌, ◌<◌}
use Rattle.std.proofs.lemmas.Result.{on_ok_weaker}
use Rattle.running_nodes.specs.Changes.{joined_inner}
use Rattle.running_nodes.specs.Halves.{inner}
use Rattle.running_nodes.specs.Seats.{others_of}
use Rattle.running_nodes.proofs.Moved.{joined_halves, joined_whole}
use Rattle.running_nodes.proofs.Seating.{now_there, number_near, one_set}
use Rattle.running_nodes.proofs.nodes.join_over.Goals as goal

pub join-requires-clause-long : goal.join-requires-clause-long
join-requires-clause-long c = c.requires.halves.posts

pub join-requires-clause-kept : goal.join-requires-clause-kept
join-requires-clause-kept c = c.requires.halves.kept

pub join-requires-clause-room : goal.join-requires-clause-room
join-requires-clause-room c = omega (arith, c.requires.room, c.requires.halves.posts)

pub join-requires-2-clause-next : goal.join-requires-2-clause-next
join-requires-2-clause-next c =
    number_near (inner c.args.cores.now c.args.node) c.args.edge.now c.requires.control.0 c.in_ok-number.number c.requires.halves c.requires.control.1 (c.in_ok-number.ensures.number c.requires.control.0 c.requires.control.1)

pub join-requires-2-clause-few : goal.join-requires-2-clause-few
join-requires-2-clause-few c =
    let near = number_near (inner c.args.cores.now c.args.node) c.args.edge.now c.requires.control.0 c.in_ok-number.number c.requires.halves c.requires.control.1 (c.in_ok-number.ensures.number c.requires.control.0 c.requires.control.1) in
    let long : length c.args.edge.now.others ≡ length (others_of (inner c.args.cores.now c.args.node).who) = ap length c.requires.halves.others in
    omega (arith, near, long, c.requires.room, c.requires.halves.posts)

pub returns-clause-one : goal.returns-clause-one
returns-clause-one c =
    one_set c.args.cores.now c.join.new.self c.args.node (joined_inner c.args.agent (inner c.args.cores.now c.args.node)) c.in_ok-number.ensures.joined c.requires.node

pub returns-clause-halves : goal.returns-clause-halves
returns-clause-halves c =
    let near : length c.args.edge.now.others < 65535 =
    (let long : length c.args.edge.now.others ≡ length (others_of (inner c.args.cores.now c.args.node).who) = ap length c.requires.halves.others in
    omega (arith, long, c.requires.room, c.requires.halves.posts)) in
    on_ok_weaker c.join-2.result
    (λ outside. joined_halves c.args.agent c.requires.control.0 c.in_ok-number.number (inner c.args.cores.now c.args.node) (inner c.join.new.self c.args.node)
    c.args.edge.now c.join-2.new.self c.requires.control.1 (c.in_ok-number.ensures.number c.requires.control.0 c.requires.control.1)
    (now_there c.args.cores.now c.join.new.self c.args.node (joined_inner c.args.agent (inner c.args.cores.now c.args.node)) c.in_ok-number.ensures.joined c.requires.node)
    outside c.requires.halves near)
    c.join-2.ensures.ok

pub returns-clause-joined : goal.returns-clause-joined
returns-clause-joined c =
    on_ok_weaker c.join-2.result
    (λ outside. joined_whole c.args.agent c.requires.control.0 c.in_ok-number.number (inner c.args.cores.now c.args.node) (inner c.join.new.self c.args.node)
    c.args.edge.now c.join-2.new.self c.requires.control.1 (c.in_ok-number.ensures.number c.requires.control.0 c.requires.control.1)
    (now_there c.args.cores.now c.join.new.self c.args.node (joined_inner c.args.agent (inner c.args.cores.now c.args.node)) c.in_ok-number.ensures.joined c.requires.node)
    outside)
    c.join-2.ensures.ok
