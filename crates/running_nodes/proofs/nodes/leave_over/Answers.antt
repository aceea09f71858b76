use Rattle.std.proofs.Common.{ap, length, arith, ◌≡◌}
use Rattle.running_nodes.specs.Changes.{vacated_inner}
use Rattle.running_nodes.specs.Halves.{Outer, inner}
use Rattle.running_nodes.proofs.Moved.{left_halves, left_whole}
use Rattle.running_nodes.proofs.Seating.{now_there, one_set, within_alone}
use Rattle.running_nodes.proofs.nodes.leave_over.Goals as goal

pub leave-requires-clause-long : goal.leave-requires-clause-long
leave-requires-clause-long c = c.requires.halves.posts

pub empty-requires : goal.empty-requires
empty-requires c = within_alone c.args.name.now c.args.place.session (inner c.args.cores.now c.args.place.node) c.args.edge.now c.requires.halves c.requires.alone

pub set_other-requires : goal.set_other-requires
set_other-requires c =
    let lt = within_alone c.args.name.now c.args.place.session (inner c.args.cores.now c.args.place.node) c.args.edge.now c.requires.halves c.requires.alone in
    let long : length c.empty.new.self.others ≡ length c.args.edge.now.others = ap (λ (o : Outer). length o.others) c.empty.ensures in
    omega (arith, lt, long)

pub returns-clause-one : goal.returns-clause-one
returns-clause-one c =
    one_set c.args.cores.now c.leave.new.self c.args.place.node
    (vacated_inner c.args.name.now c.args.place.session (inner c.args.cores.now c.args.place.node)) c.in_ok-leave.ensures.left c.requires.node

pub returns-clause-halves : goal.returns-clause-halves
returns-clause-halves c =
    left_halves c.args.name.now c.args.place.session (inner c.args.cores.now c.args.place.node) (inner c.leave.new.self c.args.place.node)
    c.args.edge.now c.empty.new.self c.set_other.new.self c.requires.alone
    (now_there c.args.cores.now c.leave.new.self c.args.place.node
    (vacated_inner c.args.name.now c.args.place.session (inner c.args.cores.now c.args.place.node)) c.in_ok-leave.ensures.left c.requires.node)
    c.empty.ensures c.set_other.ensures c.requires.halves

pub returns-clause-left : goal.returns-clause-left
returns-clause-left c =
    left_whole c.args.name.now c.args.place.session (inner c.args.cores.now c.args.place.node) (inner c.leave.new.self c.args.place.node)
    c.args.edge.now c.empty.new.self c.set_other.new.self c.requires.alone
    (now_there c.args.cores.now c.leave.new.self c.args.place.node
    (vacated_inner c.args.name.now c.args.place.session (inner c.args.cores.now c.args.place.node)) c.in_ok-leave.ensures.left c.requires.node)
    c.empty.ensures c.set_other.ensures
