use Rattle.std.proofs.lemmas.Result.{IfOk-weaker}
use Rattle.net_machine.proofs.Coming.{control_left, goes_from, resettled_both, room_left}
use Rattle.net_machine.proofs.moving.resettle_at.Goals as goal

pub leave-requires : goal.leave-requires
leave-requires c = record {
  agent = goes_from c.args.nodes.now.seats c.args.index c.args.name.now c.args.controller.now.name c.requires.control
      c.requires.found c.requires.leaves;
}

pub come_now-requires-clause-control : goal.come_now-requires-clause-control
come_now-requires-clause-control c =
    control_left c.args.nodes.now.seats c.args.index c.args.name.now c.args.controller.now.name c.requires.control
    c.requires.found _ c.in_ok-leave.ensures.left

pub come_now-requires-clause-room : goal.come_now-requires-clause-room
come_now-requires-clause-room c =
    room_left c.args.nodes.now.seats c.args.index c.args.name.now c.args.controller.now.name c.requires.control
    c.requires.found _ c.in_ok-leave.ensures.left c.requires.room

pub returns-clause-resettled : goal.returns-clause-resettled
returns-clause-resettled c =
    IfOk-weaker c.come_now.result _ _
    (λ _ is. resettled_both c.args.nodes.now.seats c.args.index c.args.name.now c.args.controller.now.name c.requires.control
    c.requires.found _ c.in_ok-leave.ensures.left _ _ is)
    c.come_now.ensures.comes
