use Rattle.std.proofs.Common.{take, false}
use Rattle.ov_link.specs.Delivery.{Took}
use Rattle.ov_link.proofs.link.send_all.Given as goal

abbrev pub invariant-loop-message : goal.invariant-loop-message
invariant-loop-message g l = Took g.L.Link.accepted g.L.Link.breaks g.L.Link.faults (take l.message-index l.messages) false l.fn.link l.link
