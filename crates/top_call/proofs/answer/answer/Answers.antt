use Rattle.std.proofs.Common.{sym, subst}
use Rattle.top_call.specs.ConstraintNetworks.{IsLeftSettled}
use Rattle.top_call.specs.Networks.{LeavesOn}
use Rattle.top_call.proofs.Left.{left_on}
use Rattle.top_call.proofs.answer.answer.Goals as goal

pub returns-in-Constrain-clause-network : goal.returns-in-Constrain-clause-network
returns-in-Constrain-clause-network g c =
    subst (λ command. LeavesOn command c.args.octets.now c.answer_constrain.result c.answer_constrain.new.net) (sym c.in-Constrain.is)
    (left_on (IsLeftSettled c.args.octets.now) c.answer_constrain.result c.args.net.now c.answer_constrain.new.net c.requires.none c.answer_constrain.ensures.network c.answer_constrain.ensures.no_network)
