use Rattle.std.proofs.Common.{refl, subst}
use Rattle.node_core.specs.NodeModel.Step.{NodeKind, Steps}
use Rattle.control_node.specs.Agents.{closing}
use Rattle.control_node.proofs.going.tell_closed.Goals as goal

pub returns-clause-steps : goal.returns-clause-steps
returns-clause-steps g c =
    let before = c.args.ends.now in
    subst (λ (k : NodeKind). Steps k g.L.Link.accepted g.L.Link.breaks g.L.Link.faults before.posts c.tell.new.ends.posts
    c.args.session closing c.args.links.now c.tell.new.links c.in_ok-lowest.lowest) c.close.ensures.kept
    (c.in_ok-lowest.ensures.steps before.posts closing (record { replied = refl; applied = c.close.ensures.closed }))
