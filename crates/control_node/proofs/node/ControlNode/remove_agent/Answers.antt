use Rattle.std.proofs.Common.{IfOk, ap, subst, sym}
use Rattle.node_laws.specs.Stepped.{AreTold}
use Rattle.node_core.specs.NodeModel.Step.{NodeKind}
use Rattle.control_node.specs.Wanting.{kind}
use Rattle.control_node.proofs.Removed.{removed_told}
use Rattle.control_node.proofs.node.ControlNode.remove_agent.Goals as goal

pub returns-in-Ok-clause-told : goal.returns-in-Ok-clause-told
returns-in-Ok-clause-told g c =
    subst (λ (k : NodeKind). IfOk c.removal.result (λ _. AreTold k c.retire.new.self.posts)) (sym (ap kind c.in-Ok.ensures.plan))
    (removed_told g.L.Link.accepted g.L.Link.breaks g.L.Link.faults c.args.self.now.plan c.args.self.now.posts c.retire.new.self.posts
    c.args.session c.args.links.now c.retire.new.links c.removal.result c.in-Ok.lowest c.removal.ensures.lowest c.in-Ok.ensures.steps)
