use Rattle.std.proofs.Common.{IfOk, ap, subst, sym}
use Rattle.node_laws.specs.Stepped.{AreTold}
use Rattle.node_core.specs.NodeModel.Step.{NodeKind}
use Rattle.control_node.specs.Wanting.{kind}
use Rattle.control_node.proofs.Removed.{passed_told}
use Rattle.control_node.proofs.node.ControlNode.tell.Goals as goal

pub returns-in-Ok-clause-told : goal.returns-in-Ok-clause-told
returns-in-Ok-clause-told g c =
    subst (λ (k : NodeKind). IfOk c.removal.result (λ _. AreTold k c.tell_each.new.self.posts)) (sym (ap kind c.tell_each.ensures.plan))
    (passed_told g.L.Link.accepted g.L.Link.breaks g.L.Link.faults c.args.self.now.plan c.args.self.now.posts c.tell_each.new.self.posts
    c.args.links.now c.tell_each.new.links c.removal.result c.in-Ok.lowest c.removal.ensures.lowest c.in-Ok.ensures.steps)
