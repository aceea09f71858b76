use Rattle.std.proofs.Common.{IfOk, sym, subst}
use Rattle.node_core.specs.NodeModel.Step.{NodeKind, post}
use Rattle.node_core.specs.Whole.{session_of}
use Rattle.node_laws.specs.Stepped.{AreTold}
use Rattle.config_node.proofs.AtTheEnd.{all_told, never_closed_as_ended}
use Rattle.config_node.proofs.node.ConfigNode.step.Goals as goal

pub returns-clause-told : goal.returns-clause-told
returns-clause-told g c =
    let before = c.self.inside.node.ends in
    let session = session_of c.args.input in
    subst (λ (k : NodeKind). IfOk c.step.result (λ _. AreTold k c.step.new.self.ends.posts)) (sym c.step.ensures.kept)
    (all_told _ _ _ before.setup before.posts c.step.new.self.ends.posts session session (post before.posts session) _
    c.args.input c.args.links.now c.step.new.links _ c.step.result c.step.ensures.step)

pub returns-clause-never_ended : goal.returns-clause-never_ended
returns-clause-never_ended g c = λ closed.
    let before = c.self.inside.node.ends in
    let session = session_of c.args.input in
    never_closed_as_ended _ _ _ before.setup before.posts c.step.new.self.ends.posts session session (post before.posts session) _
    c.args.input c.args.links.now c.step.new.links _ c.step.result c.step.ensures.step closed
