use Rattle.std.proofs.Common.{List, subst, sym}
use Rattle.std.specs.Result.{IfOk}
use Rattle.node_core.specs.NodeModel.Step.{Post}
use Rattle.node_laws.specs.Stepped.{AreTold}
use Rattle.agent_node.specs.Core.{kind}
use Rattle.node_core.specs.NodeModel.Step.{post}
use Rattle.node_core.specs.Whole.{session_of}
use Rattle.agent_node.proofs.AtTheEnd.{all_told, never_closed_as_ended}
use Rattle.agent_node.proofs.node.AgentNode.step.Goals as goal

pub returns-in-Ok-clause-told : goal.returns-in-Ok-clause-told
returns-in-Ok-clause-told g c =
    let before = c.self.inside.node.ends in
    let session = session_of c.args.input in
    subst (λ (ps : List Post). IfOk c.step-stepped.result (λ _. AreTold kind ps)) (sym c.renew.ensures.posts)
    (all_told _ _ _ before.plan before.posts c.step-stepped.new.self.ends.posts session session (post before.posts session) _
    c.args.input c.args.links.now c.step-stepped.new.links _ c.step-stepped.result c.step-stepped.ensures.step)

pub returns-in-Ok-clause-never_ended : goal.returns-in-Ok-clause-never_ended
returns-in-Ok-clause-never_ended g c = λ closed.
    let before = c.self.inside.node.ends in
    let session = session_of c.args.input in
    never_closed_as_ended _ _ _ before.plan before.posts c.step-stepped.new.self.ends.posts session session (post before.posts session) _
    c.args.input c.args.links.now c.step-stepped.new.links _ c.step-stepped.result c.step-stepped.ensures.step closed
