use Rattle.std.proofs.Common.{◌≢◌, ℕ, List, Err, IfOk, sym, subst, set}
use Rattle.ov_link.specs.declared.step.NodeFault.TheVariants.{NoMemory}
use Rattle.node_core.specs.NodeModel.Step.{NodeKind, post}
use Rattle.node_core.specs.Keeping.{AreSwept, kept_at}
use Rattle.node_core.specs.Whole.{IsWholeStep, session_of}
use Rattle.node_laws.specs.Stepped.{AreTold}
use Rattle.control_node.specs.Beginning.{BeginsKeeping}
use Rattle.control_node.specs.Core.{Core}
use Rattle.control_node.specs.Wanting.{kind}
use Rattle.node_core.proofs.Kept.{begins_also}
use Rattle.control_node.proofs.Removed.{begins_alike}
use Rattle.control_node.proofs.AtTheEnd.{all_told, never_closed_as_ended}
use Rattle.control_node.proofs.node.ControlNode.step.Goals as goal

pub returns-clause-told : goal.returns-clause-told
returns-clause-told g c =
    let before = c.self.inside.node.ends in
    let kept = c.self.inside.node.inboxes.items in
    let session = session_of c.args.input in
    subst (λ (k : NodeKind). IfOk c.step.result (λ _. AreTold k c.step.new.self.ends.posts)) (sym c.step.ensures.kept)
    (all_told _ _ _ before.plan before.posts c.step.new.self.ends.posts session session (post before.posts session)
    (kept_at kept session) c.args.input c.args.links.now c.step.new.links
    (λ left. AreSwept c.step.new.self.ends.posts (set kept session left) c.step.new.self.inboxes.items) c.step.result c.step.ensures.step)

pub returns-clause-never_ended : goal.returns-clause-never_ended
returns-clause-never_ended g c = λ closed.
    let before = c.self.inside.node.ends in
    let kept = c.self.inside.node.inboxes.items in
    let session = session_of c.args.input in
    never_closed_as_ended _ _ _ before.plan before.posts c.step.new.self.ends.posts session session (post before.posts session)
    (kept_at kept session) c.args.input c.args.links.now c.step.new.links
    (λ left. AreSwept c.step.new.self.ends.posts (set kept session left) c.step.new.self.inboxes.items) c.step.result c.step.ensures.step closed

pub returns-clause-step : goal.returns-clause-step
returns-clause-step g c =
    let session = session_of c.args.input in
    subst (λ (n : Core). c.step.result ≢ Err NoMemory → (left : List ℕ)
    × IsWholeStep g.L.Link.accepted g.L.Link.breaks g.L.Link.faults (kind n.plan)
    (λ given cause. BeginsKeeping n.plan session (post n.posts session) (kept_at n.kept session) c.args.input given cause left)
    n.posts c.step.new.self.ends.posts session c.args.links.now c.step.new.links c.step.result
    × AreSwept c.step.new.self.ends.posts (set n.kept session left) c.step.new.self.inboxes.items) c.self.view_is (λ fine.
    let w = c.step.ensures.step fine in
    let node = c.self.inside.node in (
      w.0,
      begins_also g.L.Link.accepted g.L.Link.breaks g.L.Link.faults _ _ _ _ _ _ _ _ _
          (λ given cause b. begins_alike node.ends.plan c.self.inside.retired.items session (post node.ends.posts session)
          (kept_at node.inboxes.items session) c.args.input given cause w.0 b) w.1,
      w.2,
    ))
