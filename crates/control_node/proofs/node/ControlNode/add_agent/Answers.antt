use Rattle.std.proofs.Common.{◌≡◌, ◌+◌, ◌≤◌, ◌<◌, ◌∙◌, ℕ, List, [], ap, arith, length, subst, sym}
use Rattle.node_core.specs.Keeping.{AreFew, AreOfLive}
use Rattle.node_core.specs.NodeModel.Step.{Post, nothing}
use Rattle.control_node.specs.Agents.{AreRetired, number_for, put_at, with_retired}
use Rattle.control_node.specs.Core.{Core, sessions}
use Rattle.control_node.specs.Ends.{Ends}
use Rattle.control_node.specs.Seating.{seated}
use Rattle.control_node.proofs.Placed.{few_put, live_put, number_range, put_alike, retired_still}
use Rattle.control_node.proofs.Retired.{first_gone, has}
use Rattle.control_node.proofs.node.ControlNode.add_agent.Goals as goal

pub seat-requires-clause-many : goal.seat-requires-clause-many
seat-requires-clause-many c =
    c.self.invariant.0 ∙ sym c.sessions-sessions.ensures.posts ∙ c.sessions-sessions.ensures.plan

pub seat-requires-clause-few : goal.seat-requires-clause-few
seat-requires-clause-few c =
    let inside = c.self.inside in
    let at = c.number-number.ensures ∙ sym (ap (λ (n : Core). number_for n.plan) c.self.view_is) in
    let few : sessions inside.node.ends.plan ≤ 65535 = omega arith in
    let room = subst (λ (n : Core). n.plan.retired ≡ [] → sessions n.plan < 65535) (sym c.self.view_is) c.requires.room in
    (number_range inside.node.ends.plan inside.node.ends.posts inside.node.inboxes.items inside.retired.items c.number-number.result c.args.agent
    c.self.invariant.3 at few room).1.0

pub invariant_of-self-2 : goal.invariant_of-self-2
invariant_of-self-2 c =
    let inside = c.self.inside in
    let ends = inside.node.ends in
    let kept = inside.node.inboxes.items in
    let number = c.number-number.result in
    let posts = ap (λ (e : Ends). e.posts) c.in_ok-seat.ensures.ends in (
      ap length c.in_ok-seat.ensures.kept ∙ put_alike kept ends.posts number [] nothing c.self.invariant.0 ∙ sym (ap length posts),
      subst AreFew (sym c.in_ok-seat.ensures.kept) (few_put kept number c.self.invariant.1),
      subst (λ (ps : List Post). AreOfLive ps c.seat.new.node.inboxes.items) (sym posts)
          (subst (AreOfLive (put_at ends.posts number nothing)) (sym c.in_ok-seat.ensures.kept)
          (live_put ends.posts kept number c.self.invariant.0 c.self.invariant.2)),
      subst (λ (e : Ends). AreRetired (with_retired e.plan c.drop_first.new.numbers.items)) (sym c.in_ok-seat.ensures.ends)
          (subst (λ (ns : List ℕ). AreRetired (with_retired (seated ends number c.args.agent).plan ns)) (sym c.drop_first.ensures)
          (retired_still ends.plan ends.posts kept inside.retired.items number c.args.agent c.self.invariant.3)),
    )

pub returns-clause-taken : goal.returns-clause-taken
returns-clause-taken c =
    let inside = c.self.inside in
    let plan = inside.node.ends.plan in
    let at = c.number-number.ensures ∙ sym (ap (λ (n : Core). number_for n.plan) c.self.view_is) in
    (λ i. has (at i) (c.drop_first.ensures i))
    ∙ first_gone inside.retired.items (1 + length plan.peers) (sessions plan) (sessions plan) c.self.invariant.3
