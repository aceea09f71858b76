use Rattle.std.proofs.Common.{◌≡◌, ◌<◌, ◌+◌, ◌∙◌, ℕ, List, [], ap, arith, false, true, length, length-set, nat_lt, set, subst, sym}
use Rattle.std.proofs.lemmas.Bool.{and_parts, ltb-true}
use Rattle.node_core.specs.Keeping.{AreFew, AreOfLive}
use Rattle.node_core.specs.NodeModel.Step.{Post, nothing}
use Rattle.node_core.proofs.Kept.{set_few}
use Rattle.control_node.specs.Agents.{AreRetired, departed, inserted, is_agent, is_retired, with_retired}
use Rattle.control_node.specs.Core.{Core, sessions}
use Rattle.control_node.specs.declared.plan.ControlPlan.{ControlPlan}
use Rattle.control_node.proofs.Placed.{live_set}
use Rattle.control_node.proofs.Retired.{inserted_ascends}
use Rattle.control_node.proofs.node.ControlNode.retire_agent.Goals as goal

pub forget-requires-clause-known : goal.forget-requires-clause-known
forget-requires-clause-known c =
    let inside = c.self.inside in
    let plan = inside.node.ends.plan in
    let agent = subst (λ (n : Core). is_agent n.plan c.args.session ≡ true) (sym c.self.view_is) c.requires.agent in
    let high : c.args.session < sessions plan =
    ltb-true c.args.session (sessions plan) (and_parts (nat_lt (length plan.peers) c.args.session) (nat_lt c.args.session (sessions plan)) agent).1 in
    omega (arith, high, c.sessions-sessions.ensures.posts, c.sessions-sessions.ensures.plan)

pub forget-requires-clause-many : goal.forget-requires-clause-many
forget-requires-clause-many c = c.self.invariant.0

pub invariant_of-self : goal.invariant_of-self
invariant_of-self c =
    let inside = c.self.inside in
    let plan = inside.node.ends.plan in
    let posts = inside.node.ends.posts in
    let kept = inside.node.inboxes.items in
    let session = c.args.session in
    let agent = subst (λ (n : Core). is_agent n.plan session ≡ true) (sym c.self.view_is) c.requires.agent in
    let parts = and_parts (nat_lt (length plan.peers) session) (nat_lt session (sessions plan)) agent in
    let low : length plan.peers < session = ltb-true (length plan.peers) session parts.0 in
    let high : session < sessions plan = ltb-true session (sessions plan) parts.1 in
    let absent = subst (λ (n : Core). is_retired n.plan session ≡ false) (sym c.self.view_is) c.requires.kept in
    let now = c.in_ok-retired.ensures ∙ ap (λ (ns : List ℕ). inserted ns session) c.deref.ensures.value in (
      ap length c.forget.ensures.kept ∙ length-set kept session [] ∙ c.self.invariant.0
          ∙ sym (ap length c.forget.ensures.closed ∙ length-set posts session nothing),
      subst AreFew (sym c.forget.ensures.kept) (set_few kept session [] c.self.invariant.1 (omega arith)),
      subst (λ (ps : List Post). AreOfLive ps c.forget.new.node.inboxes.items) (sym c.forget.ensures.closed)
          (subst (AreOfLive (set posts session nothing)) (sym c.forget.ensures.kept) (live_set posts kept session c.self.invariant.2)),
      subst (λ (p : ControlPlan). AreRetired (with_retired p c.in_ok-retired.retired.items)) (sym c.forget.ensures.plan)
          (subst (λ (ns : List ℕ). AreRetired (with_retired plan ns)) (sym now)
          (inserted_ascends session (1 + length plan.peers) (sessions plan) inside.retired.items c.self.invariant.3 (omega (arith, low)) high absent)),
    )

pub returns-clause-departed : goal.returns-clause-departed
returns-clause-departed c =
    let now = c.in_ok-retired.ensures ∙ ap (λ (ns : List ℕ). inserted ns c.args.session) c.deref.ensures.value in
    (λ i. record {
      plan = with_retired (c.forget.ensures.plan i) (now i);
      posts = c.forget.ensures.closed i;
      kept = c.forget.ensures.kept i;
      failed = c.forget.ensures.failed i;
    })
    ∙ ap (λ (n : Core). departed n c.args.session) c.self.view_is
