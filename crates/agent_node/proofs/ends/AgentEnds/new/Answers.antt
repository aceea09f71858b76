use Rattle.std.proofs.Common.{◌≡◌, ◌≤◌, List, ℕ, length, map, take, ap, ◌∙◌}
use Rattle.std.proofs.lemmas.List.{take_all}
use Rattle.ov_types.specs.declared.rows.NodeId.{NodeId}
use Rattle.agent_tables.specs.declared.hearing.Hearing.{Hearing}
use Rattle.agent_node.specs.Ends.{AreEnds, Sent, posts_of}
use Rattle.agent_node.specs.declared.plan.AgentPlan.{AgentPlan}
use Rattle.agent_node.proofs.Posts.{fresh_ends, fresh_hearing, fresh_posts, fresh_sent}
use Rattle.agent_node.proofs.ends.AgentEnds.new.Goals as goal

taken : (ns here : List NodeId) (n : ℕ) → here ≡ ns → length here ≤ n → take n here ≡ ns
taken ns here n e le = take_all n here le ∙ e

made : (plan : AgentPlan) (hs : List Hearing) (ss : List Sent) (ns : List NodeId) → ns ≡ plan.controllers
    → length plan.controllers ≤ 2 → hs ≡ map fresh_hearing ns → ss ≡ map fresh_sent ns → AreEnds plan hs ss
made plan hs ss ns e few h s =
    rw (h ∙ ap (map fresh_hearing) e, s ∙ ap (map fresh_sent) e) (fresh_ends plan few)

pub invariant_of-result : goal.invariant_of-result
invariant_of-result c =
    let l = c.loop-controller in
    made c.args.plan l.hearings.items l.sents.items _ (taken c.args.plan.controllers _ l.controller-index
    c.as_slice-controller-items.ensures c.loop-controller-test.false) c.requires l.invariant.hearings l.invariant.sents

pub returns-clause-posts : goal.returns-clause-posts
returns-clause-posts c =
    let l = c.loop-controller in
    let all = taken c.args.plan.controllers c.as_slice-controller-items.result.now l.controller-index
    c.as_slice-controller-items.ensures c.loop-controller-test.false in
    (λ i. posts_of ((l.invariant.hearings ∙ ap (map fresh_hearing) all) i)
    ((l.invariant.sents ∙ ap (map fresh_sent) all) i))
    ∙ fresh_posts c.args.plan.controllers
