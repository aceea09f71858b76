-- How a step of an agent begins.
use Rattle.std.specs.Prelude.{◌≡◌, ◌<◌, ℕ, List, length, false}
use Rattle.std.specs.List.{filter_map, slice_index_or, slice_set}
use Rattle.std.specs.declared.option.Option.TheVariants.{Some, None}
use Rattle.std.proofs.Common.{refl, sym, ◌∙◌, ap, subst, set, arith}
use Rattle.std.proofs.lemmas.List.{get_or-map, set-set}
use Rattle.ov_sync.specs.Keyed.{after}
use Rattle.item_wire.specs.Happenings.{SessionFields}
use Rattle.item_wire.specs.declared.event.ItemCause.{ItemCause}
use Rattle.item_wire.specs.declared.event.ItemFrom.{ItemFrom}
use Rattle.item_wire.specs.declared.event.ItemState.TheVariants as State
use Rattle.node_core.specs.Beginning.{phase_of}
use Rattle.node_core.specs.Hearing.{heard}
use Rattle.node_core.specs.Left.{Leaves}
use Rattle.node_core.specs.Told.{change_of, up_of}
use Rattle.node_core.proofs.States.{state_again}
use Rattle.node_core.specs.NodeModel.Step.{Opened, Post, nothing, post}
use Rattle.agent_tables.specs.declared.hearing.Hearing.{Hearing}
use Rattle.agent_node.specs.Applying.{HasHeard, HasTaken}
use Rattle.agent_node.specs.Beginning.{controller_at, no_node, session_at, state_at}
use Rattle.agent_node.specs.Ends.{AreEnds, Sent, controller, end_at, posts_of, whom}
use Rattle.agent_node.specs.Planning.{sent_at}
use Rattle.agent_node.specs.declared.plan.AgentPlan.{AgentPlan}
use Rattle.agent_node.proofs.Posts.{ends_long, post_at, posts_hear}

module _ (plan : AgentPlan) (hs : List Hearing) (ss : List Sent) (ends : AreEnds plan hs ss) (i : ℕ) (h : Hearing)
    (lt : i < length hs) (is : h ≡ slice_index_or hs i h) where
  -- whom the session of an end is with
  pub whom_at : whom h ≡ controller (controller_at plan i)
  whom_at =
      let in_plan : i < length plan.controllers = omega (arith, lt, ends_long plan hs ss ends) in
      ap whom is ∙ sym (get_or-map whom hs i h (whom h) lt)
      ∙ ap (λ (ws : List (List ℕ × ItemFrom)). slice_index_or ws i (whom h)) ends.whose
      ∙ get_or-map controller plan.controllers i no_node (whom h) in_plan

  pub session_is : h.session ≡ session_at plan i (post (posts_of hs ss) i).phase
  session_is =
      let phase : phase_of h.session.state ≡ (post (posts_of hs ss) i).phase =
      ap (λ (g : Hearing). phase_of g.session.state) is ∙ sym (ap (λ (p : Post). p.phase) (post_at hs ss i h lt)) in
      let state : h.session.state ≡ state_at (post (posts_of hs ss) i).phase =
      sym (state_again h.session.state) ∙ ap state_at phase in
      λ j. record { peer = (whom_at j).0; from = (whom_at j).1; state = state j }

  pub here : end_at h (sent_at ss i) ≡ post (posts_of hs ss) i
  here = ap (λ (g : Hearing). end_at g (sent_at ss i)) is ∙ sym (post_at hs ss i h lt)

  pub greeted : (s : SessionFields) → s ≡ record h.session { state = State.Opened }
      → posts_of (set hs i (record { session = s; held = h.held })) ss
      ≡ slice_set (posts_of hs ss) i (record (post (posts_of hs ss) i) { phase = Opened })
  greeted s e =
      posts_hear hs ss i (record { session = s; held = h.held })
      ∙ (λ j. set (posts_of hs ss) i
      (record { phase = phase_of (e j).state; sent = (here j).sent; held = (here j).held; wide = (here j).wide }))

  module _ (octets left : List ℕ) (h' : Hearing) where
    pub taken_on : HasHeard h octets left h' None
        → HasTaken plan i octets left (posts_of hs ss) (posts_of (set hs i h') ss) None
    taken_on t =
        let s = session_at plan i (post (posts_of hs ss) i).phase in
        record {
          inputs = t.inputs;
          leaves = subst (λ (s : SessionFields). Leaves s octets t.inputs left) session_is t.leaves;
          why = t.why ∙ ap (λ (s : SessionFields). (heard s t.inputs).cause) session_is;
          applied = posts_hear hs ss i h'
              ∙ (λ j. set (posts_of hs ss) i (record {
                phase = phase_of (t.state j);
                sent = up_of (sent_at ss i);
                held = t.held refl j;
                wide = false;
              }))
              ∙ (λ j. set (posts_of hs ss) i (record {
                phase = phase_of (heard (session_is j) t.inputs).state;
                sent = (here j).sent;
                held = after (here j).held (filter_map change_of (heard (session_is j) t.inputs).records);
                wide = (here j).wide;
              }));
        }

    pub taken_down : (cause : ItemCause) (posts' : List Post) → HasHeard h octets left h' (Some cause)
        → posts' ≡ slice_set (posts_of (set hs i h') ss) i nothing
        → HasTaken plan i octets left (posts_of hs ss) posts' (Some cause)
    taken_down cause posts' t e =
        record {
          inputs = t.inputs;
          leaves = subst (λ (s : SessionFields). Leaves s octets t.inputs left) session_is t.leaves;
          why = t.why ∙ ap (λ (s : SessionFields). (heard s t.inputs).cause) session_is;
          applied = e ∙ ap (λ (ps : List Post). slice_set ps i nothing) (posts_hear hs ss i h')
              ∙ set-set (posts_of hs ss) i (end_at h' (sent_at ss i)) nothing;
        }
