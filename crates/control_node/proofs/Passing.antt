-- The plans of a control node's ends are those of its kind.
use Rattle.std.specs.Prelude.{◌≡◌, ℕ, zero, suc, ◌+◌, ◌-◌, ◌<◌, ◌≤◌, ◌==◌, ◌&&◌, List, [], ◌∷◌, ◌++◌, map, length, get_or, nat_lt}
use Rattle.std.specs.Prelude.{nat_le, Bool, true, false, not, if◌then◌else◌, ◌⊎◌}
use Rattle.std.specs.FinMap.{empty}
use Rattle.std.specs.List.{slice_index_or}
use Rattle.std.proofs.Common.{refl, sym, ◌∙◌, ap, subst, arith, inl, inr}
use Rattle.std.proofs.lemmas.Bool.{cases_lt}
use Rattle.std.proofs.lemmas.Bool.Decides.{nat_tests}
use Rattle.std.proofs.lemmas.List.{get_or-append-add, get_or-map, get_or_append_left, length-map, length-append}
use Rattle.ov_sync.proofs.KeyedLaws.{difference-itself}
use Rattle.ov_types.specs.declared.rows.NodeId.{NodeId}
use Rattle.bgp_session.specs.Happenings as session
use Rattle.item_wire.specs.Happenings.{SessionFields}
use Rattle.item_wire.specs.declared.event.ItemState.{ItemState}
use Rattle.control_wants.specs.Held.{told_in}
use Rattle.node_core.specs.Plans.{ArePlans}
use Rattle.node_core.specs.declared.ends.Plan.{Plan}
use Rattle.node_core.specs.Beginning as item
use Rattle.node_core.specs.Told as items
use Rattle.node_core.specs.NodeModel.Maps.{Map, Change, difference}
use Rattle.node_core.specs.NodeModel.Paths.{Holdings, Told}
use Rattle.node_core.specs.NodeModel.Step.{NodeKind, Post, changes, post, told_all}
use Rattle.node_core.specs.NodeModel.Values.{same_value}
use Rattle.node_core.specs.NodeModel.Wants.{wanted_by_agent, wanted_by_peers}
use Rattle.node_core.proofs.NodeModel.Alike.{same_value_decides}
use Rattle.node_routes.specs.Beginning as route
use Rattle.node_routes.specs.Told as routes
use Rattle.vpn_tables.specs.Views.{peer_of}
use Rattle.control_node.specs.Core.{holdings, is_peer}
use Rattle.control_node.specs.Ends.{AreEnds, Ends, agent_post, peer_post, plan_of, posts_of}
use Rattle.control_node.specs.Planning.{AreAgentsTold, ArePeersTold, ArePlanned, IsAgentTold, IsPeerTold, agent_plan, agent_plans}
use Rattle.control_node.specs.Planning.{agent_sends, peer_plan, peer_sends, wanted_on}
use Rattle.control_node.specs.Wanting.{is_idle, is_up, kind, may_send, wanted}
use Rattle.control_node.specs.declared.ends.AgentEnd.{AgentEnd}
use Rattle.control_node.specs.declared.ends.PeerEnd.{PeerEnd}
use Rattle.control_node.specs.declared.plan.ControlPlan.{ControlPlan}
use Rattle.control_node.proofs.Holding.{holdings_are}
use Rattle.control_node.proofs.Tracking.{peers_told-long}
use Rattle.control_node.proofs.Posts.{post-agent, post-peer, posts-length, seated-length}

-- ---- the feed
none_differ : difference empty empty ≡ []
none_differ = difference-itself same_value same_value_decides empty

-- where nothing was sent and nothing is wanted, nothing is told
feed_changes : (b : Bool) (spelled : Change → List ℕ)
    → (if b then map spelled (difference empty empty) else []) ≡ []
feed_changes true spelled = ap (map spelled) none_differ
feed_changes false spelled = refl

feed_stays : (b : Bool) (p : Post) → p.sent ≡ empty → p ≡ (if b then record p { sent = empty } else p)
feed_stays true p e = λ i. record p { sent = e i }
feed_stays false p e = refl

-- ---- peers and agents, one of each
peer_tells : (h : Holdings) (e e' : PeerEnd) (m : Map) → IsPeerTold h e e'
    → peer_post e' m
    ≡ (if is_up (peer_post e m).phase then record (peer_post e m) { sent = wanted_by_peers h } else peer_post e m)
peer_tells h e e' m is =
    (λ i. record {
      phase = route.phase_of (is.session_stays i).state;
      sent = is.sent i;
      held = m;
      wide = (is.session_stays i).wide;
    })
    ∙ elim (peer_sends e) as (λ b.
    record (peer_post e m) { sent = if b then wanted_by_peers h else peer_of e.sent }
    ≡ (if b then record (peer_post e m) { sent = wanted_by_peers h } else peer_post e m)) [ true ↦ refl | false ↦ refl ]

peers_told-at : (h : Holdings) (es es' : List PeerEnd) (i : ℕ) (d : PeerEnd) → ArePeersTold h es es' → i < length es
    → IsPeerTold h (get_or es i d) (get_or es' i d)
peers_told-at h [] es' i d told lt = absurd (omega (arith, lt))
peers_told-at h (e ∷ es) [] i d told lt = absurd told
peers_told-at h (e ∷ es) (e' ∷ es') zero d told lt = told.0
peers_told-at h (e ∷ es) (e' ∷ es') (suc i) d told lt = peers_told-at h es es' i d told.1 (omega (arith, lt))

agent_tells : (h : Holdings) (session : ℕ) (e e' : AgentEnd) (m : Map) → IsAgentTold h session e e'
    → agent_post e' m
    ≡ (if not (is_idle (agent_post e m).phase) then record (agent_post e m) { sent = wanted_on h session } else agent_post e m)
agent_tells h session e e' m is =
    (λ i. record (agent_post e' m) { phase = item.phase_of (is.session_stays i).state; sent = is.sent i })
    ∙ elim (agent_sends e) as (λ b.
    record (agent_post e m) { sent = if b then wanted_on h session else items.down_of e.sent }
    ≡ (if b then record (agent_post e m) { sent = wanted_on h session } else agent_post e m)) [ true ↦ refl | false ↦ refl ]

agents_told-at : (h : Holdings) (n : ℕ) (es es' : List AgentEnd) (i : ℕ) (d : AgentEnd) → AreAgentsTold h n es es'
    → i < length es
    → IsAgentTold h (n + i) (get_or es i d) (get_or es' i d)
agents_told-at h n [] es' i d told lt = absurd (omega (arith, lt))
agents_told-at h n (e ∷ es) [] i d told lt = absurd told
agents_told-at h n (e ∷ es) (e' ∷ es') zero d told lt =
    subst (λ m. IsAgentTold h m e e') (let z : n ≡ n + 0 = omega arith in z) told.0
agents_told-at h n (e ∷ es) (e' ∷ es') (suc i) d told lt =
    subst (λ m. IsAgentTold h m (get_or es i d) (get_or es' i d)) (let z : suc n + i ≡ n + suc i = omega arith in z)
    (agents_told-at h (suc n) es es' i d told.1 (omega (arith, lt)))

pub agents_told-long : (h : Holdings) (n : ℕ) (es es' : List AgentEnd) → AreAgentsTold h n es es' → length es' ≡ length es
agents_told-long h n [] [] told = refl
agents_told-long h n [] (e' ∷ es') told = absurd told
agents_told-long h n (e ∷ es) [] told = absurd told
agents_told-long h n (e ∷ es) (e' ∷ es') told = (let r = agents_told-long h (suc n) es es' told.1 in omega (arith, r))

agent_plans-at : (h : Holdings) (n : ℕ) (es : List AgentEnd) (i : ℕ) (d : AgentEnd) (other : Plan) → i < length es
    → get_or (agent_plans h n es) i other ≡ agent_plan h (n + i) (get_or es i d)
agent_plans-at h n [] i d other lt = absurd (omega (arith, lt))
agent_plans-at h n (e ∷ es) zero d other lt = ap (λ m. agent_plan h m e) (let z : n ≡ n + 0 = omega arith in z)
agent_plans-at h n (e ∷ es) (suc i) d other lt =
    agent_plans-at h (suc n) es i d other (omega (arith, lt))
    ∙ ap (λ m. agent_plan h m (get_or es i d)) (let z : suc n + i ≡ n + suc i = omega arith in z)

agent_plans-long : (h : Holdings) (n : ℕ) (es : List AgentEnd) → length (agent_plans h n es) ≡ length es
agent_plans-long h n [] = refl
agent_plans-long h n (e ∷ es) = (let r = agent_plans-long h (suc n) es in omega (arith, r))

-- ---- whose session a number is
is_of_peer : (n peers : ℕ) → 0 < n → n ≤ peers → (nat_lt 0 n && nat_le n peers) ≡ true
is_of_peer n peers low high = grind (arith, nat_tests)

is_past_peers : (n peers : ℕ) → peers < n → (nat_lt 0 n && nat_le n peers) ≡ false
is_past_peers n peers high = grind (arith, nat_tests)

no_feed : (n : ℕ) → 0 < n → (n == 0) ≡ false
no_feed n low = grind (arith, nat_tests)

-- ---- one session, by the kind
module _ (plan : ControlPlan) (posts : List Post) (h : Holdings) (held : holdings plan posts ≡ h) (n : ℕ) (p : Post)
    (at : post posts n ≡ p) (low : 0 < n) where
  module _ (peer : is_peer plan n ≡ true) where
    wanted_of_peer : wanted plan posts n ≡ wanted_by_peers h
    wanted_of_peer = λ i.
        if no_feed n low i then empty else if peer i then wanted_by_peers (held i)
        else wanted_by_agent (held i) (told_in (held i).agents n)

    peer_changes : changes (kind plan) posts n
        ≡ (if is_up p.phase then map routes.spelled (difference p.sent (wanted_by_peers h)) else [])
    peer_changes = λ i.
        if (if peer i then is_up (at i).phase else not (is_idle (at i).phase))
        then map (λ c. if peer i then routes.spelled c else items.spelled c)
        (difference (at i).sent (wanted_of_peer i))
        else []

    peer_told_all : told_all (kind plan) posts n ≡ (if is_up p.phase then record p { sent = wanted_by_peers h } else p)
    peer_told_all = λ i.
        if (if peer i then is_up (at i).phase else not (is_idle (at i).phase))
        then record (at i) { sent = wanted_of_peer i } else at i

  module _ (agent : is_peer plan n ≡ false) where
    wanted_of_agent : wanted plan posts n ≡ wanted_on h n
    wanted_of_agent = λ i.
        if no_feed n low i then empty else if agent i then wanted_by_peers (held i)
        else wanted_by_agent (held i) (told_in (held i).agents n)

    agent_changes : changes (kind plan) posts n
        ≡ (if not (is_idle p.phase) then map items.spelled (difference p.sent (wanted_on h n)) else [])
    agent_changes = λ i.
        if (if agent i then is_up (at i).phase else not (is_idle (at i).phase))
        then map (λ c. if agent i then routes.spelled c else items.spelled c)
        (difference (at i).sent (wanted_of_agent i))
        else []

    agent_told_all : told_all (kind plan) posts n
        ≡ (if not (is_idle p.phase) then record p { sent = wanted_on h n } else p)
    agent_told_all = λ i.
        if (if agent i then is_up (at i).phase else not (is_idle (at i).phase))
        then record (at i) { sent = wanted_of_agent i } else at i

-- ---- all of them
module _ (me : NodeId) (asn : ℕ) (feed : SessionFields) (peers peers' : List PeerEnd) (agents agents' : List AgentEnd)
    (h : Holdings) (plans : List Plan) (are : AreEnds me asn feed peers agents h)
    (planned : ArePlanned h peers peers' agents agents' plans) where
  abbrev the_plan : ControlPlan
  the_plan = plan_of me asn peers agents

  abbrev posts : List Post
  posts = posts_of feed.state peers agents h

  abbrev posts' : List Post
  posts' = posts_of feed.state peers' agents' h

  abbrev k : NodeKind
  k = kind the_plan

  as_held : holdings the_plan posts ≡ h
  as_held = holdings_are me asn feed peers agents h are

  abbrev a_peer : PeerEnd
  a_peer = record { session = session.idle_session asn me; sent = [] }

  abbrev an_agent : AgentEnd
  an_agent = record { id = me; session = feed; sent = [] }

  abbrev told_nothing : Told
  told_nothing = record { session = 0; address = me.address; map = empty }

  peers_long : length the_plan.peers ≡ length peers
  peers_long = length-map peers (λ (e : PeerEnd). e.session.peer)

  peers'_long : length peers' ≡ length peers
  peers'_long = peers_told-long h peers peers' planned.peers_told

  agents'_long : length agents' ≡ length agents
  agents'_long = agents_told-long h (1 + length peers) agents agents' planned.agents_told

  held_long : length h.agents ≡ length agents
  held_long = seated-length h.agents agents (1 + length peers) are.agents_held

  -- ---- a peer
  module _ (i : ℕ) (lt : i < length peers) where
    abbrev e : PeerEnd
    e = get_or peers i a_peer

    abbrev m : Map
    m = get_or h.peers i empty

    at_peer : post posts (suc i) ≡ peer_post e m
    at_peer = post-peer feed.state peers agents h i a_peer lt

    of_peer : is_peer the_plan (suc i) ≡ true
    of_peer = is_of_peer (suc i) (length the_plan.peers) (omega arith) (omega (arith, peers_long))

    peer_says : (other : Plan) → (slice_index_or plans (suc i) other).messages ≡ changes k posts (suc i)
    peer_says other =
        ap (λ (l : List Plan). (slice_index_or l (suc i) other).messages) planned.plans_are
        ∙ ap (λ (q : Plan). q.messages)
        (get_or_append_left (map (peer_plan h) peers) (agent_plans h (1 + length peers) agents) other i
        (let l = length-map peers (peer_plan h) in omega (arith, l, lt))
        ∙ get_or-map (peer_plan h) peers i a_peer other lt)
        ∙ sym (peer_changes the_plan posts h as_held (suc i) (peer_post e m) at_peer (omega arith) of_peer)

    peer_ends : post posts' (suc i) ≡ told_all k posts (suc i)
    peer_ends =
        post-peer feed.state peers' agents' h i a_peer (omega (arith, peers'_long, lt))
        ∙ peer_tells h e (get_or peers' i a_peer) m (peers_told-at h peers peers' i a_peer planned.peers_told lt)
        ∙ sym (peer_told_all the_plan posts h as_held (suc i) (peer_post e m) at_peer (omega arith) of_peer)

  -- ---- an agent
  module _ (i : ℕ) (lt : i < length agents) where
    abbrev x : AgentEnd
    x = get_or agents i an_agent

    abbrev t : Map
    t = (get_or h.agents i told_nothing).map

    abbrev n : ℕ
    n = suc (length peers + i)

    number : 1 + length peers + i ≡ n
    number = omega arith

    at_agent : post posts n ≡ agent_post x t
    at_agent = post-agent feed.state peers agents h i an_agent told_nothing lt (omega (arith, held_long, lt))

    of_agent : is_peer the_plan n ≡ false
    of_agent = is_past_peers n (length the_plan.peers) (omega (arith, peers_long))

    agent_says : (other : Plan) → (slice_index_or plans n other).messages ≡ changes k posts n
    agent_says other =
        ap (λ (l : List Plan). (slice_index_or l n other).messages) planned.plans_are
        ∙ ap (λ (q : Plan). q.messages)
        (ap (λ j. slice_index_or (map (peer_plan h) peers ++ agent_plans h (1 + length peers) agents) (j + i) other)
        (sym (length-map peers (peer_plan h)))
        ∙ get_or-append-add (map (peer_plan h) peers) (agent_plans h (1 + length peers) agents) i other
        ∙ agent_plans-at h (1 + length peers) agents i an_agent other lt
        ∙ ap (λ j. agent_plan h j x) number)
        ∙ sym (agent_changes the_plan posts h as_held n (agent_post x t) at_agent (omega arith) of_agent)

    agent_ends : post posts' n ≡ told_all k posts n
    agent_ends =
        ap (λ j. post posts' (suc (j + i))) (sym peers'_long)
        ∙ post-agent feed.state peers' agents' h i an_agent told_nothing (omega (arith, agents'_long, lt))
        (omega (arith, held_long, lt))
        ∙ agent_tells h n x (get_or agents' i an_agent) t
        (subst (λ j. IsAgentTold h j x (get_or agents' i an_agent)) number
        (agents_told-at h (1 + length peers) agents agents' i an_agent planned.agents_told lt))
        ∙ sym (agent_told_all the_plan posts h as_held n (agent_post x t) at_agent (omega arith) of_agent)

  -- ---- the feed
  feed_says : (other : Plan) → (slice_index_or plans 0 other).messages ≡ changes k posts 0
  feed_says other =
      ap (λ (l : List Plan). (slice_index_or l 0 other).messages) planned.plans_are
      ∙ sym (feed_changes (may_send the_plan 0 (item.phase_of feed.state)) (k.spelled 0))

  feed_ends : post posts' 0 ≡ told_all k posts 0
  feed_ends = feed_stays (may_send the_plan 0 (item.phase_of feed.state)) (post posts 0) refl

  -- ---- any session
  Session : ℕ → Type 0
  Session i = (i ≡ 0) ⊎ (((j : ℕ) × (i ≡ suc j) × (j < length peers)) ⊎ ((j : ℕ) × (i ≡ suc (length peers + j)) × (j < length agents)))

  sorted : (i : ℕ) → i < length posts → Session i
  unfolding Session
  sorted zero lt = inl refl
  sorted (suc j) lt =
      elim (cases_lt j (length peers)) as (λ _. Session (suc j)) [
        | inl below ↦ inr (inl (j, refl, below))
        | inr past ↦
            let long = posts-length feed.state peers agents h in
            inr (inr (j - length peers, (let z : suc j ≡ suc (length peers + (j - length peers)) = omega (arith, past) in z), omega (arith, long, past, lt)))
      ]

  says : (i : ℕ) (other : Plan) → Session i → (slice_index_or plans i other).messages ≡ changes k posts i
  unfolding Session
  says i other (inl e) = subst (λ j. (slice_index_or plans j other).messages ≡ changes k posts j) (sym e) (feed_says other)
  says i other (inr (inl s)) =
      subst (λ j. (slice_index_or plans j other).messages ≡ changes k posts j) (sym s.1) (peer_says s.0 s.2 other)
  says i other (inr (inr s)) =
      subst (λ j. (slice_index_or plans j other).messages ≡ changes k posts j) (sym s.1) (agent_says s.0 s.2 other)

  ends : (i : ℕ) → Session i → post posts' i ≡ told_all k posts i
  unfolding Session
  ends i (inl e) = subst (λ j. post posts' j ≡ told_all k posts j) (sym e) feed_ends
  ends i (inr (inl s)) = subst (λ j. post posts' j ≡ told_all k posts j) (sym s.1) (peer_ends s.0 s.2)
  ends i (inr (inr s)) = subst (λ j. post posts' j ≡ told_all k posts j) (sym s.1) (agent_ends s.0 s.2)

  pub are_plans : ArePlans k posts posts' plans
  are_plans = record {
    many =
        let long = posts-length feed.state peers agents h in
        let these = length-map peers (peer_plan h) in
        let those = agent_plans-long h (1 + length peers) agents in
        let both = length-append (map (peer_plan h) peers) (agent_plans h (1 + length peers) agents) in
        let all : length plans ≡ suc (length (map (peer_plan h) peers ++ agent_plans h (1 + length peers) agents)) =
        ap length planned.plans_are in
        omega (arith, long, these, those, both, all);
    messages = λ i other lt. says i other (sorted i lt);
    ends = λ i lt. ends i (sorted i lt);
  }

-- as the ends are seen
pub plans_seen : (state : ItemState) (h : Holdings) (ps ps' : List PeerEnd) (qs qs' : List AgentEnd) (plans : List Plan)
    (seen e : Ends) → seen ≡ e → ps ≡ ps' → qs ≡ qs'
    → ArePlans (kind seen.plan) seen.posts (posts_of state ps' qs' h) plans
    → ArePlans (kind e.plan) e.posts (posts_of state ps qs h) plans
plans_seen state h ps ps' qs qs' plans seen e is p q these =
    subst (λ (e : Ends). ArePlans (kind e.plan) e.posts (posts_of state ps qs h) plans) is
    (subst (λ (l : List PeerEnd). ArePlans (kind seen.plan) seen.posts (posts_of state l qs h) plans) (sym p)
    (subst (λ (l : List AgentEnd). ArePlans (kind seen.plan) seen.posts (posts_of state ps' l h) plans) (sym q) these))
