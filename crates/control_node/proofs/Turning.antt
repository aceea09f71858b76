-- What an input makes of one end, and of what is held of it.
use Rattle.std.specs.Prelude.{◌≡◌, ◌+◌, ◌-◌, ◌<◌, ◌==◌, ℕ, zero, suc, List, [], ◌∷◌, length, true, false, cond, nat_lt, nat_le, Option}
use Rattle.std.specs.FinMap.{empty}
use Rattle.std.specs.Option.{option_map}
use Rattle.std.proofs.Common.{refl, sym, ◌∙◌, ap, subst, arith, get_or, set}
use Rattle.std.proofs.lemmas.Bool.Decides.{nat_tests}
use Rattle.std.proofs.lemmas.List.{get_or-map, length-map}
use Rattle.bgp_session.specs.Happenings as peers
use Rattle.bgp_session.specs.declared.event.Cause.{Cause as PeerCause}
use Rattle.bgp_session.specs.declared.event.State.{State}
use Rattle.item_wire.specs.Happenings as items
use Rattle.item_wire.specs.declared.event.ItemCause.{ItemCause}
use Rattle.item_wire.specs.declared.event.ItemFrom.TheVariants as From
use Rattle.item_wire.specs.declared.event.ItemState.{ItemState}
use Rattle.ov_link.specs.declared.step.Input.{Input}
use Rattle.ov_types.specs.declared.keys.DownKey.{DownKey}
use Rattle.ov_types.specs.declared.keys.DownValue.{DownValue}
use Rattle.ov_types.specs.declared.rows.NodeId.{NodeId}
use Rattle.ov_types.specs.declared.vpn.VpnKey.{VpnKey}
use Rattle.ov_types.specs.declared.vpn.VpnRoute.{VpnRoute}
use Rattle.node_core.specs.Beginning as item
use Rattle.node_core.specs.NodeModel.Maps.{Map}
use Rattle.node_core.specs.NodeModel.Paths.{Holdings, Told}
use Rattle.node_core.specs.NodeModel.Step.{Beginning, Post, post}
use Rattle.node_routes.specs.Beginning as route
use Rattle.control_node.specs.Beginning.{BeginsKeeping, KeepsBy, agent_at, config, item_session, item_state, no_node, peer_session, peer_state}
use Rattle.control_node.specs.Core.{is_peer}
use Rattle.control_node.specs.Ends.{AreEnds, IsAgentEnd, agent_post, peer_post, plan_of, posts_of}
use Rattle.control_node.specs.Taking.{agent_by, at_place, peer_by}
use Rattle.control_node.specs.Wanting.{is_idle}
use Rattle.control_node.specs.declared.cause.NodeCause.{NodeCause}
use Rattle.control_node.specs.declared.cause.NodeCause.TheVariants as Cause
use Rattle.control_node.specs.declared.ends.AgentEnd.{AgentEnd}
use Rattle.control_node.specs.declared.ends.PeerEnd.{PeerEnd}
use Rattle.control_node.specs.declared.plan.ControlPlan.{ControlPlan}
use Rattle.control_node.proofs.Keeping.{all-at}
use Rattle.control_node.proofs.Posts.{at_session-there, post-agent, post-peer, posts-agent, posts-peer, seated-length}

-- ---- states and phases
peer_state-of : (s : State) → peer_state (route.phase_of s) ≡ s
peer_state-of State.Idle = refl
peer_state-of State.OpenSent = refl
peer_state-of State.OpenConfirm = refl
peer_state-of State.Established = refl

item_state-of : (s : ItemState) → item_state (item.phase_of s) ≡ s
item_state-of ItemState.Idle = refl
item_state-of ItemState.Opened = refl
item_state-of ItemState.Up = refl

pub peer-idle : (s : State) → is_idle (route.phase_of s) ≡ true → s ≡ State.Idle
peer-idle State.Idle h = refl
peer-idle State.OpenSent h = cc
peer-idle State.OpenConfirm h = cc
peer-idle State.Established h = cc

pub item-idle : (s : ItemState) → is_idle (item.phase_of s) ≡ true → s ≡ ItemState.Idle
item-idle ItemState.Idle h = refl
item-idle ItemState.Opened h = cc
item-idle ItemState.Up h = cc

-- ---- kinds of sessions
is_peer-yes : (plan : ControlPlan) (session i : ℕ) → session ≡ suc i → i < length plan.peers → is_peer plan session ≡ true
is_peer-yes plan session i at lt =
    let low : nat_lt 0 session ≡ true = grind (arith, nat_tests) in
    let high : nat_le session (length plan.peers) ≡ true = grind (arith, nat_tests) in
    rw (low, high) refl

is_peer-past : (plan : ControlPlan) (session i : ℕ) → session ≡ suc (length plan.peers + i) → is_peer plan session ≡ false
is_peer-past plan session i at =
    let low : nat_lt 0 session ≡ true = grind (arith, nat_tests) in
    let high : nat_le session (length plan.peers) ≡ false = grind (arith, nat_tests) in
    rw (low, high) refl

at_place-set : (f : Map → Map) (ms : List Map) (i : ℕ) → at_place f ms i ≡ set ms i (f (get_or ms i empty))
at_place-set f [] i = refl
at_place-set f (m ∷ ms) zero = refl
at_place-set f (m ∷ ms) (suc i) = ap (λ (l : List Map). m ∷ l) (at_place-set f ms i)

module _ (me : NodeId) (asn : ℕ) (feed : items.SessionFields) (es : List PeerEnd) (ts : List AgentEnd) (h : Holdings)
    (are : AreEnds me asn feed es ts h) where
  abbrev plan : ControlPlan
  plan = plan_of me asn es ts

  abbrev posts : List Post
  posts = posts_of feed.state es ts h

  -- ---- the ends
  pub peer-turned : (f : Map → Map) (session i : ℕ) (e d : PeerEnd) → session ≡ suc i → i < length es → e.sent ≡ (get_or es i d).sent
      → posts_of feed.state (set es i e) ts (peer_by f h session)
      ≡ set posts session (record (post posts session) { phase = route.phase_of e.session.state; held = f (post posts session).held; wide = e.session.wide })
  peer-turned f session i e d at lt sent =
      subst (λ s. posts_of feed.state (set es i e) ts (peer_by f h s)
      ≡ set posts s (record (post posts s) { phase = route.phase_of e.session.state; held = f (post posts s).held; wide = e.session.wide })) (sym at) there
    where
      there : posts_of feed.state (set es i e) ts (peer_by f h (suc i))
          ≡ set posts (suc i) (record (post posts (suc i)) { phase = route.phase_of e.session.state; held = f (post posts (suc i)).held; wide = e.session.wide })
      there =
          let m = get_or h.peers i empty in
          let is = post-peer feed.state es ts h i d lt in
          ap (λ (l : List Map). posts_of feed.state (set es i e) ts (record h { peers = l })) (at_place-set f h.peers i)
          ∙ posts-peer feed.state es ts h i e (f m) lt (let long = are.peers_held in omega (arith, lt, long))
          ∙ ap (λ (p : Post). set posts (suc i) p) (
          ap (λ (s : List (VpnKey × VpnRoute)). peer_post (record e { sent = s }) (f m)) sent
          ∙ ap (λ (p : Post). record p { phase = route.phase_of e.session.state; held = f p.held; wide = e.session.wide }) (sym is))

  pub agent-turned : (f : Map → Map) (session i : ℕ) (e d : AgentEnd) → session ≡ suc (length es + i) → i < length ts → e.sent ≡ (get_or ts i d).sent
      → posts_of feed.state es (set ts i e) (agent_by f h session)
      ≡ set posts session (record (post posts session) { phase = item.phase_of e.session.state; held = f (post posts session).held })
  agent-turned f session i e d at lt sent =
      subst (λ s. posts_of feed.state es (set ts i e) (agent_by f h s)
      ≡ set posts s (record (post posts s) { phase = item.phase_of e.session.state; held = f (post posts s).held })) (sym at) there
    where
      none : Told
      none = record { session = 0; address = me.address; map = empty }

      there : posts_of feed.state es (set ts i e) (agent_by f h (suc (length es + i)))
          ≡ set posts (suc (length es + i)) (record (post posts (suc (length es + i))) { phase = item.phase_of e.session.state; held = f (post posts (suc (length es + i))).held })
      there =
          let a = get_or h.agents i none in
          let long = seated-length h.agents ts (1 + length es) are.agents_held in
          let held : i < length h.agents = omega (arith, lt, long) in
          let is = post-agent feed.state es ts h i d none lt held in
          ap (λ (l : List Told). posts_of feed.state es (set ts i e) (record h { agents = l }))
          (at_session-there f h.agents ts (1 + length es) (suc (length es + i)) i none are.agents_held (omega arith) lt)
          ∙ posts-agent feed.state es ts h i e (record a { map = f a.map }) lt held
          ∙ ap (λ (p : Post). set posts (suc (length es + i)) p) (
          ap (λ (s : List (DownKey × DownValue)). agent_post (record e { sent = s }) (f a.map)) sent
          ∙ ap (λ (p : Post). record p { phase = item.phase_of e.session.state; held = f p.held }) (sym is))

  -- ---- what begins
  peer-session : (session i : ℕ) (d : PeerEnd) → session ≡ suc i → i < length es
      → peer_session plan session (post posts session) ≡ (get_or es i d).session
  peer-session session i d at lt =
      subst (λ s. peer_session plan s (post posts s) ≡ (get_or es i d).session) (sym at) (
      let e = get_or es i d in
      let back : suc i - 1 ≡ i = omega arith in
      let peer = ap (λ n. get_or plan.peers n no_node) back ∙ get_or-map (λ (e : PeerEnd). e.session.peer) es i d no_node lt in
      let number = all-at (λ (e : PeerEnd). e.session.asn ≡ asn) es i d are.peer_ends lt in
      let is = post-peer feed.state es ts h i d lt in
      let state = ap (λ (p : Post). peer_state p.phase) is ∙ peer_state-of e.session.state in
      (λ k. record { asn = sym number k; peer = peer k; state = state k; wide = (is k).wide }))

  -- how the session of an end reads
  pub peer-wide : (session i : ℕ) (d : PeerEnd) → session ≡ suc i → i < length es → (get_or es i d).session.wide ≡ (post posts session).wide
  peer-wide session i d at lt =
      ap (λ (p : Post). p.wide) (sym (post-peer feed.state es ts h i d lt)) ∙ ap (λ n. (post posts n).wide) (sym at)

  pub peer-begins : (session i : ℕ) (d : PeerEnd) (input : Input) (given : Beginning) (c : Option PeerCause) (cause : Option NodeCause) (left : List ℕ)
      → session ≡ suc i → i < length es → cause ≡ option_map Cause.Peer c
      → route.BeginsKeeping me.address (get_or es i d).session (post posts session) [] input given c left
      → BeginsKeeping plan session (post posts session) [] input given cause left
  peer-begins session i d input given c cause left at lt is begins =
      let many = length-map es (λ (e : PeerEnd). e.session.peer) in
      subst (λ b. KeepsBy b plan session (post posts session) [] input given cause left) (sym (is_peer-yes plan session i at (omega (arith, lt, many))))
      (c, is, subst (λ (s : peers.SessionFields). route.BeginsKeeping me.address s (post posts session) [] input given c left) (sym (peer-session session i d at lt)) begins)

  agent-session : (session i : ℕ) (d : AgentEnd) → session ≡ suc (length es + i) → i < length ts
      → item_session plan session (post posts session).phase ≡ (get_or ts i d).session
  agent-session session i d at lt =
      subst (λ s. item_session plan s (post posts s).phase ≡ (get_or ts i d).session) (sym at) (
      let e = get_or ts i d in
      let none : Told = record { session = 0; address = me.address; map = empty } in
      let long = seated-length h.agents ts (1 + length es) are.agents_held in
      let many = length-map es (λ (e : PeerEnd). e.session.peer) in
      let back : suc (length es + i) - (1 + length plan.peers) ≡ i = omega (arith, many) in
      let id = ap (λ n. get_or plan.agents n no_node) back ∙ get_or-map (λ (e : AgentEnd). e.id) ts i d no_node lt in
      let is = all-at IsAgentEnd ts i d are.agent_ends lt in
      let state = ap (λ (p : Post). item_state p.phase) (post-agent feed.state es ts h i d none lt (omega (arith, lt, long))) ∙ item_state-of e.session.state in
      let unlike : (suc (length es + i) == 0) ≡ false = grind (arith, nat_tests) in
      let phase = (post posts (suc (length es + i))).phase in
      let other : items.SessionFields = record { peer = config; from = From.Feed; state = item_state phase } in
      let agent : items.SessionFields = record { peer = (agent_at plan (suc (length es + i))).name; from = From.Agent; state = item_state phase } in
      ap (λ b. cond b other agent) unlike
      ∙ (λ k. record { peer = (ap (λ (n : NodeId). n.name) id ∙ sym is.peer) k; from = sym is.from k; state = state k }))

  pub agent-begins : (session i : ℕ) (d : AgentEnd) (input : Input) (given : Beginning) (c : Option ItemCause) (cause : Option NodeCause) (left : List ℕ)
      → session ≡ suc (length es + i) → i < length ts → cause ≡ option_map Cause.Item c
      → item.BeginsKeeping me.name (get_or ts i d).session (post posts session) [] input given c left
      → BeginsKeeping plan session (post posts session) [] input given cause left
  agent-begins session i d input given c cause left at lt is begins =
      let many = length-map es (λ (e : PeerEnd). e.session.peer) in
      subst (λ b. KeepsBy b plan session (post posts session) [] input given cause left) (sym (is_peer-past plan session i (at ∙ ap (λ n. suc (n + i)) (sym many))))
      (c, is, subst (λ (s : items.SessionFields). item.BeginsKeeping me.name s (post posts session) [] input given c left) (sym (agent-session session i d at lt)) begins)

  pub feed-begins : (input : Input) (given : Beginning) (c : Option ItemCause) (cause : Option NodeCause) (left : List ℕ) → cause ≡ option_map Cause.Item c
      → item.BeginsKeeping me.name feed (post posts 0) [] input given c left → BeginsKeeping plan 0 (post posts 0) [] input given cause left
  feed-begins input given c cause left is begins =
      let session : item_session plan 0 (post posts 0).phase ≡ feed = (λ k. record { peer = sym are.feed_peer k; from = sym are.feed_from k; state = item_state-of feed.state k }) in
      (c, is, subst (λ (s : items.SessionFields). item.BeginsKeeping me.name s (post posts 0) [] input given c left) (sym session) begins)

  -- ---- ends that are idle
  pub feed_is_idle : (session : ℕ) → session ≡ 0 → is_idle (post posts session).phase ≡ true → feed.state ≡ ItemState.Idle
  feed_is_idle session at idle = item-idle feed.state (subst (λ n. is_idle (post posts n).phase ≡ true) at idle)

  pub peer_is_idle : (session i : ℕ) (d : PeerEnd) → session ≡ suc i → i < length es → is_idle (post posts session).phase ≡ true
      → (get_or es i d).session.state ≡ State.Idle
  peer_is_idle session i d at lt idle =
      peer-idle (get_or es i d).session.state (
      ap (λ (p : Post). is_idle p.phase) (sym (post-peer feed.state es ts h i d lt)) ∙ ap (λ n. is_idle (post posts n).phase) (sym at) ∙ idle)

  pub agent_is_idle : (session i : ℕ) (d : AgentEnd) → session ≡ suc (length es + i) → i < length ts → is_idle (post posts session).phase ≡ true
      → (get_or ts i d).session.state ≡ ItemState.Idle
  agent_is_idle session i d at lt idle =
      let none : Told = record { session = 0; address = me.address; map = empty } in
      let long = seated-length h.agents ts (1 + length es) are.agents_held in
      item-idle (get_or ts i d).session.state (
      ap (λ (p : Post). is_idle p.phase) (sym (post-agent feed.state es ts h i d none lt (omega (arith, lt, long))))
      ∙ ap (λ n. is_idle (post posts n).phase) (sym at) ∙ idle)
