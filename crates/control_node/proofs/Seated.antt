-- The ends of sessions with agents, as an agent comes.
use Rattle.std.specs.Prelude.{◌≡◌, ℕ, zero, suc, ◌+◌, ◌-◌, ◌<◌, ◌==◌, List, [], ◌∷◌, ◌++◌, map, length, true, false, nat_lt, cond}
use Rattle.std.specs.FinMap.{empty}
use Rattle.std.specs.List.{AllByRecursion}
use Rattle.std.proofs.Common.{refl, sym, ◌∙◌, ap, subst, arith, get_or, set, set-set, length-set, length-append}
use Rattle.std.proofs.lemmas.Bool.Decides.{nat_tests}
use Rattle.std.proofs.lemmas.List.{append_assoc, map-append, map-set}
use Rattle.ov_types.specs.declared.prefix.Addr.{Addr}
use Rattle.ov_types.specs.declared.rows.NodeId.{NodeId}
use Rattle.item_wire.specs.Happenings.{SessionFields}
use Rattle.control_wants.specs.Held.{HoldingsFit}
use Rattle.node_core.proofs.Lists.{all-set}
use Rattle.node_core.specs.Told.{AllFit}
use Rattle.node_core.proofs.Maps.{nothing_fits}
use Rattle.node_core.specs.NodeModel.Maps.{Map}
use Rattle.node_core.specs.NodeModel.Paths.{Holdings, Told}
use Rattle.node_core.specs.NodeModel.Step.{Post, nothing}
use Rattle.vpn_tables.specs.Changes.{named, with_agent, with_nothing, without}
use Rattle.control_node.specs.Agents.{agents_with, put_at}
use Rattle.control_node.specs.Seating.{seated}
use Rattle.control_node.proofs.Placed.{put_behind, put_there}
use Rattle.control_node.specs.Ends.{AreEnds, Ends, IsAgentEnd, agent_post, agent_posts, feed_post, peer_posts, plan_of, posts_of, seat, seats}
use Rattle.control_node.specs.Made.{new_agent}
use Rattle.control_node.specs.declared.ends.AgentEnd.{AgentEnd}
use Rattle.control_node.specs.declared.ends.PeerEnd.{PeerEnd}
use Rattle.control_node.proofs.Closed.{down-empty, emptied-past}
use Rattle.control_node.proofs.Keeping.{stays-without}
use Rattle.control_node.proofs.Posts.{at_session-there, posts-agent, seated-length}

pub new_is : (agent : NodeId) → IsAgentEnd (new_agent agent)
new_is agent = record { peer = refl; from = refl; sent = subst AllFit (sym down-empty) nothing_fits }

-- ---- what is held, as a session gets another agent
first_seat : (a : Told) (ts : List Told) (e : AgentEnd) (es : List AgentEnd) (first : ℕ)
    → map seat (a ∷ ts) ≡ seats first (e ∷ es) → seat a ≡ (first, e.id.address)
first_seat a ts e es first h = ap (λ (l : List (ℕ × Addr)). get_or l 0 (seat a)) h

pub named-there : (ts : List Told) (es : List AgentEnd) (first session i : ℕ) (d : Told) (to : Addr)
    → map seat ts ≡ seats first es → session ≡ first + i → i < length es
    → named ts session to ≡ set ts i (record (get_or ts i d) { address = to })
named-there ts [] first session i d to h at lt = absurd (omega (arith, lt))
named-there [] (e ∷ es) first session i d to h at lt = cc
named-there (a ∷ ts) (e ∷ es) first session zero d to h at lt =
    let is : a.session ≡ first = ap (λ (s : ℕ × Addr). s.0) (first_seat a ts e es first h) in
    let low : nat_lt a.session session ≡ false = grind (arith, nat_tests) in
    let same : (a.session == session) ≡ true = grind (arith, nat_tests) in
    rw (low, same) refl
named-there (a ∷ ts) (e ∷ es) first session (suc i) d to h at lt =
    let is : a.session ≡ first = ap (λ (s : ℕ × Addr). s.0) (first_seat a ts e es first h) in
    let low : nat_lt a.session session ≡ true = grind (arith, nat_tests) in
    let rest : map seat ts ≡ seats (suc first) es = cc in
    rw low (ap (λ (l : List Told). a ∷ l)
    (named-there ts es (suc first) session i d to rest (omega (arith, at)) (omega (arith, lt))))

pub named-seats : (ts : List Told) (es : List AgentEnd) (first session i : ℕ) (e : AgentEnd) → map seat ts ≡ seats first es
    → session ≡ first + i → i < length es → map seat (named ts session e.id.address) ≡ seats first (set es i e)
named-seats ts [] first session i e h at lt = absurd (omega (arith, lt))
named-seats [] (x ∷ es) first session i e h at lt = cc
named-seats (a ∷ ts) (x ∷ es) first session zero e h at lt =
    let is : a.session ≡ first = ap (λ (s : ℕ × Addr). s.0) (first_seat a ts x es first h) in
    let low : nat_lt a.session session ≡ false = grind (arith, nat_tests) in
    let same : (a.session == session) ≡ true = grind (arith, nat_tests) in
    let rest : map seat ts ≡ seats (suc first) es = cc in
    rw (low, same) (λ k. (is k, e.id.address) ∷ rest k)
named-seats (a ∷ ts) (x ∷ es) first session (suc i) e h at lt =
    let head = first_seat a ts x es first h in
    let is : a.session ≡ first = ap (λ (s : ℕ × Addr). s.0) head in
    let low : nat_lt a.session session ≡ true = grind (arith, nat_tests) in
    let rest : map seat ts ≡ seats (suc first) es = cc in
    let more = named-seats ts es (suc first) session i e rest (omega (arith, at)) (omega (arith, lt)) in
    rw low (λ k. head k ∷ more k)

-- ---- and as a session comes behind all others
behind-seats : (ts : List Told) (es : List AgentEnd) (first session : ℕ) (e : AgentEnd) → map seat ts ≡ seats first es
    → session ≡ first + length es → map seat (named ts session e.id.address) ≡ seats first (es ++ e ∷ [])
behind-seats [] [] first session e h at = ap (λ n. (n, e.id.address) ∷ []) (let z : session ≡ first = omega (arith, at) in z)
behind-seats (a ∷ ts) [] first session e h at = cc
behind-seats [] (x ∷ es) first session e h at = cc
behind-seats (a ∷ ts) (x ∷ es) first session e h at =
    let head = first_seat a ts x es first h in
    let is : a.session ≡ first = ap (λ (s : ℕ × Addr). s.0) head in
    let low : nat_lt a.session session ≡ true = grind (arith, nat_tests) in
    let rest : map seat ts ≡ seats (suc first) es = cc in
    let more = behind-seats ts es (suc first) session e rest (omega (arith, at)) in
    rw low (λ k. head k ∷ more k)

behind-posts : (ts : List Told) (es : List AgentEnd) (first session : ℕ) (e : AgentEnd) (to : Addr)
    → map seat ts ≡ seats first es → session ≡ first + length es
    → agent_posts (es ++ e ∷ []) (named ts session to) ≡ agent_posts es ts ++ agent_post e empty ∷ []
behind-posts [] [] first session e to h at = refl
behind-posts (a ∷ ts) [] first session e to h at = cc
behind-posts [] (x ∷ es) first session e to h at = cc
behind-posts (a ∷ ts) (x ∷ es) first session e to h at =
    let is : a.session ≡ first = ap (λ (s : ℕ × Addr). s.0) (first_seat a ts x es first h) in
    let low : nat_lt a.session session ≡ true = grind (arith, nat_tests) in
    let rest : map seat ts ≡ seats (suc first) es = cc in
    rw low (ap (λ (l : List Post). agent_post x a.map ∷ l)
    (behind-posts ts es (suc first) session e to rest (omega (arith, at))))

-- ---- what is held still fits
named_fit : (ts : List Told) (session : ℕ) (to : Addr) → AllByRecursion (λ (a : Told). AllFit a.map) ts
    → AllByRecursion (λ (a : Told). AllFit a.map) (named ts session to)
named_fit [] session to all = (nothing_fits, tt)
named_fit (a ∷ ts) session to all =
    let Fit : List Told → Type 0 = AllByRecursion (λ (a : Told). AllFit a.map) in
    elim (nat_lt a.session session) as (λ b. Fit (cond b (a ∷ named ts session to) (cond (a.session == session) (record a { address = to } ∷ ts) (with_nothing session to ∷ a ∷ ts)))) [
      | true ↦ (all.0, named_fit ts session to all.1)
      | false ↦ elim (a.session == session) as (λ b. Fit (cond b (record a { address = to } ∷ ts) (with_nothing session to ∷ a ∷ ts))) [
        | true ↦ (all.0, all.1)
        | false ↦ (nothing_fits, (all.0, all.1))
      ]
    ]

seated_fit : (h : Holdings) (session : ℕ) (to : Addr) → HoldingsFit h → HoldingsFit (with_agent h session to)
seated_fit h session to fit = record { feed = fit.feed; peers = fit.peers; agents = named_fit h.agents session to fit.agents }

-- ---- the ends, as an agent gets the session of another
abbrev pub seen_again : ℕ → ℕ → NodeId → Ends → Ends
seen_again session i agent v =
    record { plan = record v.plan { agents = set v.plan.agents i agent }; posts = set v.posts session nothing }

abbrev pub seen_behind : NodeId → Ends → Ends
seen_behind agent v =
    record { plan = record v.plan { agents = v.plan.agents ++ agent ∷ [] }; posts = v.posts ++ nothing ∷ [] }

all-append : {X : Type 0} (P : X → Type 0) (xs : List X) (x : X) → AllByRecursion P xs → P x → AllByRecursion P (xs ++ x ∷ [])
all-append P [] x all one = (one, tt)
all-append P (y ∷ ys) x all one = (all.0, all-append P ys x all.1 one)

module _ (me : NodeId) (asn : ℕ) (feed : SessionFields) (peers : List PeerEnd) (agents : List AgentEnd) (h : Holdings)
    (are : AreEnds me asn feed peers agents h) (agent : NodeId) where
  pub ends_again : (session i : ℕ) → session ≡ suc (length peers + i) → i < length agents
      → AreEnds me asn feed peers (set agents i (new_agent agent)) (without (with_agent h session agent.address) session)
  ends_again session i at lt =
      let now = with_agent h session agent.address in
      let stays = stays-without now session in
      let long = length-set agents i (new_agent agent) in record {
        address = are.address;
        asn_fits = are.asn_fits;
        few = (let few = are.few in omega (arith, long, few));
        feed_peer = are.feed_peer;
        feed_from = are.feed_from;
        peer_ends = are.peer_ends;
        agent_ends = all-set IsAgentEnd agents i (new_agent agent) are.agent_ends (new_is agent);
        asn_held = stays.asn ∙ are.asn_held;
        peers_held = stays.peers ∙ are.peers_held;
        agents_held = stays.agents
            ∙ named-seats h.agents agents (1 + length peers) session i (new_agent agent) are.agents_held (omega (arith, at)) lt;
        fit = stays.fit (seated_fit h session agent.address are.fit);
      }

  pub posts_again : (session i : ℕ) (d : Told) → session ≡ suc (length peers + i) → i < length agents
      → posts_of feed.state peers (set agents i (new_agent agent)) (without (with_agent h session agent.address) session)
      ≡ set (posts_of feed.state peers agents h) session nothing
  posts_again session i d at lt =
      subst (λ s. posts_of feed.state peers (set agents i (new_agent agent)) (without (with_agent h s agent.address) s)
      ≡ set (posts_of feed.state peers agents h) s nothing) (sym at) (
      let here = suc (length peers + i) in
      let e = new_agent agent in
      let x : Told = record (get_or h.agents i d) { address = agent.address } in
      let long = seated-length h.agents agents (1 + length peers) are.agents_held in
      let now_named = named-there h.agents agents (1 + length peers) here i d agent.address are.agents_held (omega arith) lt in
      let seats_now = named-seats h.agents agents (1 + length peers) here i e are.agents_held (omega arith) lt in
      let wide = length-set agents i e in
      let emptied = at_session-there (λ m. empty) (named h.agents here agent.address) (set agents i e) (1 + length peers) here i x
      seats_now (omega arith) (omega (arith, wide, lt)) in
      let past = emptied-past h.peers (length peers + i) (let same = are.peers_held in omega (arith, same)) in
      (λ k. posts_of feed.state peers (set agents i e) (record h { peers = past k; agents = emptied k }))
      ∙ ap (λ (ts : List Told). posts_of feed.state peers (set agents i e)
      (record h { agents = set ts i (record (get_or ts i x) { map = empty }) })) now_named
      ∙ ap (λ (ts : List Told). posts_of feed.state peers (set agents i e) (record h { agents = ts }))
      (set-set h.agents i x (record (get_or (set h.agents i x) i x) { map = empty }))
      ∙ posts-agent feed.state peers agents h i e (record (get_or (set h.agents i x) i x) { map = empty }) lt
      (omega (arith, lt, long))
      ∙ ap (λ (m : Map). set (posts_of feed.state peers agents h) here (record nothing { sent = m })) down-empty)

  -- ---- and as one comes behind all others
  pub ends_behind : (session : ℕ) → session ≡ suc (length peers + length agents) → session < 65535
      → AreEnds me asn feed peers (agents ++ new_agent agent ∷ []) (with_agent h session agent.address)
  ends_behind session at few =
      let long = length-append agents (new_agent agent ∷ []) in record {
        address = are.address;
        asn_fits = are.asn_fits;
        few = omega (arith, long, at, few);
        feed_peer = are.feed_peer;
        feed_from = are.feed_from;
        peer_ends = are.peer_ends;
        agent_ends = all-append IsAgentEnd agents (new_agent agent) are.agent_ends (new_is agent);
        asn_held = are.asn_held;
        peers_held = are.peers_held;
        agents_held = behind-seats h.agents agents (1 + length peers) session (new_agent agent) are.agents_held (omega (arith, at));
        fit = seated_fit h session agent.address are.fit;
      }

  pub posts_behind : (session : ℕ) → session ≡ suc (length peers + length agents)
      → posts_of feed.state peers (agents ++ new_agent agent ∷ []) (with_agent h session agent.address)
      ≡ posts_of feed.state peers agents h ++ nothing ∷ []
  posts_behind session at =
      let ps = peer_posts peers h.peers in
      ap (λ (l : List Post). feed_post feed.state h.feed ∷ (ps ++ l))
      (behind-posts h.agents agents (1 + length peers) session (new_agent agent) agent.address are.agents_held (omega (arith, at)))
      ∙ (λ k. feed_post feed.state h.feed ∷ (ps ++ (agent_posts agents h.agents ++ record nothing { sent = down-empty k } ∷ [])))
      ∙ ap (λ (l : List Post). feed_post feed.state h.feed ∷ l) (sym (append_assoc ps (agent_posts agents h.agents) (nothing ∷ [])))

  -- ---- as they are seen
  abbrev before : Ends
  before = record { plan = plan_of me asn peers agents; posts = posts_of feed.state peers agents h }

  pub again_are : (session i : ℕ) (e : AgentEnd) (h' : Holdings) → e ≡ new_agent agent
      → h' ≡ without (with_agent h session agent.address) session → session ≡ suc (length peers + i) → i < length agents
      → AreEnds me asn feed peers (set agents i e) h'
  again_are session i e h' is by at lt =
      subst (λ (e : AgentEnd). AreEnds me asn feed peers (set agents i e) h') (sym is)
      (subst (AreEnds me asn feed peers (set agents i (new_agent agent))) (sym by) (ends_again session i at lt))

  pub again_seen : (session i : ℕ) (e : AgentEnd) (h' : Holdings) → e ≡ new_agent agent
      → h' ≡ without (with_agent h session agent.address) session → session ≡ suc (length peers + i) → i < length agents
      → record { plan = plan_of me asn peers (set agents i e); posts = posts_of feed.state peers (set agents i e) h' }
      ≡ seen_again session i agent before
  again_seen session i e h' is by at lt =
      let d : Told = record { session = 0; address = agent.address; map = empty } in
      let ids : map (λ (e : AgentEnd). e.id) (set agents i e) ≡ set (map (λ (e : AgentEnd). e.id) agents) i agent =
      map-set (λ (e : AgentEnd). e.id) agents i e ∙ ap (λ (e : AgentEnd). set (map (λ (e : AgentEnd). e.id) agents) i e.id) is in
      let posts : posts_of feed.state peers (set agents i e) h' ≡ set before.posts session nothing =
      (λ k. posts_of feed.state peers (set agents i (is k)) (by k)) ∙ posts_again session i d at lt in
      λ k. record { plan = record before.plan { agents = ids k }; posts = posts k }

  pub behind_are : (session : ℕ) (es : List AgentEnd) (h' : Holdings) → es ≡ agents ++ new_agent agent ∷ []
      → h' ≡ with_agent h session agent.address → session ≡ suc (length peers + length agents) → session < 65535
      → AreEnds me asn feed peers es h'
  behind_are session es h' is by at few =
      subst (λ (es : List AgentEnd). AreEnds me asn feed peers es h') (sym is)
      (subst (AreEnds me asn feed peers (agents ++ new_agent agent ∷ [])) (sym by) (ends_behind session at few))

  pub behind_seen : (session : ℕ) (es : List AgentEnd) (h' : Holdings) → es ≡ agents ++ new_agent agent ∷ []
      → h' ≡ with_agent h session agent.address → session ≡ suc (length peers + length agents)
      → record { plan = plan_of me asn peers es; posts = posts_of feed.state peers es h' }
      ≡ seen_behind agent before
  behind_seen session es h' is by at =
      let ids : map (λ (e : AgentEnd). e.id) es ≡ map (λ (e : AgentEnd). e.id) agents ++ agent ∷ [] =
      ap (map (λ (e : AgentEnd). e.id)) is ∙ map-append (λ (e : AgentEnd). e.id) agents (new_agent agent ∷ []) in
      let posts : posts_of feed.state peers es h' ≡ before.posts ++ nothing ∷ [] =
      (λ k. posts_of feed.state peers (is k) (by k)) ∙ posts_behind session at in
      λ k. record { plan = record before.plan { agents = ids k }; posts = posts k }

-- ---- either way
module _ (v : Ends) (session : ℕ) (agent : NodeId) where
  pub seated_again : (place : ℕ) → session ≡ suc (length v.plan.peers + place) → place < length v.plan.agents
      → session < length v.posts → seen_again session place agent v ≡ seated v session agent
  seated_again place at lt known =
      let here : place ≡ session - (1 + length v.plan.peers) = omega (arith, at) in
      let agents : set v.plan.agents place agent ≡ agents_with v.plan session agent =
      sym (put_there v.plan.agents place agent lt) ∙ ap (λ i. put_at v.plan.agents i agent) here in
      λ k. record { plan = record v.plan { agents = agents k }; posts = sym (put_there v.posts session nothing known) k }

  pub seated_behind : session ≡ suc (length v.plan.peers + length v.plan.agents) → session ≡ length v.posts
      → seen_behind agent v ≡ seated v session agent
  seated_behind at last =
      let here : length v.plan.agents ≡ session - (1 + length v.plan.peers) = omega (arith, at) in
      let agents : v.plan.agents ++ agent ∷ [] ≡ agents_with v.plan session agent =
      sym (put_behind v.plan.agents (length v.plan.agents) agent refl) ∙ ap (λ i. put_at v.plan.agents i agent) here in
      λ k. record { plan = record v.plan { agents = agents k }; posts = sym (put_behind v.posts session nothing last) k }
