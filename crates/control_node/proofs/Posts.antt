-- The ends of sessions as one of them changes, with what is held of it.
use Rattle.std.specs.Prelude.{◌≡◌, ◌+◌, ◌-◌, ◌<◌, ◌≤◌, ◌==◌, ℕ, zero, suc, List, [], ◌∷◌, ◌++◌, length, map, true, false, nat_lt}
use Rattle.std.specs.FinMap.{empty}
use Rattle.std.proofs.Common.{refl, sym, ◌∙◌, ap, arith, get_or, set, length-append}
use Rattle.std.proofs.lemmas.Bool.Decides.{nat_tests}
use Rattle.std.proofs.lemmas.List.{set-append_left, set-append_right, get_or_append_left, get_or-append-add}
use Rattle.ov_types.specs.declared.prefix.Addr.{Addr}
use Rattle.item_wire.specs.declared.event.ItemState.{ItemState}
use Rattle.node_core.specs.NodeModel.Maps.{Map}
use Rattle.node_core.specs.NodeModel.Paths.{Holdings, Told}
use Rattle.node_core.specs.NodeModel.Step.{Post, nothing, post}
use Rattle.vpn_tables.specs.Changes.{at_session}
use Rattle.control_node.specs.declared.ends.AgentEnd.{AgentEnd}
use Rattle.control_node.specs.declared.ends.PeerEnd.{PeerEnd}
use Rattle.control_node.specs.Ends.{agent_post, agent_posts, feed_post, peer_post, peer_posts, posts_of, seat, seats}

-- ---- the peers'
pub peer_posts-length : (es : List PeerEnd) (ms : List Map) → length (peer_posts es ms) ≡ length es
peer_posts-length [] ms = refl
peer_posts-length (e ∷ es) [] = (let h = peer_posts-length es [] in omega (arith, h))
peer_posts-length (e ∷ es) (m ∷ ms) = (let h = peer_posts-length es ms in omega (arith, h))

pub peer_posts-at : (es : List PeerEnd) (ms : List Map) (i : ℕ) (d : PeerEnd) → i < length es → get_or (peer_posts es ms) i nothing ≡ peer_post (get_or es i d) (get_or ms i empty)
peer_posts-at [] ms i d h = absurd (omega (arith, h))
peer_posts-at (e ∷ es) [] zero d h = refl
peer_posts-at (e ∷ es) [] (suc i) d h = peer_posts-at es [] i d (omega (arith, h))
peer_posts-at (e ∷ es) (m ∷ ms) zero d h = refl
peer_posts-at (e ∷ es) (m ∷ ms) (suc i) d h = peer_posts-at es ms i d (omega (arith, h))

pub peer_posts-set : (es : List PeerEnd) (ms : List Map) (i : ℕ) (e : PeerEnd) (m : Map) → i < length es → i < length ms
    → peer_posts (set es i e) (set ms i m) ≡ set (peer_posts es ms) i (peer_post e m)
peer_posts-set [] ms i e m h k = absurd (omega (arith, h))
peer_posts-set (x ∷ es) [] i e m h k = absurd (omega (arith, k))
peer_posts-set (x ∷ es) (y ∷ ms) zero e m h k = refl
peer_posts-set (x ∷ es) (y ∷ ms) (suc i) e m h k =
    ap (λ (ps : List Post). peer_post x y ∷ ps) (peer_posts-set es ms i e m (omega (arith, h)) (omega (arith, k)))

-- ---- the agents'
pub agent_posts-length : (es : List AgentEnd) (ts : List Told) → length (agent_posts es ts) ≡ length es
agent_posts-length [] ts = refl
agent_posts-length (e ∷ es) [] = (let h = agent_posts-length es [] in omega (arith, h))
agent_posts-length (e ∷ es) (a ∷ ts) = (let h = agent_posts-length es ts in omega (arith, h))

pub agent_posts-at : (es : List AgentEnd) (ts : List Told) (i : ℕ) (d : AgentEnd) (t : Told) → i < length es → i < length ts
    → get_or (agent_posts es ts) i nothing ≡ agent_post (get_or es i d) (get_or ts i t).map
agent_posts-at [] ts i d t h k = absurd (omega (arith, h))
agent_posts-at (e ∷ es) [] i d t h k = absurd (omega (arith, k))
agent_posts-at (e ∷ es) (a ∷ ts) zero d t h k = refl
agent_posts-at (e ∷ es) (a ∷ ts) (suc i) d t h k = agent_posts-at es ts i d t (omega (arith, h)) (omega (arith, k))

pub agent_posts-set : (es : List AgentEnd) (ts : List Told) (i : ℕ) (e : AgentEnd) (a : Told) → i < length es → i < length ts
    → agent_posts (set es i e) (set ts i a) ≡ set (agent_posts es ts) i (agent_post e a.map)
agent_posts-set [] ts i e a h k = absurd (omega (arith, h))
agent_posts-set (x ∷ es) [] i e a h k = absurd (omega (arith, k))
agent_posts-set (x ∷ es) (y ∷ ts) zero e a h k = refl
agent_posts-set (x ∷ es) (y ∷ ts) (suc i) e a h k =
    ap (λ (ps : List Post). agent_post x y.map ∷ ps) (agent_posts-set es ts i e a (omega (arith, h)) (omega (arith, k)))

-- ---- an agent of a session, among those held
pub at_session-there : (f : Map → Map) (ts : List Told) (es : List AgentEnd) (first session i : ℕ) (d : Told) → map seat ts ≡ seats first es
    → session ≡ first + i → i < length es
    → at_session f ts session ≡ set ts i (record (get_or ts i d) { map = f (get_or ts i d).map })
at_session-there f ts [] first session i d h at lt = absurd (omega (arith, lt))
at_session-there f [] (e ∷ es) first session i d h at lt = cc
at_session-there f (a ∷ ts) (e ∷ es) first session zero d h at lt =
    let is : a.session ≡ first = ap (λ (l : List (ℕ × Addr)). (get_or l 0 (seat a)).0) h in
    let low : nat_lt a.session session ≡ false = grind (arith, nat_tests) in
    let same : (a.session == session) ≡ true = grind (arith, nat_tests) in
    rw (low, same) refl
at_session-there f (a ∷ ts) (e ∷ es) first session (suc i) d h at lt =
    let is : a.session ≡ first = ap (λ (l : List (ℕ × Addr)). (get_or l 0 (seat a)).0) h in
    let low : nat_lt a.session session ≡ true = grind (arith, nat_tests) in
    let rest : map seat ts ≡ seats (suc first) es = cc in
    rw low (ap (λ (l : List Told). a ∷ l) (at_session-there f ts es (suc first) session i d rest (omega (arith, at)) (omega (arith, lt))))

pub at_session-none : (f : Map → Map) (ts : List Told) (es : List AgentEnd) (first session : ℕ) → map seat ts ≡ seats first es → session < first
    → at_session f ts session ≡ ts
at_session-none f [] es first session h lt = refl
at_session-none f (a ∷ ts) [] first session h lt = cc
at_session-none f (a ∷ ts) (e ∷ es) first session h lt =
    let is : a.session ≡ first = ap (λ (l : List (ℕ × Addr)). (get_or l 0 (seat a)).0) h in
    let low : nat_lt a.session session ≡ false = grind (arith, nat_tests) in
    let unlike : (a.session == session) ≡ false = grind (arith, nat_tests) in
    rw (low, unlike) refl

pub seated-length : (ts : List Told) (es : List AgentEnd) (first : ℕ) → map seat ts ≡ seats first es → length ts ≡ length es
seated-length [] [] first h = refl
seated-length [] (e ∷ es) first h = cc
seated-length (a ∷ ts) [] first h = cc
seated-length (a ∷ ts) (e ∷ es) first h =
    let rest : map seat ts ≡ seats (suc first) es = cc in
    let e = seated-length ts es (suc first) rest in omega (arith, e)

-- ---- all
module _ (feed : ItemState) (es : List PeerEnd) (ts : List AgentEnd) (h : Holdings) where
  pub posts-length : length (posts_of feed es ts h) ≡ 1 + (length es + length ts)
  posts-length =
      let e = peer_posts-length es h.peers in let a = agent_posts-length ts h.agents in
      simp length-append (omega (arith, e, a))

  pub post-peer : (i : ℕ) (d : PeerEnd) → i < length es → post (posts_of feed es ts h) (suc i) ≡ peer_post (get_or es i d) (get_or h.peers i empty)
  post-peer i d lt =
      let e = peer_posts-length es h.peers in
      get_or_append_left (peer_posts es h.peers) (agent_posts ts h.agents) nothing i (omega (arith, e, lt)) ∙ peer_posts-at es h.peers i d lt

  pub post-agent : (i : ℕ) (d : AgentEnd) (t : Told) → i < length ts → i < length h.agents
      → post (posts_of feed es ts h) (suc (length es + i)) ≡ agent_post (get_or ts i d) (get_or h.agents i t).map
  post-agent i d t lt held =
      ap (λ n. get_or (peer_posts es h.peers ++ agent_posts ts h.agents) (n + i) nothing) (sym (peer_posts-length es h.peers))
      ∙ get_or-append-add (peer_posts es h.peers) (agent_posts ts h.agents) i nothing ∙ agent_posts-at ts h.agents i d t lt held

  pub posts-peer : (i : ℕ) (e : PeerEnd) (m : Map) → i < length es → i < length h.peers
      → posts_of feed (set es i e) ts (record h { peers = set h.peers i m }) ≡ set (posts_of feed es ts h) (suc i) (peer_post e m)
  posts-peer i e m lt held =
      let n = peer_posts-length es h.peers in
      ap (λ (ps : List Post). feed_post feed h.feed ∷ (ps ++ agent_posts ts h.agents)) (peer_posts-set es h.peers i e m lt held)
      ∙ ap (λ (ps : List Post). feed_post feed h.feed ∷ ps) (sym (set-append_left (peer_posts es h.peers) (agent_posts ts h.agents) i (peer_post e m) (omega (arith, n, lt))))

  pub posts-agent : (i : ℕ) (e : AgentEnd) (a : Told) → i < length ts → i < length h.agents
      → posts_of feed es (set ts i e) (record h { agents = set h.agents i a }) ≡ set (posts_of feed es ts h) (suc (length es + i)) (agent_post e a.map)
  posts-agent i e a lt held =
      let le : length es ≤ length es + i = omega arith in
      let back : length es + i - length es ≡ i = omega arith in
      ap (λ (ps : List Post). feed_post feed h.feed ∷ (peer_posts es h.peers ++ ps)) (agent_posts-set ts h.agents i e a lt held)
      ∙ ap (λ n. feed_post feed h.feed ∷ (peer_posts es h.peers ++ set (agent_posts ts h.agents) n (agent_post e a.map))) (sym back)
      ∙ ap (λ (ps : List Post). feed_post feed h.feed ∷ ps)
      (sym (set-append_right (peer_posts es h.peers) (agent_posts ts h.agents) (length es) (length es + i) (agent_post e a.map) (peer_posts-length es h.peers) le))
