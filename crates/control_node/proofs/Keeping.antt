-- What always holds of the ends, as one of them changes.
use Rattle.std.specs.Prelude.{◌≡◌, ◌+◌, ◌<◌, ◌==◌, ℕ, zero, suc, List, [], ◌∷◌, length, map, true, false, nat_lt, cond}
use Rattle.std.specs.FinMap.{empty}
use Rattle.std.specs.List.{AllByRecursion}
use Rattle.std.proofs.Common.{refl, sym, ◌∙◌, ap, arith, get_or, set, length-set}
use Rattle.std.proofs.Math.Seq.{map-set_same}
use Rattle.std.proofs.lemmas.List.{length-map}
use Rattle.ov_sync.specs.Keyed.{Values}
use Rattle.ov_sync.proofs.KeyedLaws.{empty_values}
use Rattle.ov_types.specs.declared.prefix.Addr.{Addr}
use Rattle.ov_types.specs.declared.rows.NodeId.{NodeId}
use Rattle.item_wire.specs.Happenings.{SessionFields}
use Rattle.node_core.specs.Told.{AllFit}
use Rattle.node_core.proofs.Maps.{nothing_fits}
use Rattle.node_core.specs.NodeModel.Keys.{key_cmp}
use Rattle.node_core.specs.NodeModel.Values.{Value}
use Rattle.node_core.specs.NodeModel.Maps.{Map}
use Rattle.node_core.specs.NodeModel.Paths.{Holdings, Told}
use Rattle.control_wants.specs.Held.{RouteFits}
use Rattle.vpn_tables.specs.Changes.{at_session, emptied_at, without}
use Rattle.control_node.specs.declared.ends.AgentEnd.{AgentEnd}
use Rattle.control_node.specs.declared.ends.PeerEnd.{PeerEnd}
use Rattle.control_node.specs.Ends.{AreEnds, IsAgentEnd, plan_of, seat, seats}
use Rattle.control_node.specs.Stays.{StaysHeld}
use Rattle.node_core.proofs.Lists.{all-set}

-- ---- as many
pub many : {X Y : Type 0} (f : X → Y) (xs : List X) (ys : List Y) → map f xs ≡ ys → length ys ≡ length xs
many f xs ys h = ap length (sym h) ∙ length-map xs f

pub among : {X Y : Type 0} (f : X → Y) (xs : List X) (ys : List Y) (i : ℕ) → map f xs ≡ ys → i < length ys → i < length xs
among f xs ys i h lt = (let n = many f xs ys h in omega (arith, n, lt))

-- ---- one of a list changes
pub all-at : {X : Type 0} (P : X → Type 0) (xs : List X) (i : ℕ) (d : X) → AllByRecursion P xs → i < length xs → P (get_or xs i d)
all-at P [] i d all h = absurd (omega (arith, h))
all-at P (x ∷ xs) zero d all h = all.0
all-at P (x ∷ xs) (suc i) d all h = all-at P xs i d all.1 (omega (arith, h))

-- the plan stays where the ends are those of the same nodes
pub plan-peer : (me : NodeId) (asn : ℕ) (es : List PeerEnd) (ts : List AgentEnd) (i : ℕ) (e d : PeerEnd)
    → e.session.peer ≡ (get_or es i d).session.peer → plan_of me asn (set es i e) ts ≡ plan_of me asn es ts
plan-peer me asn es ts i e d same = (λ k. record {
  me = me;
  asn = asn;
  peers = map-set_same (λ (e : PeerEnd). e.session.peer) es i e d same k;
  agents = map (λ (e : AgentEnd). e.id) ts;
  retired = [];
})

pub plan-agent : (me : NodeId) (asn : ℕ) (es : List PeerEnd) (ts : List AgentEnd) (i : ℕ) (e d : AgentEnd)
    → e.id ≡ (get_or ts i d).id → plan_of me asn es (set ts i e) ≡ plan_of me asn es ts
plan-agent me asn es ts i e d same = (λ k. record {
  me = me;
  asn = asn;
  peers = map (λ (e : PeerEnd). e.session.peer) es;
  agents = map-set_same (λ (e : AgentEnd). e.id) ts i e d same k;
  retired = [];
})

pub seats-set : (first : ℕ) (es : List AgentEnd) (i : ℕ) (e d : AgentEnd) → i < length es → e.id ≡ (get_or es i d).id → seats first (set es i e) ≡ seats first es
seats-set first [] i e d h same = refl
seats-set first (x ∷ es) zero e d h same = ap (λ (a : NodeId). (first, a.address) ∷ seats (suc first) es) same
seats-set first (x ∷ es) (suc i) e d h same =
    ap (λ (l : List (ℕ × Addr)). (first, x.id.address) ∷ l) (seats-set (suc first) es i e d (omega (arith, h)) same)

-- ---- what is held where nothing was changed but maps
module _ (me : NodeId) (asn : ℕ) (feed : SessionFields) (peers : List PeerEnd) (agents : List AgentEnd) (h h' : Holdings)
    (are : AreEnds me asn feed peers agents h) (stays : StaysHeld h h') where
  pub ends-feed : (s : SessionFields) → s.peer ≡ feed.peer → s.from ≡ feed.from → AreEnds me asn s peers agents h'
  ends-feed s peer from = record {
    address = are.address;
    asn_fits = are.asn_fits;
    few = are.few;
    feed_peer = peer ∙ are.feed_peer;
    feed_from = from ∙ are.feed_from;
    peer_ends = are.peer_ends;
    agent_ends = are.agent_ends;
    asn_held = stays.asn ∙ are.asn_held;
    peers_held = stays.peers ∙ are.peers_held;
    agents_held = stays.agents ∙ are.agents_held;
    fit = stays.fit are.fit;
  }

  pub ends-peer : (i : ℕ) (e : PeerEnd) → e.session.asn ≡ asn → AreEnds me asn feed (set peers i e) agents h'
  ends-peer i e same = let long = length-set peers i e in record {
    address = are.address;
    asn_fits = are.asn_fits;
    few = (let few = are.few in omega (arith, long, few));
    feed_peer = are.feed_peer;
    feed_from = are.feed_from;
    peer_ends = all-set (λ (e : PeerEnd). e.session.asn ≡ asn) peers i e are.peer_ends same;
    agent_ends = are.agent_ends;
    asn_held = stays.asn ∙ are.asn_held;
    peers_held = stays.peers ∙ are.peers_held ∙ sym long;
    agents_held = stays.agents ∙ are.agents_held ∙ ap (λ n. seats (1 + n) agents) (sym long);
    fit = stays.fit are.fit;
  }

  pub ends-agent : (i : ℕ) (e d : AgentEnd) → i < length agents → e.id ≡ (get_or agents i d).id → IsAgentEnd e → AreEnds me asn feed peers (set agents i e) h'
  ends-agent i e d lt same is = let long = length-set agents i e in record {
    address = are.address;
    asn_fits = are.asn_fits;
    few = (let few = are.few in omega (arith, long, few));
    feed_peer = are.feed_peer;
    feed_from = are.feed_from;
    peer_ends = are.peer_ends;
    agent_ends = all-set IsAgentEnd agents i e are.agent_ends is;
    asn_held = stays.asn ∙ are.asn_held;
    peers_held = stays.peers ∙ are.peers_held;
    agents_held = stays.agents ∙ are.agents_held ∙ sym (seats-set (1 + length peers) agents i e d lt same);
    fit = stays.fit are.fit;
  }

-- ---- maps that change
module _ (f : Map → Map) where
  pub seats_stay : (ts : List Told) (session : ℕ) → map seat (at_session f ts session) ≡ map seat ts
  seats_stay [] session = refl
  seats_stay (a ∷ ts) session =
      elim (nat_lt a.session session) as (λ b. map seat (cond b (a ∷ at_session f ts session) (cond (a.session == session) (record a { map = f a.map } ∷ ts) (a ∷ ts))) ≡ map seat (a ∷ ts)) [
        | true ↦ ap (λ (l : List (ℕ × Addr)). seat a ∷ l) (seats_stay ts session)
        | false ↦ elim (a.session == session) as (λ b. map seat (cond b (record a { map = f a.map } ∷ ts) (a ∷ ts)) ≡ map seat (a ∷ ts)) [
          | true ↦ refl
          | false ↦ refl
        ]
      ]

  pub agents_fit : (ts : List Told) (session : ℕ) → ((m : Map) → AllFit m → AllFit (f m)) → AllByRecursion (λ (a : Told). AllFit a.map) ts
      → AllByRecursion (λ (a : Told). AllFit a.map) (at_session f ts session)
  agents_fit [] session keeps all = all
  agents_fit (a ∷ ts) session keeps all =
      let Fit : List Told → Type 0 = AllByRecursion (λ (a : Told). AllFit a.map) in
      elim (nat_lt a.session session) as (λ b. Fit (cond b (a ∷ at_session f ts session) (cond (a.session == session) (record a { map = f a.map } ∷ ts) (a ∷ ts)))) [
        | true ↦ (all.0, agents_fit ts session keeps all.1)
        | false ↦ elim (a.session == session) as (λ b. Fit (cond b (record a { map = f a.map } ∷ ts) (a ∷ ts))) [
          | true ↦ (keeps a.map all.0, all.1)
          | false ↦ all
        ]
      ]

no_route_fits : Values RouteFits (empty {X = Value} {R = key_cmp})
no_route_fits = empty_values key_cmp RouteFits

-- ---- nothing is held any more of a session
pub emptied-length : (ms : List Map) (i : ℕ) → length (emptied_at ms i) ≡ length ms
emptied-length [] i = refl
emptied-length (m ∷ ms) zero = refl
emptied-length (m ∷ ms) (suc i) = (let e = emptied-length ms i in omega (arith, e))

pub emptied-set : (ms : List Map) (i : ℕ) → emptied_at ms i ≡ set ms i empty
emptied-set [] i = refl
emptied-set (m ∷ ms) zero = refl
emptied-set (m ∷ ms) (suc i) = ap (λ (l : List Map). m ∷ l) (emptied-set ms i)

emptied_fit : (ms : List Map) (i : ℕ) → AllByRecursion (Values RouteFits) ms → AllByRecursion (Values RouteFits) (emptied_at ms i)
emptied_fit [] i all = all
emptied_fit (m ∷ ms) zero all = (no_route_fits, all.1)
emptied_fit (m ∷ ms) (suc i) all = (all.0, emptied_fit ms i all.1)

pub stays-without : (h : Holdings) (session : ℕ) → StaysHeld h (without h session)
stays-without h zero = record {
  asn = refl;
  peers = refl;
  agents = seats_stay (λ m. empty) h.agents 0;
  fit = λ fit. record { feed = nothing_fits; peers = fit.peers; agents = agents_fit (λ m. empty) h.agents 0 (λ m _. nothing_fits) fit.agents };
}
stays-without h (suc i) = record {
  asn = refl;
  peers = emptied-length h.peers i;
  agents = seats_stay (λ m. empty) h.agents (suc i);
  fit = λ fit. record {
    feed = fit.feed;
    peers = emptied_fit h.peers i fit.peers;
    agents = agents_fit (λ m. empty) h.agents (suc i) (λ m _. nothing_fits) fit.agents;
  };
}
