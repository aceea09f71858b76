-- What the pass keeps of the ends.
use Rattle.std.specs.Prelude.{◌≡◌, ℕ, suc, ◌+◌, List, [], ◌∷◌, map, length, get_or, Result, Ok, Err, IfOk}
use Rattle.std.specs.List.{AllByRecursion}
use Rattle.std.proofs.Common.{refl, sym, ◌∙◌, ap, arith}
use Rattle.std.proofs.lemmas.List.{length-map}
use Rattle.ov_types.specs.declared.rows.NodeId.{NodeId}
use Rattle.bgp_session.specs.Happenings as session
use Rattle.item_wire.specs.Happenings.{SessionFields}
use Rattle.node_core.specs.NodeModel.Paths.{Holdings}
use Rattle.control_node.specs.Ends.{AreEnds, IsAgentEnd, plan_of, posts_of, seats}
use Rattle.control_node.specs.declared.ends.AgentEnd.{AgentEnd}
use Rattle.control_node.specs.declared.ends.PeerEnd.{PeerEnd}
use Rattle.control_node.proofs.Planned.{map_twice, sessions_of}
use Rattle.control_node.proofs.Posts.{posts-length}

pub if_ok : {V E : Type 0} (r : Result V E) (P Q : V → Type 0) → ((v : V) → P v → Q v) → IfOk r P → IfOk r Q
if_ok (Ok v) P Q f p = f v p
if_ok (Err e) P Q f p = p

abbrev pub ids_of : List AgentEnd → List NodeId
ids_of es = map (λ (e : AgentEnd). e.id) es

as_many : {X Y : Type 0} (f : X → Y) (xs ys : List X) → map f xs ≡ map f ys → length xs ≡ length ys
as_many f xs ys e = sym (length-map xs f) ∙ ap length e ∙ length-map ys f

seats_keep : (n : ℕ) (es es' : List AgentEnd) → ids_of es' ≡ ids_of es → seats n es' ≡ seats n es
seats_keep n [] [] e = refl
seats_keep n [] (e' ∷ es') e = cc
seats_keep n (x ∷ es) [] e = cc
seats_keep n (x ∷ es) (x' ∷ es') e =
    let first : x'.id ≡ x.id = ap (λ (l : List NodeId). get_or l 0 x'.id) e in
    let rest : ids_of es' ≡ ids_of es = cc in
    λ i. (n, (first i).address) ∷ seats_keep (suc n) es es' rest i

systems_keep : (asn : ℕ) (es es' : List PeerEnd) → sessions_of es' ≡ sessions_of es
    → AllByRecursion (λ (e : PeerEnd). e.session.asn ≡ asn) es
    → AllByRecursion (λ (e : PeerEnd). e.session.asn ≡ asn) es'
systems_keep asn [] [] e all = tt
systems_keep asn [] (x' ∷ es') e all = cc
systems_keep asn (x ∷ es) [] e all = tt
systems_keep asn (x ∷ es) (x' ∷ es') e all =
    let first : x'.session ≡ x.session = ap (λ (l : List session.SessionFields). get_or l 0 x'.session) e in
    let rest : sessions_of es' ≡ sessions_of es = cc in
    (ap (λ (s : session.SessionFields). s.asn) first ∙ all.0, systems_keep asn es es' rest all.1)

module _ (me : NodeId) (asn : ℕ) (feed : SessionFields) (peers peers' : List PeerEnd) (agents agents' : List AgentEnd)
    (h : Holdings) (sessions : sessions_of peers' ≡ sessions_of peers) (ids : ids_of agents' ≡ ids_of agents) where
  pub plan_kept : plan_of me asn peers' agents' ≡ plan_of me asn peers agents
  plan_kept =
      let those : map (λ (e : PeerEnd). e.session.peer) peers' ≡ map (λ (e : PeerEnd). e.session.peer) peers =
      map_twice (λ (e : PeerEnd). e.session) (λ (s : session.SessionFields). s.peer) peers'
      ∙ ap (map (λ (s : session.SessionFields). s.peer)) sessions
      ∙ sym (map_twice (λ (e : PeerEnd). e.session) (λ (s : session.SessionFields). s.peer) peers) in
      λ i. record { me = me; asn = asn; peers = those i; agents = ids i; retired = [] }

  peers_many : length peers' ≡ length peers
  peers_many = as_many (λ (e : PeerEnd). e.session) peers' peers sessions

  agents_many : length agents' ≡ length agents
  agents_many = as_many (λ (e : AgentEnd). e.id) agents' agents ids

  pub long_kept : length (posts_of feed.state peers' agents' h) ≡ length (posts_of feed.state peers agents h)
  long_kept =
      let a = posts-length feed.state peers' agents' h in let b = posts-length feed.state peers agents h in
      omega (arith, a, b, peers_many, agents_many)

  pub ends_kept : AreEnds me asn feed peers agents h → AllByRecursion IsAgentEnd agents' → AreEnds me asn feed peers' agents' h
  ends_kept are all = record {
    address = are.address;
    asn_fits = are.asn_fits;
    few = (let few = are.few in omega (arith, peers_many, agents_many, few));
    feed_peer = are.feed_peer;
    feed_from = are.feed_from;
    peer_ends = systems_keep asn peers peers' sessions are.peer_ends;
    agent_ends = all;
    asn_held = are.asn_held;
    peers_held = are.peers_held ∙ sym peers_many;
    agents_held = are.agents_held ∙ ap (λ n. seats (1 + n) agents) (sym peers_many)
        ∙ sym (seats_keep (1 + length peers') agents agents' ids);
    fit = are.fit;
  }
