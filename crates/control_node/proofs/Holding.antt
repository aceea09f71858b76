-- What is held, seen from the ends.
use Rattle.std.specs.Prelude.{◌≡◌, ℕ, suc, ◌+◌, List, [], ◌∷◌, ◌++◌, map, take, drop, length, get_or}
use Rattle.std.proofs.Common.{refl, sym, ◌∙◌, ap, arith}
use Rattle.std.proofs.Math.Seq.{drop-append_seam, take-append_seam}
use Rattle.std.proofs.lemmas.List.{length-map}
use Rattle.item_wire.specs.Happenings.{SessionFields}
use Rattle.node_core.specs.NodeModel.Maps.{Map}
use Rattle.node_core.specs.NodeModel.Paths.{Holdings, Told}
use Rattle.node_core.specs.NodeModel.Step.{Post}
use Rattle.ov_types.specs.declared.prefix.Addr.{Addr}
use Rattle.ov_types.specs.declared.rows.NodeId.{NodeId}
use Rattle.control_node.specs.Core.{holdings, told_from}
use Rattle.control_node.specs.Ends.{AreEnds, agent_posts, peer_posts, plan_of, posts_of, seat, seats}
use Rattle.control_node.specs.declared.ends.AgentEnd.{AgentEnd}
use Rattle.control_node.specs.declared.ends.PeerEnd.{PeerEnd}
use Rattle.control_node.proofs.Posts.{peer_posts-length}

peers_held : (es : List PeerEnd) (ms : List Map) → length ms ≡ length es
    → map (λ (p : Post). p.held) (peer_posts es ms) ≡ ms
peers_held [] [] e = refl
peers_held [] (m ∷ ms) e = absurd (omega (arith, e))
peers_held (x ∷ es) [] e = absurd (omega (arith, e))
peers_held (x ∷ es) (m ∷ ms) e = ap (λ (l : List Map). m ∷ l) (peers_held es ms (omega (arith, e)))

agents_held : (n : ℕ) (es : List AgentEnd) (ts : List Told) → map seat ts ≡ seats n es
    → told_from n (map (λ (e : AgentEnd). e.id) es) (agent_posts es ts) ≡ ts
agents_held n [] [] e = refl
agents_held n [] (t ∷ ts) e = cc
agents_held n (x ∷ es) [] e = cc
agents_held n (x ∷ es) (t ∷ ts) e =
    let first : seat t ≡ (n, x.id.address) = ap (λ (l : List (ℕ × Addr)). get_or l 0 (seat t)) e in
    let rest : map seat ts ≡ seats (suc n) es = cc in
    λ i. record { session = (sym first i).0; address = (sym first i).1; map = t.map } ∷ agents_held (suc n) es ts rest i

-- the holdings of the ends are what the tables hold
pub holdings_are : (me : NodeId) (asn : ℕ) (feed : SessionFields) (peers : List PeerEnd) (agents : List AgentEnd)
    (h : Holdings) → AreEnds me asn feed peers agents h
    → holdings (plan_of me asn peers agents) (posts_of feed.state peers agents h) ≡ h
holdings_are me asn feed peers agents h are =
    let ps = peer_posts peers h.peers in let qs = agent_posts agents h.agents in
    let long : length (map (λ (e : PeerEnd). e.session.peer) peers) ≡ length ps =
    length-map peers (λ (e : PeerEnd). e.session.peer) ∙ sym (peer_posts-length peers h.peers) in
    let shift : 1 + length (map (λ (e : PeerEnd). e.session.peer) peers) ≡ suc (length ps) = omega (arith, long) in
    let number : 1 + length (map (λ (e : PeerEnd). e.session.peer) peers) ≡ 1 + length peers =
    ap (λ n. 1 + n) (length-map peers (λ (e : PeerEnd). e.session.peer)) in
    let among : map (λ (p : Post). p.held) (take (length (map (λ (e : PeerEnd). e.session.peer) peers)) (ps ++ qs)) ≡ h.peers =
    ap (λ n. map (λ (p : Post). p.held) (take n (ps ++ qs))) long
    ∙ ap (map (λ (p : Post). p.held)) (take-append_seam ps qs)
    ∙ peers_held peers h.peers are.peers_held in
    let rest : drop (suc (length ps)) (posts_of feed.state peers agents h) ≡ qs = drop-append_seam ps qs in
    let those : told_from (1 + length (map (λ (e : PeerEnd). e.session.peer) peers))
    (map (λ (e : AgentEnd). e.id) agents)
    (drop (1 + length (map (λ (e : PeerEnd). e.session.peer) peers)) (posts_of feed.state peers agents h)) ≡ h.agents =
    (λ i. told_from (number i) (map (λ (e : AgentEnd). e.id) agents) (drop (shift i) (posts_of feed.state peers agents h)))
    ∙ ap (told_from (1 + length peers) (map (λ (e : AgentEnd). e.id) agents)) rest
    ∙ agents_held (1 + length peers) agents h.agents are.agents_held in
    λ i. record { asn = sym are.asn_held i; feed = h.feed; peers = among i; agents = those i }
