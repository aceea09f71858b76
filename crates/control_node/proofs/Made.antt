-- Ends that are made.
use Rattle.std.specs.Prelude.{◌≡◌, ◌≢◌, ℕ, zero, suc, ◌+◌, ◌^◌, ◌<◌, List, [], ◌∷◌, ◌++◌, map, take, length, get_or}
use Rattle.std.specs.Prelude.{nat_lt, cond, true, false, None, replicate}
use Rattle.std.specs.Ordering.{eq_by_cmp}
use Rattle.std.specs.List.{AllByRecursion}
use Rattle.std.specs.FinMap.{empty, get, get-empty, get-remove, remove, same_map}
use Rattle.std.proofs.Common.{refl, sym, ◌∙◌, ap, subst, arith}
use Rattle.std.proofs.lemmas.Bool.Decides.{nat_tests}
use Rattle.std.proofs.lemmas.List.{length-map}
use Rattle.ov_sync.specs.Keyed.{Values}
use Rattle.ov_sync.proofs.KeyedLaws.{empty_values}
use Rattle.ov_sync.specs.declared.Delta.TheVariants.{Drop}
use Rattle.ov_types.specs.declared.prefix.Addr.{Addr}
use Rattle.ov_types.specs.declared.rows.NodeId.{NodeId}
use Rattle.ov_types.specs.declared.vpn.VpnKey.{VpnKey}
use Rattle.item_wire.specs.Happenings.{SessionFields, idle_session}
use Rattle.item_wire.specs.declared.event.ItemFrom.TheVariants as From
use Rattle.item_wire.specs.declared.event.ItemState.TheVariants as ItemState
use Rattle.control_wants.specs.Held.{RouteFits}
use Rattle.node_core.specs.Told.{AllFit}
use Rattle.node_core.specs.NodeModel.Keys.{Key, Vpn, key_cmp}
use Rattle.node_core.specs.NodeModel.Maps.{Map}
use Rattle.node_core.specs.NodeModel.Paths.{Holdings, Told}
use Rattle.node_core.specs.NodeModel.Step.{Post, nothing}
use Rattle.node_core.specs.NodeModel.Values.{Value}
use Rattle.node_core.proofs.NodeModel.Orders.{key_exact, key_total}
use Rattle.vpn_tables.specs.Changes.{changed_at, named, with_nothing, with_route}
use Rattle.vpn_tables.proofs.Images.{peer-empty}
use Rattle.control_node.specs.Beginning.{config}
use Rattle.control_node.specs.Core.{nothings, told_from}
use Rattle.control_node.specs.Ends.{AreEnds, IsAgentEnd, agent_posts, peer_posts, plan_of, posts_of, seat, seats}
use Rattle.control_node.specs.Made.{new_agent, new_ends, new_peer, none_told}
use Rattle.control_node.specs.declared.ends.AgentEnd.{AgentEnd}
use Rattle.control_node.specs.declared.ends.PeerEnd.{PeerEnd}
use Rattle.control_node.specs.declared.plan.ControlPlan.{ControlPlan}
use Rattle.control_node.proofs.Closed.{down-empty}
use Rattle.node_core.proofs.Maps.{nothing_fits}

-- ---- places in the tables
none_left : (k : Key) → remove {X = Value} {R = key_cmp} empty k ≡ empty
none_left k =
    same_map key_total key_exact (remove empty k) empty
    (λ q. get-remove key_total empty k q ∙ elim (eq_by_cmp key_cmp q k) as (λ b. cond b None (get (empty {X = Value} {R = key_cmp}) q) ≡ get (empty {X = Value} {R = key_cmp}) q) [
      | true ↦ sym (get-empty key_cmp q)
      | false ↦ refl
    ])

room : (place : ℕ) (k : VpnKey) → changed_at [] place (Drop (Vpn k)) ≡ replicate (suc place) empty
room zero k = ap (λ (m : Map). m ∷ []) (none_left (Vpn k))
room (suc place) k = ap (λ (l : List Map). empty ∷ l) (room place k)

pub peers_seated : (h : Holdings) (last : ℕ) (k : VpnKey) → h.peers ≡ []
    → with_route h last (Drop k) ≡ record h { peers = replicate last empty }
peers_seated h zero k e = λ i. record h { peers = e i }
peers_seated h (suc place) k e =
    λ i. record h { peers = (ap (λ (l : List Map). changed_at l place (Drop (Vpn k))) e ∙ room place k) i }

seated_more : (n : ℕ) (ids : List NodeId) (i : ℕ) (d : NodeId) → i < length ids
    → named (told_from n (take i ids) []) (n + i) (get_or ids i d).address ≡ told_from n (take (suc i) ids) []
seated_more n [] i d lt = absurd (omega (arith, lt))
seated_more n (x ∷ ids) zero d lt = ap (λ m. with_nothing m x.address ∷ []) (let z : n + 0 ≡ n = omega arith in z)
seated_more n (x ∷ ids) (suc i) d lt =
    let low : nat_lt n (n + suc i) ≡ true = grind (arith, nat_tests) in
    let next : n + suc i ≡ suc n + i = omega arith in
    rw low (ap (λ (l : List Told). with_nothing n x.address ∷ l)
    (ap (λ m. named (told_from (suc n) (take i ids) []) m (get_or ids i d).address) next
    ∙ seated_more (suc n) ids i d (omega (arith, lt))))

pub agents_seated : (n : ℕ) (ids : List NodeId) (i : ℕ) (id : NodeId) → i < length ids → id ≡ get_or ids i id
    → named (told_from n (take i ids) []) (n + i) id.address ≡ told_from n (take (i + 1) ids) []
agents_seated n ids i id lt is =
    ap (λ (x : NodeId). named (told_from n (take i ids) []) (n + i) x.address) is
    ∙ seated_more n ids i id lt
    ∙ ap (λ j. told_from n (take j ids) []) (let z : suc i ≡ i + 1 = omega arith in z)

-- ---- what always holds of them
length-replicate : (n : ℕ) → length (replicate n (empty {X = Value} {R = key_cmp})) ≡ n
length-replicate zero = refl
length-replicate (suc n) = (let e = length-replicate n in omega (arith, e))

no_route_fits : Values RouteFits (empty {X = Value} {R = key_cmp})
no_route_fits = empty_values key_cmp RouteFits

no_routes_fit : (n : ℕ) → AllByRecursion (Values RouteFits) (replicate n (empty {X = Value} {R = key_cmp}))
no_routes_fit zero = tt
no_routes_fit (suc n) = (no_route_fits, no_routes_fit n)

nothing_told_fits : (n : ℕ) (ids : List NodeId) → AllByRecursion (λ (a : Told). AllFit a.map) (told_from n ids [])
nothing_told_fits n [] = tt
nothing_told_fits n (x ∷ ids) = (nothing_fits, nothing_told_fits (suc n) ids)

are_peers : (asn : ℕ) (ids : List NodeId) → AllByRecursion (λ (e : PeerEnd). e.session.asn ≡ asn) (map (new_peer asn) ids)
are_peers asn [] = tt
are_peers asn (x ∷ ids) = (refl, are_peers asn ids)

are_agents : (ids : List NodeId) → AllByRecursion IsAgentEnd (map new_agent ids)
are_agents [] = tt
are_agents (x ∷ ids) =
    (record { peer = refl; from = refl; sent = subst AllFit (sym down-empty) nothing_fits }, are_agents ids)

are_seats : (n : ℕ) (ids : List NodeId) → map seat (told_from n ids []) ≡ seats n (map new_agent ids)
are_seats n [] = refl
are_seats n (x ∷ ids) = ap (λ (l : List (ℕ × Addr)). (n, x.address) ∷ l) (are_seats (suc n) ids)

pub made_are : (me : NodeId) (asn : ℕ) (peers agents : List NodeId) → me.address.0 ≢ 0 → asn < 2 ^ 32
    → length peers + length agents < 65535
    → AreEnds me asn (idle_session config From.Feed) (map (new_peer asn) peers) (map new_agent agents)
    (none_told asn peers agents)
made_are me asn peers agents address small few =
    let p = length-map peers (new_peer asn) in let a = length-map agents new_agent in record {
      address = address;
      asn_fits = small;
      few = omega (arith, p, a, few);
      feed_peer = refl;
      feed_from = refl;
      peer_ends = are_peers asn peers;
      agent_ends = are_agents agents;
      asn_held = refl;
      peers_held = length-replicate (length peers) ∙ sym p;
      agents_held = are_seats (1 + length peers) agents ∙ ap (λ n. seats (1 + n) (map new_agent agents)) (sym p);
      fit = record {
        feed = nothing_fits;
        peers = no_routes_fit (length peers);
        agents = nothing_told_fits (1 + length peers) agents;
      };
    }

-- ---- as they are seen
peers_again : (asn : ℕ) (ids : List NodeId) → map (λ (e : PeerEnd). e.session.peer) (map (new_peer asn) ids) ≡ ids
peers_again asn [] = refl
peers_again asn (x ∷ ids) = ap (λ (l : List NodeId). x ∷ l) (peers_again asn ids)

agents_again : (ids : List NodeId) → map (λ (e : AgentEnd). e.id) (map new_agent ids) ≡ ids
agents_again [] = refl
agents_again (x ∷ ids) = ap (λ (l : List NodeId). x ∷ l) (agents_again ids)

peers_closed : (asn : ℕ) (ids : List NodeId)
    → peer_posts (map (new_peer asn) ids) (replicate (length ids) empty) ≡ nothings (length ids)
peers_closed asn [] = refl
peers_closed asn (x ∷ ids) =
    λ i. record nothing { sent = peer-empty i } ∷ peers_closed asn ids i

agents_closed : (n : ℕ) (ids : List NodeId) → agent_posts (map new_agent ids) (told_from n ids []) ≡ nothings (length ids)
agents_closed n [] = refl
agents_closed n (x ∷ ids) =
    λ i. record nothing { sent = down-empty i } ∷ agents_closed (suc n) ids i

nothings-append : (m n : ℕ) → nothings m ++ nothings n ≡ nothings (m + n)
nothings-append zero n = ap nothings (let z : n ≡ 0 + n = omega arith in z)
nothings-append (suc m) n =
    ap (λ (l : List Post). nothing ∷ l) (nothings-append m n)
    ∙ ap nothings (let z : suc (m + n) ≡ suc m + n = omega arith in z)

pub made_seen : (me : NodeId) (asn : ℕ) (peers agents : List NodeId)
    → record {
      plan = plan_of me asn (map (new_peer asn) peers) (map new_agent agents);
      posts = posts_of ItemState.Idle (map (new_peer asn) peers) (map new_agent agents) (none_told asn peers agents);
    } ≡ new_ends (record { me = me; asn = asn; peers = peers; agents = agents; retired = [] })
made_seen me asn peers agents =
    let all : posts_of ItemState.Idle (map (new_peer asn) peers) (map new_agent agents) (none_told asn peers agents)
    ≡ nothings (1 + (length peers + length agents)) =
    (λ i. nothing ∷ (peers_closed asn peers i ++ agents_closed (1 + length peers) agents i))
    ∙ ap (λ (l : List Post). nothing ∷ l) (nothings-append (length peers) (length agents))
    ∙ ap nothings (let z : suc (length peers + length agents) ≡ 1 + (length peers + length agents) = omega arith in z) in
    λ i. record {
      plan = record { me = me; asn = asn; peers = peers_again asn peers i; agents = agents_again agents i; retired = [] };
      posts = all i;
    }

-- ---- by their parts
module _ (plan : ControlPlan) (feed : SessionFields) (peers : List PeerEnd) (agents : List AgentEnd) (h : Holdings)
    (f : feed ≡ idle_session config From.Feed) (p : peers ≡ map (new_peer plan.asn) plan.peers)
    (a : agents ≡ map new_agent plan.agents) (t : h ≡ none_told plan.asn plan.peers plan.agents) where
  pub ends_made : plan.me.address.0 ≢ 0 → plan.asn < 2 ^ 32 → length plan.peers + length plan.agents < 65535
      → AreEnds plan.me plan.asn feed peers agents h
  ends_made address small few =
      subst (λ (s : SessionFields). AreEnds plan.me plan.asn s peers agents h) (sym f)
      (subst (λ (l : List PeerEnd). AreEnds plan.me plan.asn (idle_session config From.Feed) l agents h) (sym p)
      (subst (λ (l : List AgentEnd).
      AreEnds plan.me plan.asn (idle_session config From.Feed) (map (new_peer plan.asn) plan.peers) l h) (sym a)
      (subst (AreEnds plan.me plan.asn (idle_session config From.Feed) (map (new_peer plan.asn) plan.peers)
      (map new_agent plan.agents)) (sym t)
      (made_are plan.me plan.asn plan.peers plan.agents address small few))))

  pub view_made : plan.retired ≡ []
      → record { plan = plan_of plan.me plan.asn peers agents; posts = posts_of feed.state peers agents h } ≡ new_ends plan
  view_made none =
      (λ i. record {
        plan = plan_of plan.me plan.asn (p i) (a i);
        posts = posts_of (f i).state (p i) (a i) (t i);
      })
      ∙ made_seen plan.me plan.asn plan.peers plan.agents
      ∙ ap (λ (retired : List ℕ). new_ends (record plan { retired = retired })) (sym none)
