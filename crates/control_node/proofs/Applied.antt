-- What is held, as what was handed out is applied.
use Rattle.std.specs.Prelude.{◌≡◌, ◌<◌, ◌≤◌, ◌==◌, ◌^◌, ℕ, zero, suc, List, [], ◌∷◌, length, map, true, false, cond, nat_lt, nat_le, Option, Some, None, IfSome, ◌&&◌}
use Rattle.std.specs.List.{AllByRecursion, cons_option, filter_map, list_all}
use Rattle.std.proofs.Common.{refl, sym, ◌∙◌, ap, subst, arith}
use Rattle.std.proofs.lemmas.Bool.{and_parts, leb-true}
use Rattle.std.proofs.lemmas.Option.{same_Some}
use Rattle.bgp_session.specs.BgpVpn.Written.{IfPut}
use Rattle.ov_sync.specs.declared.Delta.{Delta}
use Rattle.ov_sync.specs.declared.Delta.TheVariants.{Put, Drop}
use Rattle.ov_sync.specs.Embed.{moved_delta}
use Rattle.ov_sync.specs.Keyed.{PutOf, Values, after, changed}
use Rattle.ov_sync.proofs.KeyedLaws.{changed_values}
use Rattle.ov_types.specs.Prefix.{Block}
use Rattle.ov_types.specs.declared.keys.UpKey.{UpKey}
use Rattle.ov_types.specs.declared.numbers.InstanceId.{InstanceId}
use Rattle.ov_types.specs.declared.numbers.ServiceNo.{ServiceNo}
use Rattle.ov_types.specs.declared.prefix.Addr.{Addr}
use Rattle.ov_types.specs.declared.numbers.Label.{Label as LabelNo}
use Rattle.ov_types.specs.declared.objects.LowKey.{LowKey}
use Rattle.ov_types.specs.declared.objects.LowKey.TheVariants as K
use Rattle.ov_types.specs.declared.objects.LowValue.{LowValue}
use Rattle.ov_types.specs.declared.objects.LowValue.TheVariants as V
use Rattle.ov_types.specs.declared.vpn.VpnKey.{VpnKey}
use Rattle.ov_types.specs.declared.vpn.VpnRoute.{VpnRoute}
use Rattle.item_wire.specs.Entries.{is_from_to}
use Rattle.item_wire.specs.Ranges.{is_block, is_hop, is_network}
use Rattle.item_wire.specs.declared.item.Item.{Item}
use Rattle.item_wire.specs.declared.item.Item.TheVariants as I
use Rattle.node_core.specs.Told.{AllFit, ChangeFits, IsWritable, change_of}
use Rattle.node_core.proofs.Changes.{read_fits}
use Rattle.node_core.proofs.Maps.{changed_fits}
use Rattle.node_core.specs.NodeModel.Keys.{Low, Vpn, of_up}
use Rattle.node_core.specs.NodeModel.Maps.{Map, Change}
use Rattle.node_core.specs.NodeModel.Paths.{Holdings, Told}
use Rattle.node_core.specs.NodeModel.Values.{Object, Route, Label}
use Rattle.node_core.proofs.NodeModel.Orders.{key_exact, key_total}
use Rattle.vpn_tables.specs.Changes.{at_session, changed_at, with_low, with_publication, with_route}
use Rattle.vpn_tables.specs.Ranges as ranges
use Rattle.control_wants.specs.Held.{RouteFits}
use Rattle.control_node.specs.Stays.{StaysHeld}
use Rattle.control_node.specs.Taking.{agent_by, at_place, changed_by, feed_by, peer_by}
use Rattle.control_node.proofs.Keeping.{agents_fit, seats_stay}

-- ---- what stays
pub stays-same : (h : Holdings) → StaysHeld h h
stays-same h = record { asn = refl; peers = refl; agents = refl; fit = λ fit. fit }

pub stays-then : (a b c : Holdings) → StaysHeld a b → StaysHeld b c → StaysHeld a c
stays-then a b c s t = record { asn = t.asn ∙ s.asn; peers = t.peers ∙ s.peers; agents = t.agents ∙ s.agents; fit = λ fit. t.fit (s.fit fit) }

pub stays-feed : (f : Map → Map) (h : Holdings) → ((m : Map) → AllFit m → AllFit (f m)) → StaysHeld h (feed_by f h)
stays-feed f h keeps = record {
  asn = refl;
  peers = refl;
  agents = refl;
  fit = λ fit. record { feed = keeps h.feed fit.feed; peers = fit.peers; agents = fit.agents };
}

pub stays-agent : (f : Map → Map) (h : Holdings) (session : ℕ) → ((m : Map) → AllFit m → AllFit (f m)) → StaysHeld h (agent_by f h session)
stays-agent f h session keeps = record {
  asn = refl;
  peers = refl;
  agents = seats_stay f h.agents session;
  fit = λ fit. record { feed = fit.feed; peers = fit.peers; agents = agents_fit f h.agents session keeps fit.agents };
}

pub at_place-length : (f : Map → Map) (ms : List Map) (i : ℕ) → length (at_place f ms i) ≡ length ms
at_place-length f [] i = refl
at_place-length f (m ∷ ms) zero = refl
at_place-length f (m ∷ ms) (suc i) = (let e = at_place-length f ms i in omega (arith, e))

places_fit : (f : Map → Map) (ms : List Map) (i : ℕ) → ((m : Map) → Values RouteFits m → Values RouteFits (f m))
    → AllByRecursion (Values RouteFits) ms → AllByRecursion (Values RouteFits) (at_place f ms i)
places_fit f [] i keeps all = all
places_fit f (m ∷ ms) zero keeps all = (keeps m all.0, all.1)
places_fit f (m ∷ ms) (suc i) keeps all = (all.0, places_fit f ms i keeps all.1)

pub stays-peer : (f : Map → Map) (h : Holdings) (session : ℕ) → ((m : Map) → Values RouteFits m → Values RouteFits (f m)) → StaysHeld h (peer_by f h session)
stays-peer f h zero keeps = stays-same h
stays-peer f h (suc i) keeps = record {
  asn = refl;
  peers = at_place-length f h.peers i;
  agents = refl;
  fit = λ fit. record { feed = fit.feed; peers = places_fit f h.peers i keeps fit.peers; agents = fit.agents };
}

-- ---- one change
after-cons : (m : Map) (o : Option Change) (cs : List Change) → after (changed_by m o) cs ≡ after m (cons_option o cs)
after-cons m None cs = refl
after-cons m (Some c) cs = refl

-- what a record makes of a map fits
pub by_record : (i : Item) → IsWritable i → (m : Map) → AllFit m → AllFit (changed_by m (change_of i))
by_record i w m a = each (change_of i) (read_fits i w)
  where
    each : (o : Option Change) → IfSome o ChangeFits → AllFit (changed_by m o)
    each None h = a
    each (Some c) h = changed_fits m c a h

of_uses : (n : ℕ) (hops : List (ServiceNo × Addr)) (item : Item) (left right : InstanceId) (lefts rights : List Block) → item ≡ I.Use hops left lefts right rights n → IsWritable item → (n ≤ 3071) × (length hops ≤ 15)
of_uses n hops item left right lefts rights e w =
    let u : IsWritable (I.Use hops left lefts right rights n) = subst IsWritable e w in
    let a = and_parts (list_all is_hop hops && is_from_to 1 15 (length hops) && is_network left.0 && list_all is_block lefts && is_network right.0 && list_all is_block rights) (nat_le n 3071) u.in_range in
    let b = and_parts (list_all is_hop hops && is_from_to 1 15 (length hops) && is_network left.0 && list_all is_block lefts && is_network right.0) (list_all is_block rights) a.0 in
    let c = and_parts (list_all is_hop hops && is_from_to 1 15 (length hops) && is_network left.0 && list_all is_block lefts) (is_network right.0) b.0 in
    let d = and_parts (list_all is_hop hops && is_from_to 1 15 (length hops) && is_network left.0) (list_all is_block lefts) c.0 in
    let f = and_parts (list_all is_hop hops && is_from_to 1 15 (length hops)) (is_network left.0) d.0 in
    let g = and_parts (list_all is_hop hops) (is_from_to 1 15 (length hops)) f.0 in
    let k = and_parts (nat_le 1 (length hops)) (nat_le (length hops) 15) g.1 in
    (leb-true n 3071 a.1, leb-true (length hops) 15 k.1)

-- an object that fits is within the ranges of the tables
within : (d : Delta LowKey LowValue) → ChangeFits (moved_delta Low Object d) → PutOf ranges.Fits d
within (Drop k) h = tt
within (Put (K.ChainUse n) (V.ChainUse left right lefts rights hops)) h =
    of_uses n hops h.1.item left right lefts rights (sym (same_Some (I.Use hops left lefts right rights n) h.1.item h.1.is)) h.1.writable
within (Put k v) h = tt

-- ---- the feed
pub feed-changed : (h h' : Holdings) (i : Item) (d : Delta LowKey LowValue) → h' ≡ with_low h d → Some (moved_delta Low Object d) ≡ change_of i
    → h' ≡ feed_by (λ m. changed_by m (change_of i)) h
feed-changed h h' i d e o = e ∙ ap (λ (o : Option Change). feed_by (λ m. changed_by m o) h) o

pub feed-next : (h h' : Holdings) (i : Item) (is : List Item) → h' ≡ feed_by (λ m. changed_by m (change_of i)) h
    → feed_by (λ m. after m (filter_map change_of is)) h' ≡ feed_by (λ m. after m (filter_map change_of (i ∷ is))) h
feed-next h h' i is e =
    ap (λ (h : Holdings). feed_by (λ m. after m (filter_map change_of is)) h) e
    ∙ (λ k. record h { feed = after-cons h.feed (change_of i) (filter_map change_of is) k })

-- ---- an agent
at_session-twice : (f g : Map → Map) (ts : List Told) (session : ℕ) → at_session f (at_session g ts session) session ≡ at_session (λ m. f (g m)) ts session
at_session-twice f g [] session = refl
at_session-twice f g (a ∷ ts) session =
    elim (nat_lt a.session session) as (λ b. nat_lt a.session session ≡ b
    → at_session f (cond b (a ∷ at_session g ts session) (cond (a.session == session) (record a { map = g a.map } ∷ ts) (a ∷ ts))) session
    ≡ cond b (a ∷ at_session (λ m. f (g m)) ts session) (cond (a.session == session) (record a { map = f (g a.map) } ∷ ts) (a ∷ ts))) [
      | true ↦ λ low. rw low (ap (λ (l : List Told). a ∷ l) (at_session-twice f g ts session))
      | false ↦ λ low. elim (a.session == session) as (λ b. (a.session == session) ≡ b
          → at_session f (cond b (record a { map = g a.map } ∷ ts) (a ∷ ts)) session ≡ cond b (record a { map = f (g a.map) } ∷ ts) (a ∷ ts)) [
            | true ↦ λ same. rw (low, same) refl
            | false ↦ λ same. rw (low, same) refl
          ] refl
    ] refl

pub agent-changed : (h h' : Holdings) (session : ℕ) (i : Item) (d : Delta UpKey LabelNo) → h' ≡ with_publication h session d → Some (moved_delta of_up Label d) ≡ change_of i
    → h' ≡ agent_by (λ m. changed_by m (change_of i)) h session
agent-changed h h' session i d e o = e ∙ ap (λ (o : Option Change). agent_by (λ m. changed_by m o) h session) o

pub at_session-same : (ts : List Told) (session : ℕ) → at_session (λ m. m) ts session ≡ ts
at_session-same [] session = refl
at_session-same (a ∷ ts) session =
    elim (nat_lt a.session session) as (λ b. cond b (a ∷ at_session (λ m. m) ts session) (cond (a.session == session) (a ∷ ts) (a ∷ ts)) ≡ a ∷ ts) [
      | true ↦ ap (λ (l : List Told). a ∷ l) (at_session-same ts session)
      | false ↦ elim (a.session == session) as (λ b. cond b (a ∷ ts) (a ∷ ts) ≡ a ∷ ts) [ true ↦ refl | false ↦ refl ]
    ]

pub agent-same : (h : Holdings) (session : ℕ) → agent_by (λ m. m) h session ≡ h
agent-same h session = ap (λ (l : List Told). record h { agents = l }) (at_session-same h.agents session)

pub agent-next : (h h' : Holdings) (session : ℕ) (i : Item) (is : List Item) → h' ≡ agent_by (λ m. changed_by m (change_of i)) h session
    → agent_by (λ m. after m (filter_map change_of is)) h' session ≡ agent_by (λ m. after m (filter_map change_of (i ∷ is))) h session
agent-next h h' session i is e =
    ap (λ (h : Holdings). agent_by (λ m. after m (filter_map change_of is)) h session) e
    ∙ ap (λ (l : List Told). record h { agents = l }) (at_session-twice (λ m. after m (filter_map change_of is)) (λ m. changed_by m (change_of i)) h.agents session)
    ∙ ap (λ (f : Map → Map). agent_by f h session) (λ k m. after-cons m (change_of i) (filter_map change_of is) k)

-- ---- a peer
at_place-twice : (f g : Map → Map) (ms : List Map) (i : ℕ) → at_place f (at_place g ms i) i ≡ at_place (λ m. f (g m)) ms i
at_place-twice f g [] i = refl
at_place-twice f g (m ∷ ms) zero = refl
at_place-twice f g (m ∷ ms) (suc i) = ap (λ (l : List Map). m ∷ l) (at_place-twice f g ms i)

pub at_place-same : (ms : List Map) (i : ℕ) → at_place (λ m. m) ms i ≡ ms
at_place-same [] i = refl
at_place-same (m ∷ ms) zero = refl
at_place-same (m ∷ ms) (suc i) = ap (λ (l : List Map). m ∷ l) (at_place-same ms i)

pub peer-same : (h : Holdings) (session : ℕ) → peer_by (λ m. m) h session ≡ h
peer-same h zero = refl
peer-same h (suc i) = ap (λ (l : List Map). record h { peers = l }) (at_place-same h.peers i)

changed-place : (ms : List Map) (i : ℕ) (c : Change) → i < length ms → changed_at ms i c ≡ at_place (λ m. changed m c) ms i
changed-place [] i c lt = absurd (omega (arith, lt))
changed-place (m ∷ ms) zero c lt = refl
changed-place (m ∷ ms) (suc i) c lt = ap (λ (l : List Map). m ∷ l) (changed-place ms i c (omega (arith, lt)))

pub peer-changed : (h : Holdings) (session : ℕ) (d : Delta VpnKey VpnRoute) → session ≤ length h.peers
    → with_route h session d ≡ peer_by (λ m. changed m (moved_delta Vpn Route d)) h session
peer-changed h zero d le = refl
peer-changed h (suc i) d le = ap (λ (l : List Map). record h { peers = l }) (changed-place h.peers i (moved_delta Vpn Route d) (omega (arith, le)))

peer-twice : (f g : Map → Map) (h : Holdings) (session : ℕ) → peer_by f (peer_by g h session) session ≡ peer_by (λ m. f (g m)) h session
peer-twice f g h zero = refl
peer-twice f g h (suc i) = ap (λ (l : List Map). record h { peers = l }) (at_place-twice f g h.peers i)

pub peer-next : (h h' : Holdings) (session : ℕ) (d : Delta VpnKey VpnRoute) (ds : List (Delta VpnKey VpnRoute)) → session ≤ length h.peers → h' ≡ with_route h session d
    → peer_by (λ m. after m (map (moved_delta Vpn Route) ds)) h' session ≡ peer_by (λ m. after m (map (moved_delta Vpn Route) (d ∷ ds))) h session
peer-next h h' session d ds le e =
    ap (λ (h : Holdings). peer_by (λ m. after m (map (moved_delta Vpn Route) ds)) h session) (e ∙ peer-changed h session d le)
    ∙ peer-twice (λ m. after m (map (moved_delta Vpn Route) ds)) (λ m. changed m (moved_delta Vpn Route d)) h session

route_fits : (d : Delta VpnKey VpnRoute) → IfPut d (λ route. route.label.0 < 2 ^ 20) → PutOf RouteFits (moved_delta Vpn Route d)
route_fits (Put k r) h = h
route_fits (Drop k) h = tt

pub stays-route : (h : Holdings) (session : ℕ) (d : Delta VpnKey VpnRoute) → session ≤ length h.peers → IfPut d (λ route. route.label.0 < 2 ^ 20)
    → StaysHeld h (with_route h session d)
stays-route h session d le label =
    subst (StaysHeld h) (sym (peer-changed h session d le))
    (stays-peer (λ m. changed m (moved_delta Vpn Route d)) h session (λ m a. changed_values RouteFits key_total key_exact m (moved_delta Vpn Route d) a (route_fits d label)))
