-- Wants depend on what is held at keys of lower rank alone.
use Rattle.std.specs.Prelude.{◌≡◌, ℕ, suc, ◌+◌, ◌-◌, ◌/◌, ◌<◌, ◌≤◌, List, [], ◌∷◌, ◌++◌, map, Bool, true, false, cond, T, is_some, nat_lt, nat_le}
use Rattle.std.specs.declared.cmp.Ordering.{Ordering}
use Rattle.std.specs.declared.cmp.Ordering.TheVariants.{Less, Equal, Greater}
use Rattle.std.specs.declared.option.Option.{Option}
use Rattle.std.specs.declared.option.Option.TheVariants.{Some, None}
use Rattle.std.specs.List.{AllZip, AllByRecursion, list_any}
use Rattle.std.specs.Ordering.{is_lt}
use Rattle.std.specs.Cmp.{IsTotalOrder, on_total}
use Rattle.std.specs.Cmp.Lexicographic.{nat_list_cmp_total}
use Rattle.std.specs.FinMap.{FinMap, IsAntisymmetric, get, entries, entries_sorted, find, get-from_entries, same_map}
use Rattle.std.proofs.lemmas.Bool.{true≢false, leb-true}
use Rattle.std.proofs.lemmas.Option.{same_Some}
use Rattle.std.proofs.Common.{refl, sym, ◌∙◌, ap, subst, inl, inr, arith}
use Rattle.ov_types.specs.Prefix.{Block}
use Rattle.ov_types.specs.declared.numbers.InstanceId.{InstanceId}
use Rattle.ov_types.specs.declared.numbers.Rd.{Rd}
use Rattle.ov_types.specs.declared.objects.LowKey.{LowKey}
use Rattle.ov_types.specs.declared.objects.LowKey.TheVariants as key
use Rattle.ov_types.specs.declared.objects.LowValue.{LowValue}
use Rattle.ov_types.specs.declared.targets.Target.{Target}
use Rattle.ov_types.specs.declared.vpn.VpnKey.{VpnKey}
use Rattle.ov_types.specs.declared.vpn.VpnRoute.{VpnRoute}
use Rattle.ov_sync.specs.Keyed.{map_of}
use Rattle.ov_sync.proofs.Ascending.{Over, Ascends, entries-map_of}
use Rattle.route_targets.specs.Numbers.{target_of}
use Rattle.node_model.specs.Members.{Member}
use Rattle.node_model.specs.Keys.{Key, Low, Vpn, Row, Publish, Subscribe, numbers, key_cmp}
use Rattle.node_model.specs.Values.{Value, Object, Route}
use Rattle.node_model.specs.Maps.{Map, as_object, object, objects}
use Rattle.node_model.specs.Uses.{Use, uses, is_hop, use_of, place_of, held_use, is_place, is_known}
use Rattle.node_model.specs.Paths.{Holdings, Told, Path, own_paths}
use Rattle.node_model.specs.Reaching.{reoriginated_paths}
use Rattle.node_model.specs.Tables.{same_prefix}
use Rattle.node_model.specs.Wants.{route_entry, wanted_by_peers, slice, wanted_by_agent}
use Rattle.node_model.specs.Agent as agent
use Rattle.node_model.specs.Ranks.{instance_in, depth_in, depth, peer_rank, AreOrdered, IsTargeted, AgreeBelow, SameTold, Agree, SameSlice}
use Rattle.node_model.proofs.Members.{in_either, from_map, found, from_find, from_entry}
use Rattle.node_model.proofs.Orders.{key_total, key_exact}
use Rattle.node_model.proofs.Objects.{object_of, in_objects}
use Rattle.node_model.proofs.Routes.{own_route_from, reoriginated_from}
use Rattle.node_model.proofs.Places.{instance_in-distinguisher, place_small, use_found}
use Rattle.node_model.proofs.Wanted.{as_low, as_route, named, told, wanted_object, object_to}
use Rattle.node_model.proofs.Heard.{same_options, wanted_besides}
use Rattle.node_model.proofs.Published.{IsBefore, Rise, rise_from}
use Rattle.node_model.proofs.Locality.{local_by_peers}

-- ---- the routes that are wanted have the target of their distinguisher's instance
pub known_small : (feed : Map) (i : InstanceId) → AreOrdered feed → is_known feed i ≡ true → i.0 < 65536
known_small feed i ordered known =
    elim (is_hop i) as (λ b. is_hop i ≡ b → cond b (is_place (place_of i) (held_use feed i)) (is_some (object feed (key.Instance i.0))) ≡ true → i.0 < 65536) [
      | true ↦ λ _ e. of_use (held_use feed i) refl e
      | false ↦ λ e _. of_network i.0 e
    ] refl known
  where
    of_network : (n : ℕ) → nat_lt 16383 n ≡ false → n < 65536
    of_network n e = grind (arith)

    bound : (n u : ℕ) → u ≡ (n - 16384) / 16 → u ≤ 3071 → n < 65536
    bound n u e h = omega arith

    of_use : (o : Option Use) → held_use feed i ≡ o → is_place (place_of i) o ≡ true → i.0 < 65536
    of_use None e h = absurd (true≢false (sym h))
    of_use (Some u) e h = let f = use_found feed (use_of i) u e in bound i.0 u.number f.1 (ordered.numbers u f.0)

next : (d k : ℕ) → d < k → suc d ≤ k
next d k h = omega arith

targeted_by : (asn : ℕ) (rd : Rd) (ts : List Target) (i : InstanceId) → instance_in rd ≡ i → ts ≡ target_of asn i ∷ [] → ts ≡ target_of asn (instance_in rd) ∷ []
targeted_by asn rd ts i e t = t ∙ ap (λ (x : InstanceId). target_of asn x ∷ []) (sym e)

path_targeted : (h : Holdings) → AreOrdered h.feed → (p : Path) → Member p (own_paths h ++ reoriginated_paths h) → p.targets ≡ target_of h.asn (instance_in p.rd) ∷ []
path_targeted h ordered p m =
    elim (in_either p (own_paths h) (reoriginated_paths h) m) as (λ _. p.targets ≡ target_of h.asn (instance_in p.rd) ∷ []) [
      | inl l ↦
          let o = own_route_from h p l in
          targeted_by h.asn p.rd p.targets o.instance (ap instance_in o.rd ∙ instance_in-distinguisher o.agent.address o.instance (known_small h.feed o.instance ordered o.known)) o.targets
      | inr r ↦
          let o = reoriginated_from h p r in
          targeted_by h.asn p.rd p.targets _ (ap instance_in o.rd ∙ instance_in-distinguisher p.next_hop _ (place_small h.feed o.side (suc o.depth) ordered o.held (next o.depth o.side.chain.services o.within))) o.targets
    ]

unfoldable pub as_vpn : Key → Option VpnKey
as_vpn (Vpn k) = Some k
as_vpn (Low k) = None
as_vpn (Row i p) = None
as_vpn (Publish i p) = None
as_vpn (Subscribe i) = None

pub wants_targeted : (h : Holdings) → AreOrdered h.feed → IsTargeted h.asn (wanted_by_peers h)
unfolding as_vpn
wants_targeted h ordered k r e =
    let m = from_entry key_total key_exact (Vpn k) (Route r) (map route_entry (own_paths h ++ reoriginated_paths h)) e in
    let q = from_map route_entry (told (Vpn k) (Route r)) (own_paths h ++ reoriginated_paths h) m in
    let p : Path = q.0 in
    let at : ◌≡◌ {A = VpnKey} (record { rd = p.rd; prefix = p.prefix }) k = same_Some (record { rd = p.rd; prefix = p.prefix }) k (ap (λ (e : Key × Value). as_vpn e.0) q.2) in
    let is : ◌≡◌ {A = VpnRoute} (record { next_hop = p.next_hop; label = p.label; targets = p.targets }) r = same_Some (record { next_hop = p.next_hop; label = p.label; targets = p.targets }) r (ap (λ (e : Key × Value). as_route e.1) q.2) in
    ap (λ (x : VpnRoute). x.targets) (sym is) ∙ path_targeted h ordered p q.1 ∙ ap (λ (x : VpnKey). target_of h.asn (instance_in x.rd) ∷ []) at

-- ---- towards peers
same_told : (a b : Told) → SameTold a b → a ≡ b
same_told a b s = λ i. record { session = s.session i; address = s.address i; map = same_map key_total key_exact a.map b.map s.keys i }

zip_equal : {X : Type 0} (R : X → X → Type 0) → ((x y : X) → R x y → x ≡ y) → (xs ys : List X) → AllZip R xs ys → xs ≡ ys
zip_equal R same [] [] z = refl
zip_equal R same [] (y ∷ ys) z = absurd z
zip_equal R same (x ∷ xs) [] z = absurd z
zip_equal R same (x ∷ xs) (y ∷ ys) z = λ i. same x y z.0 i ∷ zip_equal R same xs ys z.1 i

peers_at_least : (feed : Map) (k : Key) (r : ℕ) → peer_rank feed k ≤ suc r → 3 ≤ r
peers_at_least feed k r h = low (peer_rank feed k) (four k) h
  where
    four : (k : Key) → 4 ≤ peer_rank feed k
    four (Vpn k) = omega arith
    four (Low k) = omega arith
    four (Row i p) = omega arith
    four (Publish i p) = omega arith
    four (Subscribe i) = omega arith

    low : (x : ℕ) → 4 ≤ x → x ≤ suc r → 3 ≤ r
    low x a b = omega arith

pub local_to_peers : (rank : ℕ) (h g : Holdings) → AreOrdered h.feed → AllByRecursion (IsTargeted h.asn) h.peers → AllByRecursion (IsTargeted h.asn) g.peers → Agree rank h g
    → (k : Key) → peer_rank h.feed k ≤ suc rank → get (wanted_by_peers h) k ≡ get (wanted_by_peers g) k
local_to_peers rank h g ordered f f' agree k r =
    let agents = zip_equal SameTold same_told h.agents g.agents (agree.agents (peers_at_least h.feed k rank r)) in
    local_by_peers h.asn h.feed h.agents ordered rank h.peers g.peers agree.peers f f' k r
    ∙ (λ i. get (wanted_by_peers (record { asn = agree.asn i; feed = agree.feed i; peers = g.peers; agents = agents i })) k)

-- ---- towards agents
depth_at_most : (feed : Map) (longest : ℕ) → ((u : Use) → Member u (uses feed) → u.services ≤ longest) → (i : InstanceId) (p : Block) → depth feed i p ≤ longest
depth_at_most feed longest short i p =
    elim (is_hop i) as (λ b. cond b (depth_in p (place_of i) (held_use feed i)) 0 ≤ longest) [ true ↦ of_use (held_use feed i) refl | false ↦ zero_le longest ]
  where
    zero_le : (n : ℕ) → 0 ≤ n
    zero_le n = omega arith

    less : (k j n : ℕ) → k ≤ n → k - j ≤ n
    less k j n h = omega arith

    by : (j k n : ℕ) → j ≤ k → k ≤ n → j ≤ n
    by j k n a b = omega arith

    of_place : (j k : ℕ) → k ≤ longest → (b r l : Bool) → nat_le j k ≡ b → cond b (cond r (k - j) (cond l j 0)) 0 ≤ longest
    of_place j k h false r l e = zero_le longest
    of_place j k h true true l e = less k j longest h
    of_place j k h true false true e = by j k longest (leb-true j k e) h
    of_place j k h true false false e = zero_le longest

    of_use : (o : Option Use) → held_use feed i ≡ o → depth_in p (place_of i) o ≤ longest
    of_use None e = zero_le longest
    of_use (Some u) e =
        of_place (place_of i) u.services (short u (use_found feed (use_of i) u e).0) (nat_le (place_of i) u.services) (list_any (same_prefix p) u.right_subnets) (list_any (same_prefix p) u.left_subnets) refl

rank_at_most : (feed : Map) (longest : ℕ) → ((u : Use) → Member u (uses feed) → u.services ≤ longest) → (k : Key) → peer_rank feed k ≤ longest + 4
rank_at_most feed longest short (Vpn k) = with_depth (depth feed (instance_in k.rd) k.prefix) (depth_at_most feed longest short (instance_in k.rd) k.prefix)
  where
    with_depth : (d : ℕ) → d ≤ longest → 4 + d ≤ longest + 4
    with_depth d h = omega arith
rank_at_most feed longest short (Low k) = omega arith
rank_at_most feed longest short (Row i p) = omega arith
rank_at_most feed longest short (Publish i p) = omega arith
rank_at_most feed longest short (Subscribe i) = omega arith

pub local_to_agents : (longest : ℕ) (h g : Holdings) → ((u : Use) → Member u (uses h.feed) → u.services ≤ longest) → Agree (longest + 4) h g → (a : Told) → wanted_by_agent h a ≡ wanted_by_agent g a
local_to_agents longest h g short agree a =
    let agents = zip_equal SameTold same_told h.agents g.agents (agree.agents (three longest)) in
    let peers = zip_equal (AgreeBelow h.feed (longest + 4)) (λ m n same. same_map key_total key_exact m n (λ k. same k (rank_at_most h.feed longest short k))) h.peers g.peers agree.peers in
    λ i. wanted_by_agent (record { asn = agree.asn i; feed = agree.feed i; peers = peers i; agents = agents i }) a
  where
    three : (n : ℕ) → 3 ≤ n + 4
    three n = omega arith

moved_slice : (h g : Holdings) (a b : Told) → h.feed ≡ g.feed → a.address ≡ b.address → (k : LowKey) (v : Value) → get (wanted_by_agent h a) (Low k) ≡ Some v → get (wanted_by_agent g b) (Low k) ≡ Some v
moved_slice h g a b feed address k v e =
    let q = wanted_object h a k v e in
    object_to g b k q.0 (subst (λ (es : List (LowKey × LowValue)). Member (named k q.0) es) (λ i. slice (feed i) (address i)) q.1) ∙ ap Some (sym q.2)

pub local_slices : (h g : Holdings) (a b : Told) → h.feed ≡ g.feed → a.address ≡ b.address → (k : LowKey) → get (wanted_by_agent h a) (Low k) ≡ get (wanted_by_agent g b) (Low k)
local_slices h g a b feed address k = same_options (get (wanted_by_agent h a) (Low k)) (get (wanted_by_agent g b) (Low k))
    (moved_slice h g a b feed address k) (moved_slice g h b a (sym feed) (sym address) k)

-- ---- of agents
abbrev pub low_cmp : LowKey → LowKey → Ordering
low_cmp a b = key_cmp (Low a) (Low b)

pub low_total : IsTotalOrder low_cmp
low_total = on_total (λ (k : LowKey). numbers (Low k)) nat_list_cmp_total

pub low_exact : IsAntisymmetric low_cmp
low_exact a b e = same_Some a b (ap as_low (key_exact (Low a) (Low b) e))

pub less_is : (r : Ordering) → T (is_lt r) → r ≡ Less
less_is Less h = refl
less_is Equal h = absurd h
less_is Greater h = absurd h

over_from : (k : LowKey) (es : List (LowKey × LowValue)) → ((f : LowKey × LowValue) → Member f es → IsBefore k f.0) → Over low_cmp k es
over_from k [] h = tt
over_from k (e ∷ es) h = (less_is (low_cmp k e.0) (h e (inl refl)), over_from k es (λ f m. h f (inr m)))

ascends_from : (es : List (LowKey × LowValue)) → Rise es → Ascends low_cmp es
ascends_from [] r = tt
ascends_from (e ∷ es) r = (over_from e.0 es r.0, ascends_from es r.1)

abbrev object_map : Map → FinMap low_cmp LowValue
object_map m = map_of low_cmp (objects m)

entries-object_map : (m : Map) → entries (object_map m) ≡ objects m
entries-object_map m = entries-map_of low_cmp low_total (objects m) (ascends_from (objects m) (rise_from (entries m) (entries_sorted m)))

moved_object : (m n : Map) → ((k : LowKey) → get m (Low k) ≡ get n (Low k)) → (k : LowKey) (v : LowValue) → find low_cmp k (objects m) ≡ Some v → find low_cmp k (objects n) ≡ Some v
moved_object m n same k v e =
    let here = object_of m k v (from_find low_total low_exact k v (objects m) e) in
    let there = sym (same k) ∙ here in
    let f = found low_total (named k v) (objects n) (in_objects n k v there) in
    let is = object_of n k f.0 (from_find low_total low_exact k f.0 (objects n) f.1) in
    f.1 ∙ same_object f.0 v (sym is ∙ there)
  where
    same_object : (v w : LowValue) → Some (Object v) ≡ Some (Object w) → Some v ≡ Some w
    same_object v w e = ap as_object e

pub objects_same : (m n : Map) → ((k : LowKey) → get m (Low k) ≡ get n (Low k)) → objects m ≡ objects n
objects_same m n same =
    sym (entries-object_map m)
    ∙ ap entries (same_map low_total low_exact (object_map m) (object_map n) (λ k. get-from_entries low_total (objects m) k
    ∙ same_options (find low_cmp k (objects m)) (find low_cmp k (objects n)) (moved_object m n same k) (moved_object n m (λ j. sym (same j)) k)
    ∙ sym (get-from_entries low_total (objects n) k)))
    ∙ entries-object_map n

besides_same : (h g : agent.Holdings) → AllZip SameSlice h g → agent.besides_rows h ≡ agent.besides_rows g
besides_same [] [] z = refl
besides_same [] (t ∷ g) z = absurd z
besides_same (s ∷ h) [] z = absurd z
besides_same (s ∷ h) (t ∷ g) z = λ i. (z.0.up i, objects_same s.map t.map z.0.objects i) ∷ besides_same h g z.1 i

pub local_of_agents : (h g : agent.Holdings) → AllZip SameSlice h g → agent.wanted h ≡ agent.wanted g
local_of_agents h g z = wanted_besides h g (besides_same h g z)
