-- What is received and known, and what is subscribed.
use Rattle.std.specs.Prelude.{◌≡◌, ◌⊎◌, ◌↔◌, ℕ, zero, suc, ◌+◌, ◌*◌, ◌-◌, ◌/◌, ◌%◌, ◌<◌, ◌≤◌, List, [], ◌∷◌, ◌++◌, map, length, true, false, cond, is_some, nat_lt, ◌==◌}
use Rattle.std.specs.declared.option.Option.{Option}
use Rattle.std.specs.declared.option.Option.TheVariants.{Some, None}
use Rattle.std.specs.List.{filter_map, flat_map, list_any, enumerate_from}
use Rattle.std.specs.FinMap.{get, entries}
use Rattle.std.proofs.lemmas.Bool.{true≢false, eqb-true, eq-eqb, leb-true}
use Rattle.std.proofs.lemmas.Option.{same_Some}
use Rattle.std.proofs.Common.{refl, sym, ◌∙◌, ap, subst, inl, inr, arith}
use Rattle.ov_types.specs.Prefix.{Block}
use Rattle.ov_types.specs.declared.numbers.InstanceId.{InstanceId}
use Rattle.ov_types.specs.declared.objects.LowKey.{LowKey}
use Rattle.ov_types.specs.declared.objects.LowKey.TheVariants as key
use Rattle.ov_types.specs.declared.objects.LowValue.{LowValue}
use Rattle.ov_types.specs.declared.objects.LowValue.TheVariants as low
use Rattle.ov_types.specs.declared.targets.Target.{Target}
use Rattle.ov_types.specs.declared.vpn.VpnKey.{VpnKey}
use Rattle.ov_types.specs.declared.vpn.VpnRoute.{VpnRoute}
use Rattle.route_targets.specs.Numbers.{target_of}
use Rattle.node_model.specs.Members.{Member}
use Rattle.node_model.specs.Keys.{Key, Low, Vpn, Row, Publish, Subscribe}
use Rattle.node_model.specs.Values.{Value, Object, Route, Entry, Label}
use Rattle.node_model.specs.Maps.{Map, as_object, object, objects}
use Rattle.node_model.specs.Uses.{Use, uses, hop, is_hop, use_of, place_of, held_use, imports, is_place, is_known}
use Rattle.node_model.specs.Paths.{Holdings, Path, own_paths, peer_path, peer_paths, has_target, received}
use Rattle.node_model.specs.Reaching.{AreShort, below}
use Rattle.node_model.specs.Step.{At}
use Rattle.node_model.specs.Tables.{network_of, known_instances}
use Rattle.node_model.specs.Agent as agent
use Rattle.node_model.specs.Agent.{publication, needed_by, slice_in_use, wanted, IsNeeded}
use Rattle.node_model.proofs.Members.{none_some, in_left, in_right, in_either, in_map, from_map, in_filter, from_filter, in_filter_map, from_filter_map, in_flat_map, from_flat_map, any_in, from_any, get_member, member_get, entry_in, from_entry}
use Rattle.node_model.proofs.Orders.{key_total, key_exact}
use Rattle.node_model.proofs.Objects.{object_of, in_objects, known_hop}
use Rattle.node_model.proofs.Places.{is_hop-network, use_found}
use Rattle.node_model.proofs.Routes.{in_below, from_below, own_route_from, own_route_in}
use Rattle.node_model.proofs.Wanted.{told, named}
use Rattle.node_model.proofs.Needed.{needed_is, same_instance}
use Rattle.node_laws.specs.Received.{IsPeerRoute, HasImportedTarget, IsReceived, IsKnown, of_network, of_place, AreNetworks}
use Rattle.node_laws.specs.Labelled.{IsToldUp}

-- ---- a list with its places
module _ {X : Type 0} where
  abbrev numbered : ℕ → X → ℕ × X
  numbered n x = (n, x)

  from_enumerate : (n : ℕ) (xs : List X) (e : ℕ × X) → Member e (enumerate_from n xs) → (i : ℕ) × (i < length xs) × (e.0 ≡ n + i) × At xs i e.1
  from_enumerate n [] e m = absurd m
  from_enumerate n (x ∷ xs) e (inl is) = (zero, first (length xs), sym (ap (λ (e : ℕ × X). e.0) is) ∙ none n, λ d. ap (λ (e : ℕ × X). e.1) is)
    where
      first : (m : ℕ) → 0 < suc m
      first m = omega arith

      none : (n : ℕ) → n ≡ n + 0
      none n = omega arith
  from_enumerate n (x ∷ xs) e (inr m) =
      let q = from_enumerate (n + 1) xs e m in
      (suc q.0, more q.0 (length xs) q.1, q.2 ∙ further n q.0, λ d. q.3 d)
    where
      more : (i m : ℕ) → i < m → suc i < suc m
      more i m h = omega arith

      further : (n i : ℕ) → n + 1 + i ≡ n + suc i
      further n i = omega arith

  in_enumerate : (n : ℕ) (xs : List X) (i : ℕ) (x : X) → i < length xs → At xs i x → Member (numbered (n + i) x) (enumerate_from n xs)
  in_enumerate n [] i x h at = absurd (omega (arith, h))
  in_enumerate n (y ∷ ys) zero x h at = inl (λ j. numbered (none n j) (at y j))
    where
      none : (n : ℕ) → n ≡ n + 0
      none n = omega arith
  in_enumerate n (y ∷ ys) (suc i) x h at = inr (subst (λ (k : ℕ). Member (numbered k x) (enumerate_from (n + 1) ys)) (further n i) (in_enumerate (n + 1) ys i x (less i (length ys) h) (λ d. at d)))
    where
      further : (n i : ℕ) → n + 1 + i ≡ n + suc i
      further n i = omega arith

      less : (i m : ℕ) → suc i < suc m → i < m
      less i m h = omega arith

-- ---- the paths of peers
record PeerParts (session : ℕ) (k : Key) (v : Value) (p : Path) : Type 0 where
  key_is : k ≡ Vpn (record { rd = p.rd; prefix = p.prefix })
  value_is : v ≡ Route (record { next_hop = p.next_hop; label = p.label; targets = p.targets })
  session_is : p.session ≡ session

abbrev path_by : ℕ → VpnKey → VpnRoute → Path
path_by session k r = record { prefix = k.prefix; rd = k.rd; next_hop = r.next_hop; label = r.label; targets = r.targets; session = session }

peer_parts : (session : ℕ) (k : Key) (v : Value) (p : Path) → peer_path session k v ≡ Some p → PeerParts session k v p
peer_parts session (Vpn k) (Route r) p e =
    let s : path_by session k r ≡ p = same_Some (path_by session k r) p e in
    record {
      key_is = λ j. Vpn (record { rd = (s j).rd; prefix = (s j).prefix });
      value_is = λ j. Route (record { next_hop = (s j).next_hop; label = (s j).label; targets = (s j).targets });
      session_is = λ j. (sym s j).session;
    }
peer_parts session (Vpn k) (Object o) p e = absurd (none_some p e)
peer_parts session (Vpn k) (Entry r) p e = absurd (none_some p e)
peer_parts session (Vpn k) (Label l) p e = absurd (none_some p e)
peer_parts session (Low k) v p e = absurd (none_some p e)
peer_parts session (Row i prefix) v p e = absurd (none_some p e)
peer_parts session (Publish i prefix) v p e = absurd (none_some p e)
peer_parts session (Subscribe i) v p e = absurd (none_some p e)

abbrev told_by : ℕ × Map → List Path
told_by p = filter_map (λ e. peer_path p.0 e.0 e.1) (entries p.1)

pub peer_route_from : (h : Holdings) (p : Path) → Member p (peer_paths h) → IsPeerRoute h p
peer_route_from h p m =
    let q = from_flat_map told_by p (enumerate_from 1 h.peers) m in
    let at = from_enumerate 1 h.peers q.0 q.1 in
    let e = from_filter_map (λ (e : Key × Value). peer_path q.0.0 e.0 e.1) p (entries q.0.1) q.2 in
    let parts = peer_parts q.0.0 e.0.0 e.0.1 p e.2 in
    record {
      place = at.0;
      told = q.0.1;
      within = at.1;
      at = at.3;
      route = ap (get q.0.1) (sym parts.key_is) ∙ get_member key_total q.0.1 e.0.0 e.0.1 e.1 ∙ ap Some parts.value_is;
      session = parts.session_is ∙ at.2;
    }

pub peer_route_in : (h : Holdings) (p : Path) → IsPeerRoute h p → Member p (peer_paths h)
peer_route_in h p r =
    let k : VpnKey = record { rd = p.rd; prefix = p.prefix } in
    let v : VpnRoute = record { next_hop = p.next_hop; label = p.label; targets = p.targets } in
    let is : path_by (1 + r.place) k v ≡ p = λ j. record { prefix = p.prefix; rd = p.rd; next_hop = p.next_hop; label = p.label; targets = p.targets; session = sym r.session j } in
    in_flat_map told_by (numbered (1 + r.place) r.told) p (enumerate_from 1 h.peers) (in_enumerate 1 h.peers r.place r.told r.within r.at)
    (in_filter_map (λ (e : Key × Value). peer_path (1 + r.place) e.0 e.1) (told (Vpn k) (Route v)) p (entries r.told) (member_get key_total key_exact r.told (Vpn k) (Route v) r.route) (ap Some is))

-- ---- received paths
same_target : (t u : Target) → (t.0 == u.0) ≡ true → t ≡ u
same_target t u e = λ j. record { 0 = eqb-true t.0 u.0 e j }

module _ (h : Holdings) (i : InstanceId) where
  abbrev asked : List Target
  asked = map (target_of h.asn) (imports h.feed i)

  target_from : (p : Path) → has_target asked p ≡ true → HasImportedTarget h i p
  target_from p e =
      let q = from_any (λ (t : Target). list_any (λ (u : Target). t.0 == u.0) asked) p.targets e in
      let r = from_any (λ (u : Target). q.0.0 == u.0) asked q.2 in
      let n = from_map (target_of h.asn) r.0 (imports h.feed i) r.1 in
      record { imported = n.0; imports_it = n.1; has_target = subst (λ (t : Target). Member t p.targets) (same_target q.0 r.0 r.2 ∙ sym n.2) q.1 }

  target_to : (p : Path) → HasImportedTarget h i p → has_target asked p ≡ true
  target_to p t =
      let wanted : Target = target_of h.asn t.imported in
      any_in (λ (x : Target). list_any (λ (u : Target). x.0 == u.0) asked) wanted p.targets t.has_target
      (any_in (λ (u : Target). wanted.0 == u.0) wanted asked (in_map (target_of h.asn) t.imported (imports h.feed i) t.imports_it) (eq-eqb wanted.0 wanted.0 refl))

  pub received_is : (p : Path) → Member p (received h i) ↔ IsReceived h i p
  received_is p = (
    (λ m.
        let f = from_filter (has_target asked) p (own_paths h ++ peer_paths h) m in
        (elim (in_either p (own_paths h) (peer_paths h) f.0) [ inl o ↦ inl (own_route_from h p o) | inr r ↦ inr (peer_route_from h p r) ], target_from p f.1)),
    (λ r. in_filter (has_target asked) p (own_paths h ++ peer_paths h)
        (elim r.0 [ inl o ↦ in_left p (own_paths h) (peer_paths h) (own_route_in h p o) | inr s ↦ in_right p (own_paths h) (peer_paths h) (peer_route_in h p s) ])
        (target_to p r.1)),
  )

-- ---- known instances
pub network_is : (k : LowKey) (i : InstanceId) → network_of k ≡ Some i → k ≡ key.Instance i.0
network_is (key.Instance n) i e = ap (λ (x : InstanceId). key.Instance x.0) (same_Some (record { 0 = n }) i e)
network_is (key.Attach label) i e = absurd (none_some i e)
network_is (key.Acl from to) i e = absurd (none_some i e)
network_is (key.ChainUse n) i e = absurd (none_some i e)

pub held_object : (o : Option Value) (v : LowValue) → as_object o ≡ Some v → o ≡ Some (Object v)
held_object (Some (Object w)) v e = ap (λ (x : LowValue). Some (Object x)) (same_Some w v e)
held_object (Some (Route r)) v e = absurd (none_some v e)
held_object (Some (Entry r)) v e = absurd (none_some v e)
held_object (Some (Label l)) v e = absurd (none_some v e)
held_object None v e = absurd (none_some v e)

abbrev pub places : Use → List ℕ
places u = below u.services ++ u.services ∷ []

pub places_within : (u : Use) (j : ℕ) → Member j (places u) → j ≤ u.services
places_within u j m =
    elim (in_either j (below u.services) (u.services ∷ []) m) as (λ _. j ≤ u.services) [
      | inl l ↦ under j u.services (from_below u.services j l)
      | inr r ↦ elim r as (λ _. j ≤ u.services) [ inl e ↦ last j u.services e | inr n ↦ absurd n ]
    ]
  where
    under : (j n : ℕ) → j < n → j ≤ n
    under j n h = omega arith

    last : (j n : ℕ) → n ≡ j → j ≤ n
    last j n e = omega arith

in_places : (u : Use) (j : ℕ) → j ≤ u.services → Member j (places u)
in_places u j h =
    elim (split j u.services h) as (λ _. Member j (places u)) [
      | inl l ↦ in_left j (below u.services) (u.services ∷ []) (in_below u.services j l)
      | inr e ↦ in_right j (below u.services) (u.services ∷ []) (inl (sym e))
    ]
  where
    split : (j n : ℕ) → j ≤ n → (j < n) ⊎ (j ≡ n)
    split j n h = grind arith

abbrev pub networks : Map → List InstanceId
networks feed = filter_map (λ e. network_of e.0) (objects feed)

abbrev pub hops : Map → List InstanceId
hops feed = flat_map (λ u. map (hop u) (places u)) (uses feed)

pub known_from : (feed : Map) (i : InstanceId) → Member i (known_instances feed) → IsKnown feed i
known_from feed i m =
    elim (in_either i (networks feed) (hops feed) m) as (λ _. IsKnown feed i) [
      | inl l ↦
          let q = from_filter_map (λ (e : LowKey × LowValue). network_of e.0) i (objects feed) l in
          of_network q.0.1 (ap as_object (object_of feed (key.Instance i.0) q.0.1 (subst (λ (k : LowKey). Member (named k q.0.1) (objects feed)) (network_is q.0.0 i q.2) q.1)))
      | inr r ↦
          let q = from_flat_map (λ (u : Use). map (hop u) (places u)) i (uses feed) r in
          let j = from_map (hop q.0) i (places q.0) q.2 in
          of_place q.0 j.0 q.1 (places_within q.0 j.0 j.1) (sym j.2)
    ]

pub known_in : (feed : Map) (i : InstanceId) → IsKnown feed i → Member i (known_instances feed)
known_in feed i (of_network v e) =
    in_left i (networks feed) (hops feed)
    (in_filter_map (λ (e : LowKey × LowValue). network_of e.0) (named (key.Instance i.0) v) i (objects feed) (in_objects feed (key.Instance i.0) v (held_object (get feed (Low (key.Instance i.0))) v e)) refl)
known_in feed i (of_place u j m h e) =
    in_right i (networks feed) (hops feed)
    (in_flat_map (λ (u : Use). map (hop u) (places u)) u i (uses feed) m (subst (λ (x : InstanceId). Member x (map (hop u) (places u))) (sym e) (in_map (hop u) j (places u) (in_places u j h))))

module _ (feed : Map) where
  tested_from : (i : InstanceId) → is_known feed i ≡ true → IsKnown feed i
  tested_from i known =
      elim (is_hop i) as (λ b. is_hop i ≡ b → cond b (is_place (place_of i) (held_use feed i)) (is_some (object feed (key.Instance i.0))) ≡ true → IsKnown feed i) [
        | true ↦ λ e k. at_place e (held_use feed i) refl k
        | false ↦ λ e k. at_network (object feed (key.Instance i.0)) refl k
      ] refl known
    where
      at_network : (o : Option LowValue) → object feed (key.Instance i.0) ≡ o → is_some o ≡ true → IsKnown feed i
      at_network (Some v) e t = of_network v e
      at_network None e t = absurd (true≢false (sym t))

      number : (i u j : ℕ) → nat_lt 16383 i ≡ true → u ≡ (i - 16384) / 16 → j ≡ (i - 16384) % 16 → i ≡ 16384 + 16 * u + j
      number i u j e f g = grind arith

      at_place : is_hop i ≡ true → (o : Option Use) → held_use feed i ≡ o → is_place (place_of i) o ≡ true → IsKnown feed i
      at_place e None is t = absurd (true≢false (sym t))
      at_place e (Some u) is t =
          let f = use_found feed (use_of i) u is in
          of_place u (place_of i) f.0 (leb-true (place_of i) u.services t) (λ x. record { 0 = number i.0 u.number (place_of i) e f.1 refl x })

  tested_to : AreNetworks feed → AreShort feed → (i : InstanceId) → IsKnown feed i → is_known feed i ≡ true
  tested_to networks short i (of_network v e) =
      ap (λ b. cond b (is_place (place_of i) (held_use feed i)) (is_some (object feed (key.Instance i.0)))) (is_hop-network i (networks i.0 v e))
      ∙ ap is_some e
  tested_to networks short i (of_place u j m h e) = ap (is_known feed) e ∙ known_hop feed u j m (le j u.services h (short u m)) h
    where
      le : (j n : ℕ) → j ≤ n → n ≤ 15 → j ≤ 15
      le j n a b = omega arith

  pub known_tested : AreNetworks feed → AreShort feed → (i : InstanceId) → (is_known feed i ≡ true) ↔ IsKnown feed i
  known_tested networks short i = (tested_from i, tested_to networks short i)

-- ---- what agents tell
abbrev subscription : InstanceId → Key × Value
subscription i = (Subscribe i, Label (record { 0 = 0 }))

as_subscribed : Key → Option InstanceId
as_subscribed (Subscribe i) = Some i
as_subscribed (Low k) = None
as_subscribed (Vpn k) = None
as_subscribed (Row i p) = None
as_subscribed (Publish i p) = None

abbrev published : List (LowKey × LowValue) → List (Key × Value)
published slice = flat_map (λ e. publication e.0 e.1) slice

-- the key of a publication
publishes_key : (k : LowKey) (v : LowValue) (e : Key × Value) → Member e (publication k v) → (i : InstanceId) × (prefix : Block) × (e.0 ≡ Publish i prefix)
publishes_key (key.Attach label) (low.AttachPort port instance address node) e (inl is) = (_, _, ap (λ (x : Key × Value). x.0) (sym is))
publishes_key (key.Attach label) (low.AttachCircuit circuit service node) e (inl is) = (_, _, ap (λ (x : Key × Value). x.0) (sym is))
publishes_key (key.Attach label) (low.AttachPort port instance address node) e (inr m) = absurd m
publishes_key (key.Attach label) (low.AttachCircuit circuit service node) e (inr m) = absurd m
publishes_key (key.Attach label) (low.Instance is) e m = absurd m
publishes_key (key.Attach label) (low.Acl subnets rules) e m = absurd m
publishes_key (key.Attach label) (low.ChainUse left right ls rs hops) e m = absurd m
publishes_key (key.Instance n) v e m = absurd m
publishes_key (key.Acl from to) v e m = absurd m
publishes_key (key.ChainUse n) v e m = absurd m

module _ (slice : List (LowKey × LowValue)) where
  abbrev told_entries : List (Key × Value)
  told_entries = published slice ++ map subscription (needed_by slice)

  -- an entry is a publication, or the subscription of an instance that is needed
  entry_is : (e : Key × Value) → Member e told_entries → ((i : InstanceId) × (prefix : Block) × (e.0 ≡ Publish i prefix)) ⊎ ((i : InstanceId) × Member i (needed_by slice) × (subscription i ≡ e))
  entry_is e m = elim (in_either e (published slice) (map subscription (needed_by slice)) m) [
    | inl l ↦ let q = from_flat_map (λ (x : LowKey × LowValue). publication x.0 x.1) e slice l in inl (publishes_key q.0.0 q.0.1 e q.2)
    | inr r ↦ inr (from_map subscription e (needed_by slice) r)
  ]

needed_member : (h : agent.Holdings) (i : InstanceId) → IsNeeded (slice_in_use h) i → Member i (needed_by (slice_in_use h))
needed_member h i n =
    let q = from_any (λ (x : InstanceId). x.0 == i.0) (needed_by (slice_in_use h)) ((needed_is h i).1 n) in
    subst (λ (x : InstanceId). Member x (needed_by (slice_in_use h))) (same_instance q.0 i q.2) q.1

member_needed : (h : agent.Holdings) (i : InstanceId) → Member i (needed_by (slice_in_use h)) → IsNeeded (slice_in_use h) i
member_needed h i m = (needed_is h i).0 (any_in (λ (x : InstanceId). x.0 == i.0) i (needed_by (slice_in_use h)) m (eq-eqb i.0 i.0 refl))

-- what is wanted at a subscription
subscribed_parts : (slice : List (LowKey × LowValue)) (i : InstanceId) (v : Value) → Member (told (Subscribe i) v) (told_entries slice) → Member i (needed_by slice) × (v ≡ Label (record { 0 = 0 }))
unfolding as_subscribed
subscribed_parts slice i v m = elim (entry_is slice (told (Subscribe i) v) m) as (λ _. Member i (needed_by slice) × (v ≡ Label (record { 0 = 0 }))) [
  | inl p ↦ absurd (none_some i (sym (ap as_subscribed p.2)))
  | inr q ↦ (
    subst (λ (x : InstanceId). Member x (needed_by slice)) (same_Some q.0 i (ap (λ (e : Key × Value). as_subscribed e.0) q.2)) q.1,
    sym (ap (λ (e : Key × Value). e.1) q.2),
  )
]

pub subscribed_is : (h : agent.Holdings) (i : InstanceId) → (get (wanted h) (Subscribe i) ≡ Some (Label (record { 0 = 0 }))) ↔ IsNeeded (slice_in_use h) i
subscribed_is h i = (
  (λ e. member_needed h i (subscribed_parts (slice_in_use h) i (Label (record { 0 = 0 })) (from_entry key_total key_exact (Subscribe i) (Label (record { 0 = 0 })) (told_entries (slice_in_use h)) e)).0),
  (λ n.
      let f = entry_in key_total (subscription i) (told_entries (slice_in_use h)) (in_right (subscription i) (published (slice_in_use h)) (map subscription (needed_by (slice_in_use h))) (in_map subscription i (needed_by (slice_in_use h)) (needed_member h i n))) in
      f.1 ∙ ap Some (subscribed_parts (slice_in_use h) i f.0 (from_entry key_total key_exact (Subscribe i) f.0 (told_entries (slice_in_use h)) f.1)).1),
)

pub told_up : (h : agent.Holdings) (k : Key) (v : Value) → get (wanted h) k ≡ Some v → IsToldUp (slice_in_use h) k
told_up h k v e = elim (entry_is (slice_in_use h) (told k v) (from_entry key_total key_exact k v (told_entries (slice_in_use h)) e)) [
  | inl p ↦ inl p
  | inr q ↦ inr (q.0, sym (ap (λ (e : Key × Value). e.0) q.2), member_needed h q.0 q.1)
]
