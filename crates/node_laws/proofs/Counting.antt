-- Which of several paths with one key counts.
use Rattle.std.specs.Prelude.{◌≡◌, ◌↔◌, ℕ, suc, ◌+◌, ◌*◌, ◌-◌, ◌<◌, ◌≤◌, List, [], ◌∷◌, ◌++◌, map, Bool, true, false, cond}
use Rattle.std.specs.declared.option.Option.{Option}
use Rattle.std.specs.declared.option.Option.TheVariants.{Some, None}
use Rattle.std.specs.Ordering.{eq_by_cmp}
use Rattle.std.specs.List.{filter_map, flat_map}
use Rattle.std.specs.FinMap.{find, get, entries, get-from_entries}
use Rattle.std.proofs.lemmas.Bool.{true≢false}
use Rattle.std.proofs.lemmas.Option.{same_Some}
use Rattle.std.proofs.Common.{refl, sym, ◌∙◌, ap, subst, inl, inr, arith}
use Rattle.ov_types.specs.Prefix.{Block}
use Rattle.ov_types.specs.declared.numbers.InstanceId.{InstanceId}
use Rattle.ov_types.specs.declared.numbers.Label.{Label as LabelNo}
use Rattle.ov_types.specs.declared.numbers.Rd.{Rd}
use Rattle.ov_types.specs.declared.prefix.Addr.{Addr}
use Rattle.ov_types.specs.declared.vpn.VpnKey.{VpnKey}
use Rattle.ov_types.specs.declared.vpn.VpnRoute.{VpnRoute}
use Rattle.route_targets.specs.Numbers.{target_of, distinguisher_of}
use Rattle.node_model.specs.Members.{Member}
use Rattle.node_model.specs.Keys.{Key, Vpn, Publish, key_cmp}
use Rattle.node_model.specs.Values.{Value, Object, Route, Entry, Label}
use Rattle.node_model.specs.Uses.{Use, uses}
use Rattle.node_model.specs.Paths.{Holdings, Told, Path, own_path, own_paths, IsOwnRoute}
use Rattle.node_model.specs.Reaching.{Side, sides, sides_of, subnets, hop_at, circuit_at, publisher, is_up, towards, below, into, reoriginated_paths, IsReoriginated}
use Rattle.node_model.specs.Ranks.{instance_in}
use Rattle.node_model.specs.Wants.{route_entry, wanted_by_peers}
use Rattle.node_model.specs.Agent.{first_some}
use Rattle.node_model.proofs.Members.{none_some, in_left, in_right, in_either, in_map, from_map, in_flat_map, from_flat_map, member_when, found, from_find, from_entry}
use Rattle.node_model.proofs.Orders.{key_total, key_exact}
use Rattle.node_model.proofs.Objects.{same_use, side_use, in_sides}
use Rattle.node_model.proofs.Places.{instance_in-distinguisher}
use Rattle.node_model.proofs.Unknown.{place_at, place_at-within, le_trans}
use Rattle.node_model.proofs.Routes.{in_below, from_below, own_route_from, own_route_in}
use Rattle.node_model.proofs.Wanted.{told, as_route}
use Rattle.node_model.proofs.Local.{as_vpn}
use Rattle.node_model.proofs.Locality.{vpn_key, vpn_route}
use Rattle.node_laws.specs.Counts.{AreListed, AreNumbered, HasKey, HasRoute, HasNoOwn, LeadsRight, Counts, as_own, as_right, as_left, IsCounted}

-- ---- the first path of a key
abbrev first_of : VpnKey → List Path → Option Value
first_of k ps = find key_cmp (Vpn k) (map route_entry ps)

first_either : (k : VpnKey) (ps qs : List Path) → first_of k (ps ++ qs) ≡ first_some (first_of k ps) (first_of k qs)
first_either k [] qs = refl
first_either k (p ∷ ps) qs =
    elim (eq_by_cmp key_cmp (Vpn k) (route_entry p).0) as (λ b. cond b (Some (route_entry p).1) (first_of k (ps ++ qs)) ≡ first_some (cond b (Some (route_entry p).1) (first_of k ps)) (first_of k qs)) [
      | true ↦ refl
      | false ↦ first_either k ps qs
    ]

-- a path that is the first of its key in a list
record First (k : VpnKey) (ps : List Path) (v : Value) : Type 0 where
  path : Path
  member : Member path ps
  key_is : HasKey k path
  value_is : Route (vpn_route path) ≡ v

first_from : (k : VpnKey) (ps : List Path) (v : Value) → first_of k ps ≡ Some v → First k ps v
unfolding as_vpn
first_from k ps v e =
    let q = from_map route_entry (told (Vpn k) v) ps (from_find key_total key_exact (Vpn k) v (map route_entry ps) e) in
    record { path = q.0; member = q.1; key_is = same_Some (vpn_key q.0) k (ap (λ (e : Key × Value). as_vpn e.0) q.2); value_is = ap (λ (e : Key × Value). e.1) q.2 }

first_found : (k : VpnKey) (ps : List Path) (p : Path) → Member p ps → HasKey k p → (v : Value) × (first_of k ps ≡ Some v)
first_found k ps p m e =
    let f = found key_total (route_entry p) (map route_entry ps) (in_map route_entry p ps m) in
    (f.0, ap (λ (k : VpnKey). first_of k ps) (sym e) ∙ f.1)

none_found : (k : VpnKey) (ps : List Path) (p : Path) → first_of k ps ≡ None → Member p ps → HasKey k p → ⊥
none_found k ps p none m e = let f = first_found k ps p m e in none_some f.0 (sym none ∙ f.1)

-- ---- own routes
module _ (h : Holdings) where
  abbrev by_agent : Told → List Path
  by_agent a = filter_map (λ e. own_path h a e.0 e.1) (entries a.map)

  abbrev alone : Told → Holdings
  alone a = record { asn = h.asn; feed = h.feed; peers = h.peers; agents = a ∷ [] }

  own_of_agent : (a : Told) (p : Path) → Member p (by_agent a) → (o : IsOwnRoute (alone a) p) × (p.session ≡ a.session)
  own_of_agent a p m =
      let o = own_route_from (alone a) p (in_left p (by_agent a) [] m) in
      (o, o.session ∙ (elim o.told as (λ _. o.agent.session ≡ a.session) [ inl e ↦ ap (λ (a : Told). a.session) (sym e) | inr none ↦ absurd none ]))

  by_agent_in : (p : Path) (o : IsOwnRoute h p) → Member p (by_agent o.agent)
  by_agent_in p o =
      let m = own_route_in (alone o.agent) p (record { agent = o.agent; instance = o.instance; told = inl refl; publishes = o.publishes; known = o.known; rd = o.rd; next_hop = o.next_hop; targets = o.targets; session = o.session }) in
      elim (in_either p (by_agent o.agent) [] m) as (λ _. Member p (by_agent o.agent)) [ inl l ↦ l | inr none ↦ absurd none ]

  -- the first of a key is of the lowest session
  record Lowest (k : VpnKey) (agents : List Told) (v : Value) : Type 0 where
    first : First k (flat_map by_agent agents) v
    lowest : (b : Told) (q : Path) → Member b agents → Member q (by_agent b) → HasKey k q → first.path.session ≤ q.session

  below_or_same : (m n p q : ℕ) → p ≡ m → q ≡ n → m < n → p ≤ q
  below_or_same m n p q e f h = omega arith

  same_session : (m p q : ℕ) → p ≡ m → q ≡ m → p ≤ q
  same_session m p q e f = omega arith

  lowest_of : (k : VpnKey) (agents : List Told) (v : Value) → AreListed agents → first_of k (flat_map by_agent agents) ≡ Some v → Lowest k agents v
  lowest_of k [] v listed e = absurd (none_some v e)
  lowest_of k (a ∷ agents) v listed e = by_head (first_of k (by_agent a)) refl (sym (first_either k (by_agent a) (flat_map by_agent agents)) ∙ e) (lowest_of k agents v listed.1)
    where
      by_head : (o : Option Value) → first_of k (by_agent a) ≡ o → first_some o (first_of k (flat_map by_agent agents)) ≡ Some v → (first_of k (flat_map by_agent agents) ≡ Some v → Lowest k agents v) → Lowest k (a ∷ agents) v
      by_head (Some w) is e rest =
          let f = first_from k (by_agent a) v (is ∙ e) in
          record {
            first = record { path = f.path; member = in_left f.path (by_agent a) (flat_map by_agent agents) f.member; key_is = f.key_is; value_is = f.value_is };
            lowest = λ b q m n _. elim m as (λ _. f.path.session ≤ q.session) [
              | inl same ↦ same_session a.session f.path.session q.session (own_of_agent a f.path f.member).1 ((own_of_agent b q n).1 ∙ ap (λ (a : Told). a.session) (sym same))
              | inr m ↦ below_or_same a.session b.session f.path.session q.session (own_of_agent a f.path f.member).1 (own_of_agent b q n).1 (listed.0 b m)
            ];
          }
      by_head None is e rest =
          let l = rest e in
          record {
            first = record { path = l.first.path; member = in_right l.first.path (by_agent a) (flat_map by_agent agents) l.first.member; key_is = l.first.key_is; value_is = l.first.value_is };
            lowest = λ b q m n key. elim m as (λ _. l.first.path.session ≤ q.session) [
              | inl same ↦ absurd (none_found k (by_agent a) q is (subst (λ (b : Told). Member q (by_agent b)) (sym same) n) key)
              | inr m ↦ l.lowest b q m n key
            ];
          }

-- agents of one session are one
one_agent : (agents : List Told) → AreListed agents → (a b : Told) → Member a agents → Member b agents → a.session ≡ b.session → a ≡ b
one_agent [] listed a b m n e = absurd m
one_agent (c ∷ cs) listed a b (inl x) (inl y) e = sym x ∙ y
one_agent (c ∷ cs) listed a b (inl x) (inr n) e = absurd (not_below c.session b.session (listed.0 b n) (ap (λ (t : Told). t.session) x ∙ e))
  where
    not_below : (m n : ℕ) → m < n → m ≡ n → ⊥
    not_below m n h e = omega arith
one_agent (c ∷ cs) listed a b (inr m) (inl y) e = absurd (not_below c.session a.session (listed.0 a m) (ap (λ (t : Told). t.session) y ∙ sym e))
  where
    not_below : (m n : ℕ) → m < n → m ≡ n → ⊥
    not_below m n h e = omega arith
one_agent (c ∷ cs) listed a b (inr m) (inr n) e = one_agent cs listed.1 a b m n e

label_number : Option Value → Option LabelNo
label_number (Some (Label l)) = Some l
label_number (Some (Object v)) = None
label_number (Some (Route r)) = None
label_number (Some (Entry r)) = None
label_number None = None

same_instance_there : (address : Addr) (i j : InstanceId) → distinguisher_of address i ≡ distinguisher_of address j → i ≡ j
same_instance_there address i j e = λ k. record { 0 = number address.0 i.0 j.0 (ap (λ (r : Rd). r.0) e) k }
  where
    number : (a i j : ℕ) → 281474976710656 + a * 65536 + i ≡ 281474976710656 + a * 65536 + j → i ≡ j
    number a i j e = omega arith

-- own routes of one key and one session are told alike
own_alike : (h : Holdings) → AreListed h.agents → (p q : Path) (o : IsOwnRoute h p) (r : IsOwnRoute h q) → vpn_key p ≡ vpn_key q → p.session ≡ q.session → vpn_route p ≡ vpn_route q
unfolding label_number
own_alike h listed p q o r key same =
    let agents : o.agent ≡ r.agent = one_agent h.agents listed o.agent r.agent o.told r.told (sym o.session ∙ same ∙ r.session) in
    let instances : o.instance ≡ r.instance = same_instance_there r.agent.address o.instance r.instance
    (ap (λ (a : Told). distinguisher_of a.address o.instance) (sym agents) ∙ sym o.rd ∙ ap (λ (k : VpnKey). k.rd) key ∙ r.rd) in
    let labels : p.label ≡ q.label = same_Some p.label q.label (ap label_number (sym o.publishes ∙ (λ i. get (agents i).map (Publish (instances i) (key i).prefix)) ∙ r.publishes)) in
    let hops : p.next_hop ≡ q.next_hop = o.next_hop ∙ ap (λ (a : Told). a.address) agents ∙ sym r.next_hop in
    let targets : p.targets ≡ q.targets = o.targets ∙ ap (λ (i : InstanceId). target_of h.asn i ∷ []) instances ∙ sym r.targets in
    λ i. record { next_hop = hops i; label = labels i; targets = targets i }

-- ---- re-originated routes
module _ (h : Holdings) where
  abbrev of_side : Side → List Path
  of_side s = flat_map (into (is_up h) h s) (below s.chain.services)

  abbrev led : InstanceId → Block → Addr × LabelNo → Path
  led i subnet by = record { prefix = subnet; rd = distinguisher_of by.0 i; next_hop = by.0; label = by.1; targets = target_of h.asn i ∷ []; session = 65535 }

  from_towards : (i : InstanceId) (subnet : Block) (o : Option (Addr × LabelNo)) (p : Path) → Member p (towards h i subnet o) → (by : Addr × LabelNo) × (o ≡ Some by) × (led i subnet by ≡ p)
  from_towards i subnet None p m = absurd m
  from_towards i subnet (Some by) p (inl e) = (by, refl, e)
  from_towards i subnet (Some by) p (inr m) = absurd m

  abbrev led_on : Side → ℕ → Block → List Path
  led_on s d subnet = cond (is_up h s subnet d) (towards h (hop_at s (suc d)) subnet (publisher h (circuit_at s (suc d)))) []

  abbrev OfSide : Side → Path → Type 0
  OfSide s p = (o : IsReoriginated h p) × (o.side ≡ s)

  from_side : (s : Side) → Member s (sides h.feed) → (p : Path) → Member p (of_side s) → OfSide s p
  from_side s held p m =
      let r = from_flat_map (into (is_up h) h s) p (below s.chain.services) m in
      let d : ℕ = r.0 in
      let i : InstanceId = hop_at s (suc d) in
      let t = from_flat_map (led_on s d) p (subnets s) r.2 in
      let w = member_when (is_up h s t.0 d) p (towards h i t.0 (publisher h (circuit_at s (suc d)))) t.2 in
      let by = from_towards i t.0 (publisher h (circuit_at s (suc d))) p w.1 in
      let is : led i t.0 by.0 ≡ p = by.2 in (
        record {
          side = s;
          depth = d;
          held = held;
          within = from_below s.chain.services d r.1;
          subnet = subst (λ (b : Block). Member b (subnets s)) (λ j. (is j).prefix) t.1;
          up = ap (λ (b : Block). is_up h s b d) (λ j. (sym is j).prefix) ∙ w.0;
          published = by.1 ∙ (λ j. Some ((is j).next_hop, (is j).label));
          rd = (λ j. (sym is j).rd) ∙ ap (λ (x : Addr). distinguisher_of x (hop_at s (suc d))) (λ j. (is j).next_hop);
          targets = λ j. (sym is j).targets;
          session = λ j. (sym is j).session;
        },
        refl,
      )

  in_when : {X : Type 0} (b : Bool) (x : X) (xs : List X) → b ≡ true → Member x xs → Member x (cond b xs [])
  in_when true x xs e m = m
  in_when false x xs e m = absurd (true≢false (sym e))

  in_side : (p : Path) (o : IsReoriginated h p) → Member p (of_side o.side)
  in_side p o =
      let s : Side = o.side in
      let d : ℕ = o.depth in
      let i : InstanceId = hop_at s (suc d) in
      let is : led i p.prefix (p.next_hop, p.label) ≡ p = λ j. record { prefix = p.prefix; rd = sym o.rd j; next_hop = p.next_hop; label = p.label; targets = sym o.targets j; session = sym o.session j } in
      in_flat_map (into (is_up h) h s) d p (below s.chain.services) (in_below s.chain.services d o.within)
      (in_flat_map (led_on s d) p.prefix p (subnets s) o.subnet
      (in_when (is_up h s p.prefix d) p (towards h i p.prefix (publisher h (circuit_at s (suc d)))) o.up
      (subst (λ (x : Option (Addr × LabelNo)). Member p (towards h i p.prefix x)) (sym o.published) (inl is))))

  abbrev right_of : Use → Side
  right_of u = record { chain = u; is_right = true }

  abbrev left_of : Use → Side
  left_of u = record { chain = u; is_right = false }

  -- the first of a key is of the right side of a use, or of its left side and then of none of its right side
  data Sided (k : VpnKey) (v : Value) (us : List Use) : Type 0 where
    on_right : (u : Use) → Member u us → First k (of_side (right_of u)) v → Sided k v us
    on_left : (u : Use) → Member u us → First k (of_side (left_of u)) v → first_of k (of_side (right_of u)) ≡ None → Sided k v us

  further : (k : VpnKey) (v : Value) (u : Use) (us : List Use) → Sided k v us → Sided k v (u ∷ us)
  further k v u us (on_right w m f) = on_right w (inr m) f
  further k v u us (on_left w m f n) = on_left w (inr m) f n

  abbrev of_uses : List Use → List Path
  of_uses us = flat_map of_side (flat_map sides_of us)

  sided_of : (k : VpnKey) (v : Value) (us : List Use) → first_of k (of_uses us) ≡ Some v → Sided k v us
  sided_of k v [] e = absurd (none_some v e)
  sided_of k v (u ∷ us) e = by_right (first_of k (of_side (right_of u))) refl (sym (first_either k (of_side (right_of u)) (of_side (left_of u) ++ of_uses us)) ∙ e) (sided_of k v us)
    where
      by_left : first_of k (of_side (right_of u)) ≡ None → (o : Option Value) → first_of k (of_side (left_of u)) ≡ o → first_some o (first_of k (of_uses us)) ≡ Some v → (first_of k (of_uses us) ≡ Some v → Sided k v us) → Sided k v (u ∷ us)
      by_left none (Some w) is e rest = on_left u (inl refl) (first_from k (of_side (left_of u)) v (is ∙ e)) none
      by_left none None is e rest = further k v u us (rest e)

      by_right : (o : Option Value) → first_of k (of_side (right_of u)) ≡ o → first_some o (first_of k (of_side (left_of u) ++ of_uses us)) ≡ Some v → (first_of k (of_uses us) ≡ Some v → Sided k v us) → Sided k v (u ∷ us)
      by_right (Some w) is e rest = on_right u (inl refl) (first_from k (of_side (right_of u)) v (is ∙ e))
      by_right None is e rest = by_left is (first_of k (of_side (left_of u))) refl (sym (first_either k (of_side (left_of u)) (of_uses us)) ∙ e) rest

  -- ---- places are told apart
  module _ (numbered : AreNumbered h.feed) where
    place_under : (d n : ℕ) → d < n → suc d ≤ n
    place_under d n h = omega arith

    place_bound : (p : Path) (o : IsReoriginated h p) → place_at o.side (suc o.depth) ≤ 15
    place_bound p o =
        le_trans (place_at o.side (suc o.depth)) o.side.chain.services 15
        (place_at-within o.side (suc o.depth) (place_under o.depth o.side.chain.services o.within))
        (numbered.short o.side.chain (side_use h.feed o.side o.held))

    number_bound : (p : Path) (o : IsReoriginated h p) → o.side.chain.number ≤ 3071
    number_bound p o = numbered.numbers o.side.chain (side_use h.feed o.side o.held)

    small : (u j : ℕ) → u ≤ 3071 → j ≤ 15 → 16384 + 16 * u + j < 65536
    small u j a b = omega arith

    instance_is : (p : Path) (o : IsReoriginated h p) → instance_in p.rd ≡ hop_at o.side (suc o.depth)
    instance_is p o = ap instance_in o.rd ∙ instance_in-distinguisher p.next_hop (hop_at o.side (suc o.depth)) (small o.side.chain.number (place_at o.side (suc o.depth)) (number_bound p o) (place_bound p o))

    same_number : (u w j l : ℕ) → j ≤ 15 → l ≤ 15 → 16384 + 16 * u + j ≡ 16384 + 16 * w + l → u ≡ w
    same_number u w j l a b e = omega arith

    same_place : (u w j l : ℕ) → j ≤ 15 → l ≤ 15 → 16384 + 16 * u + j ≡ 16384 + 16 * w + l → j ≡ l
    same_place u w j l a b e = omega arith

    record OnePlace (p q : Path) (o : IsReoriginated h p) (r : IsReoriginated h q) : Type 0 where
      chains : o.side.chain ≡ r.side.chain
      places : place_at o.side (suc o.depth) ≡ place_at r.side (suc r.depth)

    one_place : (p q : Path) (o : IsReoriginated h p) (r : IsReoriginated h q) → vpn_key p ≡ vpn_key q → OnePlace p q o r
    one_place p q o r key =
        let at : (hop_at o.side (suc o.depth)).0 ≡ (hop_at r.side (suc r.depth)).0 = ap (λ (i : InstanceId). i.0) (sym (instance_is p o) ∙ ap (λ (k : VpnKey). instance_in k.rd) key ∙ instance_is q r) in
        record {
          chains = same_use h.feed o.side.chain r.side.chain (side_use h.feed o.side o.held) (side_use h.feed r.side r.held)
              (same_number o.side.chain.number r.side.chain.number (place_at o.side (suc o.depth)) (place_at r.side (suc r.depth)) (place_bound p o) (place_bound q r) at);
          places = same_place o.side.chain.number r.side.chain.number (place_at o.side (suc o.depth)) (place_at r.side (suc r.depth)) (place_bound p o) (place_bound q r) at;
        }

    from_right : (n m d e : ℕ) → d < n → e < m → n ≡ m → n - suc d ≡ m - suc e → d ≡ e
    from_right n m d e a b s t = omega arith

    from_left : (d e : ℕ) → suc d ≡ suc e → d ≡ e
    from_left d e s = omega arith

    one_depth : (p q : Path) (o : IsReoriginated h p) (r : IsReoriginated h q) → OnePlace p q o r → (b : Bool) → o.side.is_right ≡ b → r.side.is_right ≡ b → o.depth ≡ r.depth
    one_depth p q o r one true e f =
        from_right o.side.chain.services r.side.chain.services o.depth r.depth o.within r.within (ap (λ (u : Use). u.services) one.chains)
        (sym (ap (λ b. cond b (o.side.chain.services - suc o.depth) (suc o.depth)) e) ∙ one.places ∙ ap (λ b. cond b (r.side.chain.services - suc r.depth) (suc r.depth)) f)
    one_depth p q o r one false e f =
        from_left o.depth r.depth
        (sym (ap (λ b. cond b (o.side.chain.services - suc o.depth) (suc o.depth)) e) ∙ one.places ∙ ap (λ b. cond b (r.side.chain.services - suc r.depth) (suc r.depth)) f)

    -- routes of one key and one side are told alike
    led_alike : (p q : Path) (o : IsReoriginated h p) (r : IsReoriginated h q) (b : Bool) → vpn_key p ≡ vpn_key q → o.side.is_right ≡ b → r.side.is_right ≡ b → vpn_route p ≡ vpn_route q
    led_alike p q o r b key e f =
        let one = one_place p q o r key in
        let turns : o.side.is_right ≡ r.side.is_right = e ∙ sym f in
        let side : o.side ≡ r.side = λ i. record { chain = one.chains i; is_right = turns i } in
        let depth : o.depth ≡ r.depth = one_depth p q o r one b e f in
        let by : ◌≡◌ {A = Addr × LabelNo} (p.next_hop, p.label) (q.next_hop, q.label) = same_Some (p.next_hop, p.label) (q.next_hop, q.label) (sym o.published ∙ (λ i. publisher h (circuit_at (side i) (suc (depth i)))) ∙ r.published) in
        let targets : p.targets ≡ q.targets = o.targets ∙ (λ i. target_of h.asn (hop_at (side i) (suc (depth i))) ∷ []) ∙ sym r.targets in
        λ i. record { next_hop = (by i).0; label = (by i).1; targets = targets i }

    -- ---- which path counts
    counts_from : AreListed h.agents → (k : VpnKey) (r : VpnRoute) → get (wanted_by_peers h) (Vpn k) ≡ Some (Route r) → IsCounted h k r
    counts_from listed k r e =
        by_own (first_of k (own_paths h)) refl
        (sym (first_either k (own_paths h) (reoriginated_paths h)) ∙ sym (get-from_entries key_total (map route_entry (own_paths h ++ reoriginated_paths h)) (Vpn k)) ∙ e)
      where
        route_is : (p : Path) → Route (vpn_route p) ≡ Route r → HasRoute r p
        route_is p e = same_Some (vpn_route p) r (ap as_route e)

        by_side : HasNoOwn h k → Sided k (Route r) (uses h.feed) → IsCounted h k r
        by_side none (on_right u m f) =
            let o = from_side (right_of u) (in_sides h.feed u true m) f.path f.member in
            (f.path, f.key_is, route_is f.path f.value_is, as_right none (o.0, ap (λ (s : Side). s.is_right) o.1))
        by_side none (on_left u m f n) =
            let o = from_side (left_of u) (in_sides h.feed u false m) f.path f.member in
            let no_right : (q : Path) → LeadsRight h q → HasKey k q → ⊥ = λ q l key.
            let one = one_place q f.path l.0 o.0 (key ∙ sym f.key_is) in
            let chain : l.0.side.chain ≡ u = one.chains ∙ ap (λ (s : Side). s.chain) o.1 in
            let side : l.0.side ≡ right_of u = (λ i. record { chain = chain i; is_right = l.1 i }) in
            none_found k (of_side (right_of u)) q n (subst (λ (s : Side). Member q (of_side s)) side (in_side q l.0)) key in
            (f.path, f.key_is, route_is f.path f.value_is, as_left none no_right (o.0, ap (λ (s : Side). s.is_right) o.1))

        by_own : (o : Option Value) → first_of k (own_paths h) ≡ o → first_some o (first_of k (reoriginated_paths h)) ≡ Some (Route r) → IsCounted h k r
        by_own (Some v) is e =
            let l = lowest_of h k h.agents (Route r) listed (is ∙ e) in
            let p : Path = l.first.path in
            (p, l.first.key_is, route_is p l.first.value_is, as_own (own_route_from h p l.first.member) (λ q o key. l.lowest o.agent q o.told (by_agent_in h q o) key))
        by_own None is e = by_side (λ q o key. none_found k (own_paths h) q is (own_route_in h q o) key) (sided_of k (Route r) (uses h.feed) e)

    both_ways : (m n : ℕ) → m ≤ n → n ≤ m → m ≡ n
    both_ways m n a b = omega arith

    counts_alike : AreListed h.agents → (k : VpnKey) (p q : Path) → HasKey k p → HasKey k q → Counts h k p → Counts h k q → vpn_route p ≡ vpn_route q
    counts_alike listed k p q kp kq (as_own o low) (as_own r low') = own_alike h listed p q o r (kp ∙ sym kq) (both_ways p.session q.session (low q r kq) (low' p o kp))
    counts_alike listed k p q kp kq (as_own o low) (as_right none l) = absurd (none p o kp)
    counts_alike listed k p q kp kq (as_own o low) (as_left none no_right l) = absurd (none p o kp)
    counts_alike listed k p q kp kq (as_right none l) (as_own r low) = absurd (none q r kq)
    counts_alike listed k p q kp kq (as_right none l) (as_right none' l') = led_alike p q l.0 l'.0 true (kp ∙ sym kq) l.1 l'.1
    counts_alike listed k p q kp kq (as_right none l) (as_left none' no_right l') = absurd (no_right p l kp)
    counts_alike listed k p q kp kq (as_left none no_right l) (as_own r low) = absurd (none q r kq)
    counts_alike listed k p q kp kq (as_left none no_right l) (as_right none' l') = absurd (no_right q l' kq)
    counts_alike listed k p q kp kq (as_left none no_right l) (as_left none' no_right' l') = led_alike p q l.0 l'.0 false (kp ∙ sym kq) l.1 l'.1

    led_member : (p : Path) → IsReoriginated h p → Member p (own_paths h ++ reoriginated_paths h)
    led_member p o = in_right p (own_paths h) (reoriginated_paths h) (in_flat_map of_side o.side p (sides h.feed) o.held (in_side p o))

    counts_member : (k : VpnKey) (p : Path) → Counts h k p → Member p (own_paths h ++ reoriginated_paths h)
    counts_member k p (as_own o low) = in_left p (own_paths h) (reoriginated_paths h) (own_route_in h p o)
    counts_member k p (as_right none l) = led_member p l.0
    counts_member k p (as_left none no_right l) = led_member p l.0

    counts_to : AreListed h.agents → (k : VpnKey) (r : VpnRoute) → IsCounted h k r → get (wanted_by_peers h) (Vpn k) ≡ Some (Route r)
    counts_to listed k r c =
        let f = first_found k (own_paths h ++ reoriginated_paths h) c.0 (counts_member k c.0 c.3) c.1 in
        let first = first_from k (own_paths h ++ reoriginated_paths h) f.0 f.1 in
        let here : get (wanted_by_peers h) (Vpn k) ≡ Some (Route (vpn_route first.path)) = get-from_entries key_total (map route_entry (own_paths h ++ reoriginated_paths h)) (Vpn k) ∙ f.1 ∙ ap Some (sym first.value_is) in
        let q = counts_from listed k (vpn_route first.path) here in
        let there : vpn_route q.0 ≡ vpn_route first.path = q.2 in
        let one : vpn_route c.0 ≡ vpn_route q.0 = counts_alike listed k c.0 q.0 c.1 q.1 c.3 q.3 in
        let same : vpn_route first.path ≡ r = sym {a = vpn_route q.0} there ∙ sym {a = vpn_route c.0} one ∙ c.2 in
        here ∙ ap (λ (r : VpnRoute). Some (Route r)) same

pub counted_is : (h : Holdings) → AreListed h.agents → AreNumbered h.feed → (k : VpnKey) (r : VpnRoute) → (get (wanted_by_peers h) (Vpn k) ≡ Some (Route r)) ↔ IsCounted h k r
counted_is h listed numbered k r = (counts_from h numbered listed k r, counts_to h numbered listed k r)

pub nothing_but_routes : (h : Holdings) (k : Key) (v : Value) → get (wanted_by_peers h) k ≡ Some v → ((at : VpnKey) × (k ≡ Vpn at)) × ((r : VpnRoute) × (v ≡ Route r))
nothing_but_routes h k v e =
    let q = from_map route_entry (told k v) (own_paths h ++ reoriginated_paths h) (from_entry key_total key_exact k v (map route_entry (own_paths h ++ reoriginated_paths h)) e) in
    ((vpn_key q.0, sym (ap (λ (e : Key × Value). e.0) q.2)), (vpn_route q.0, sym (ap (λ (e : Key × Value). e.1) q.2)))
