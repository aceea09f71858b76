-- The routes that lead on into an instance of a hop, to one prefix.
use Rattle.std.specs.Prelude.{◌≡◌, ◌↔◌, ◌⊎◌, ◌≤◌, ◌<◌, ℕ, zero, suc, ◌+◌, ◌-◌, ◌*◌, ◌/◌, ◌%◌, nat_le, nat_lt, List, [], ◌∷◌, ◌++◌, Bool, true, false, cond, Some, None, ◌==◌, ◌&&◌}
use Rattle.std.specs.declared.option.Option.{Option}
use Rattle.std.specs.Option.{option_map}
use Rattle.std.specs.List.{filter, flat_map, list_any}
use Rattle.std.proofs.lemmas.Bool.{and_parts, le-leb, leb-true, eqb-true}
use Rattle.std.proofs.lemmas.Option.{same_Some}
use Rattle.std.proofs.Common.{refl, sym, ◌∙◌, ap, subst, inl, inr, arith}
use Rattle.ov_types.specs.Prefix.{Block}
use Rattle.ov_types.specs.declared.numbers.InstanceId.{InstanceId}
use Rattle.ov_types.specs.declared.numbers.Label.{Label as LabelNo}
use Rattle.ov_types.specs.declared.objects.LowKey.TheVariants as key
use Rattle.ov_types.specs.declared.prefix.Addr.{Addr}
use Rattle.ov_types.specs.declared.vpn.VpnKey.{VpnKey}
use Rattle.route_targets.specs.Numbers.{distinguisher_of, target_of}
use Rattle.path_select.specs.NodeModel.Agent.{first_some}
use Rattle.path_select.specs.NodeModel.Maps.{object}
use Rattle.path_select.specs.NodeModel.Members.{Member}
use Rattle.path_select.specs.NodeModel.Paths.{Holdings, Path, has_target}
use Rattle.path_select.specs.NodeModel.Ranks.{instance_in}
use Rattle.path_select.specs.NodeModel.Reaching.{AreShort, Side, below, circuit_at, hop_at, into, is_up, publisher, reoriginated_paths, sides, sides_of, subnets, towards}
use Rattle.path_select.specs.NodeModel.Tables.{same_prefix}
use Rattle.path_select.specs.NodeModel.Uses.{Use, is_hop, place_of, use_from, use_of, uses}
use Rattle.path_select.proofs.NodeModel.Members.{any_in, from_any, from_filter, from_flat_map, in_either, in_filter, in_flat_map, in_left, in_right, member_when, none_some}
use Rattle.path_select.proofs.NodeModel.Objects.{in_sides, is_hop-hop, place_of-hop, side_use, use_held, use_of-hop}
use Rattle.path_select.proofs.NodeModel.Orders.{prefix_same, same_prefix-from}
use Rattle.path_select.proofs.NodeModel.Places.{instance_in-distinguisher, use_found}
use Rattle.path_select.proofs.NodeModel.Routes.{from_below, in_below}
use Rattle.path_select.proofs.NodeModel.Unknown.{le_trans, place_at, place_at-within, target_from, target_in}
use Rattle.vpn_holdings.specs.Answers.{distance, seen_from}
use Rattle.vpn_holdings.specs.At.{is_led_at, led_at, led_from, led_on_side}
use Rattle.vpn_holdings.specs.Leading.{leads}
use Rattle.vpn_holdings.specs.TouchedKeys.{first_keyed, same_key}
use Rattle.vpn_holdings.proofs.Keyed.{first_append, first_is, none_keyed_before, same_first}
use Rattle.vpn_holdings.proofs.Short.{AreNumbered}

-- ---- one route towards a circuit
abbrev pub route_to : Holdings → InstanceId → Block → Addr × LabelNo → Path
route_to h i q by = record {
  prefix = q;
  rd = distinguisher_of by.0 i;
  next_hop = by.0;
  label = by.1;
  targets = target_of h.asn i ∷ [];
  session = 65535;
}

from_towards : (h : Holdings) (i : InstanceId) (q : Block) (o : Option (Addr × LabelNo)) (p : Path) → Member p (towards h i q o) → (by : Addr × LabelNo) × (o ≡ Some by) × (route_to h i q by ≡ p)
from_towards h i q None p m = absurd m
from_towards h i q (Some by) p (inl e) = (by, refl, e)
from_towards h i q (Some by) p (inr m) = absurd m

one_towards : (h : Holdings) (i : InstanceId) (q : Block) (o : Option (Addr × LabelNo)) (a b : Path) → Member a (towards h i q o) → Member b (towards h i q o) → a ≡ b
one_towards h i q None a b m n = absurd m
one_towards h i q (Some by) a b (inl e) (inl f) = sym e ∙ f
one_towards h i q (Some by) a b (inl e) (inr n) = absurd n
one_towards h i q (Some by) a b (inr m) n = absurd m

-- what is known of a route that leads on along a side
record LedOn (h : Holdings) (s : Side) (p : Path) : Type 0 where
  depth : ℕ
  within : depth < s.chain.services
  subnet : Member p.prefix (subnets s)
  up : is_up h s p.prefix depth ≡ true
  towards_it : Member p (towards h (hop_at s (suc depth)) p.prefix (publisher h (circuit_at s (suc depth))))

from_leads : (h : Holdings) (s : Side) (p : Path) → Member p (leads h s) → LedOn h s p
from_leads h s p m =
    let at_d = from_flat_map (into (is_up h) h s) p (below s.chain.services) m in
    let d = at_d.0 in
    let of_subnet = from_flat_map (λ subnet. cond (is_up h s subnet d) (towards h (hop_at s (suc d)) subnet (publisher h (circuit_at s (suc d)))) []) p (subnets s) at_d.2 in
    let w = member_when (is_up h s of_subnet.0 d) p (towards h (hop_at s (suc d)) of_subnet.0 (publisher h (circuit_at s (suc d)))) of_subnet.2 in
    let t = from_towards h (hop_at s (suc d)) of_subnet.0 (publisher h (circuit_at s (suc d))) p w.1 in
    let is : of_subnet.0 ≡ p.prefix = ap (λ (p : Path). p.prefix) t.2 in
    record {
      depth = d;
      within = from_below s.chain.services d at_d.1;
      subnet = subst (λ (q : Block). Member q (subnets s)) is of_subnet.1;
      up = subst (λ (q : Block). is_up h s q d ≡ true) is w.0;
      towards_it = subst (λ (q : Block). Member p (towards h (hop_at s (suc d)) q (publisher h (circuit_at s (suc d))))) is w.1;
    }

into_leads : (h : Holdings) (s : Side) (q : Block) (d : ℕ) (p : Path) → d < s.chain.services → Member q (subnets s) → is_up h s q d ≡ true
    → Member p (towards h (hop_at s (suc d)) q (publisher h (circuit_at s (suc d)))) → Member p (leads h s)
into_leads h s q d p lt m up t =
    in_flat_map (into (is_up h) h s) d p (below s.chain.services) (in_below s.chain.services d lt)
    (in_flat_map (λ subnet. cond (is_up h s subnet d) (towards h (hop_at s (suc d)) subnet (publisher h (circuit_at s (suc d)))) []) q p (subnets s) m
    (subst (λ b. Member p (cond b (towards h (hop_at s (suc d)) q (publisher h (circuit_at s (suc d)))) [])) (sym up) t))

-- ---- along the use of the instance
from_led_from : (h : Holdings) (s : Side) (d : ℕ) (q : Block) (p : Path) → Member p (led_from h s d q)
    → (e : ℕ) × (d ≡ suc e) × (is_up h s q e ≡ true) × Member p (towards h (hop_at s (suc e)) q (publisher h (circuit_at s (suc e))))
from_led_from h s zero q p m = absurd m
from_led_from h s (suc e) q p m = let w = member_when (is_up h s q e) p (towards h (hop_at s (suc e)) q (publisher h (circuit_at s (suc e)))) m in (e, refl, w.0, w.1)

record OnSide (h : Holdings) (s : Side) (i : InstanceId) (q : Block) (p : Path) : Type 0 where
  depth : ℕ
  at : distance s (place_of i) ≡ suc depth
  place : place_of i ≤ s.chain.services
  subnet : Member q (subnets s)
  up : is_up h s q depth ≡ true
  towards_it : Member p (towards h (hop_at s (suc depth)) q (publisher h (circuit_at s (suc depth))))

from_side : (h : Holdings) (s : Side) (i : InstanceId) (q : Block) (p : Path) → Member p (led_on_side h (place_of i) q (Some s)) → OnSide h s i q p
from_side h s i q p m =
    let a = member_when (nat_le (place_of i) s.chain.services) p (cond (list_any (same_prefix q) (subnets s)) (led_from h s (distance s (place_of i)) q) []) m in
    let b = member_when (list_any (same_prefix q) (subnets s)) p (led_from h s (distance s (place_of i)) q) a.1 in
    let f = from_led_from h s (distance s (place_of i)) q p b.1 in
    let n = from_any (same_prefix q) (subnets s) b.0 in
    record {
      depth = f.0;
      at = f.1;
      place = leb-true (place_of i) s.chain.services a.0;
      subnet = subst (λ (x : Block). Member x (subnets s)) (sym (prefix_same q n.0 n.2)) n.1;
      up = f.2;
      towards_it = f.3;
    }

-- the place that is so far from the end
abbrev seen_at : Bool → ℕ → ℕ → ℕ
seen_at b k d = cond b (k - d) d

back_again : (b : Bool) (k j d : ℕ) → j ≤ k → seen_at b k j ≡ d → seen_at b k d ≡ j
back_again true k j d h e = omega (arith, h, e)
back_again false k j d h e = sym e

deeper : (b : Bool) (k j d : ℕ) → j ≤ k → seen_at b k j ≡ suc d → d < k
deeper true k j d h e = omega (arith, h, e)
deeper false k j d h e = omega (arith, h, e)

hop_number : (i u : ℕ) → nat_lt 16383 i ≡ true → u ≡ (i - 16384) / 16 → 16384 + 16 * u + (i - 16384) % 16 ≡ i
hop_number i u e f = grind arith

its_instance : (s : Side) (i : InstanceId) (d : ℕ) → is_hop i ≡ true → s.chain.number ≡ use_of i → place_of i ≤ s.chain.services → distance s (place_of i) ≡ d → hop_at s d ≡ i
its_instance s i d e f h g = λ x. record { 0 = (ap (λ j. 16384 + 16 * s.chain.number + j) (back_again s.is_right s.chain.services (place_of i) d h g) ∙ hop_number i.0 s.chain.number e f) x }

pub side_leads : (h : Holdings) (s : Side) (i : InstanceId) (q : Block) (p : Path) → Member p (led_on_side h (place_of i) q (Some s)) → Member p (leads h s)
side_leads h s i q p m =
    let o = from_side h s i q p m in
    into_leads h s q o.depth p (deeper s.is_right s.chain.services (place_of i) o.depth o.place o.at) o.subnet o.up o.towards_it

side_target : (h : Holdings) (s : Side) (i : InstanceId) (q : Block) (p : Path) → is_hop i ≡ true → s.chain.number ≡ use_of i → Member p (led_on_side h (place_of i) q (Some s))
    → (p.targets ≡ target_of h.asn i ∷ []) × (p.prefix ≡ q)
side_target h s i q p e f m =
    let o = from_side h s i q p m in
    let t = from_towards h (hop_at s (suc o.depth)) q (publisher h (circuit_at s (suc o.depth))) p o.towards_it in
    (ap (λ (p : Path). p.targets) (sym t.2) ∙ ap (λ (j : InstanceId). target_of h.asn j ∷ []) (its_instance s i (suc o.depth) e f o.place o.at), ap (λ (p : Path). p.prefix) (sym t.2))

one_on_side : (h : Holdings) (s : Side) (i : InstanceId) (q : Block) (a b : Path) → Member a (led_on_side h (place_of i) q (Some s)) → Member b (led_on_side h (place_of i) q (Some s)) → a ≡ b
one_on_side h s i q a b m n =
    let o = from_side h s i q a m in
    let r = from_side h s i q b n in
    let same : r.depth ≡ o.depth = next (sym r.at ∙ o.at) in
    one_towards h (hop_at s (suc o.depth)) q (publisher h (circuit_at s (suc o.depth))) a b o.towards_it
    (subst (λ d. Member b (towards h (hop_at s (suc d)) q (publisher h (circuit_at s (suc d))))) same r.towards_it)
  where
    next : {x y : ℕ} → suc x ≡ suc y → x ≡ y
    next e = omega (arith, e)

-- where a route along a side leads into this instance
record LeadsInto (h : Holdings) (s : Side) (i : InstanceId) (p : Path) : Type 0 where
  hop : is_hop i ≡ true
  number : use_of i ≡ s.chain.number
  there : Member p (led_on_side h (place_of i) p.prefix (Some s))

leads_into : (h : Holdings) (s : Side) (i : InstanceId) (p : Path) (l : LedOn h s p) → s.chain.services ≤ 15 → i ≡ hop_at s (suc l.depth) → LeadsInto h s i p
leads_into h s i p l short is =
    let d = suc l.depth in
    let j = place_at s d in
    let w = place_at-within s d (next l.depth s.chain.services l.within) in
    let small = le_trans j s.chain.services 15 w short in
    let place : place_of i ≡ j = ap place_of is ∙ place_of-hop s.chain.number j small in
    record {
      hop = ap is_hop is ∙ is_hop-hop s.chain.number j;
      number = ap use_of is ∙ use_of-hop s.chain.number j small;
      there = subst (λ n. Member p (led_on_side h n p.prefix (Some s))) (sym place)
          (subst (λ b. Member p (cond b (cond (list_any (same_prefix p.prefix) (subnets s)) (led_from h s (distance s j) p.prefix) []) [])) (sym (le-leb j s.chain.services w))
          (subst (λ b. Member p (cond b (led_from h s (distance s j) p.prefix) [])) (sym (any_in (same_prefix p.prefix) p.prefix (subnets s) l.subnet (same_prefix-from p.prefix p.prefix refl)))
          (subst (λ n. Member p (led_from h s n p.prefix)) (sym (again s.is_right s.chain.services d (next l.depth s.chain.services l.within)))
          (subst (λ b. Member p (cond b (towards h (hop_at s d) p.prefix (publisher h (circuit_at s d))) [])) (sym l.up) l.towards_it))));
    }
  where
    next : (d k : ℕ) → d < k → suc d ≤ k
    next d k h = omega (arith, h)

    again : (b : Bool) (k d : ℕ) → d ≤ k → seen_at b k (seen_at b k d) ≡ d
    again true k d h = omega (arith, h)
    again false k d h = refl

-- ---- as a whole
module _ (h : Holdings) (i : InstanceId) (q : Block) where
  abbrev of_held : Bool → Option Use → List Path
  of_held b o = led_on_side h (place_of i) q (option_map (seen_from b) o)

  from_led : (b : Bool) (p : Path) → Member p (led_at h i q b)
      → (is_hop i ≡ true) × ((u : Use) × (use_from (use_of i) (object h.feed (key.ChainUse (use_of i))) ≡ Some u) × Member p (led_on_side h (place_of i) q (Some (seen_from b u))))
  from_led b p m =
      let w = member_when (is_hop i) p (of_held b (use_from (use_of i) (object h.feed (key.ChainUse (use_of i))))) m in
      (w.0, by_use (use_from (use_of i) (object h.feed (key.ChainUse (use_of i)))) refl w.1)
    where
      by_use : (o : Option Use) → use_from (use_of i) (object h.feed (key.ChainUse (use_of i))) ≡ o → Member p (of_held b o)
          → (u : Use) × (use_from (use_of i) (object h.feed (key.ChainUse (use_of i))) ≡ Some u) × Member p (led_on_side h (place_of i) q (Some (seen_from b u)))
      by_use None e m = absurd m
      by_use (Some u) e m = (u, e, m)

  to_led : (b : Bool) (u : Use) (p : Path) → is_hop i ≡ true → use_from (use_of i) (object h.feed (key.ChainUse (use_of i))) ≡ Some u
      → Member p (led_on_side h (place_of i) q (Some (seen_from b u))) → Member p (led_at h i q b)
  to_led b u p e f m = subst (λ t. Member p (cond t (of_held b (use_from (use_of i) (object h.feed (key.ChainUse (use_of i))))) [])) (sym e) (subst (λ (o : Option Use). Member p (of_held b o)) (sym f) m)

  led_back : (b : Bool) (p : Path) → Member p (led_at h i q b) → Member p (filter (is_led_at (target_of h.asn i) q) (reoriginated_paths h))
  led_back b p m =
      let f = from_led b p m in
      let u = f.1.0 in
      let found = use_found h.feed (use_of i) u f.1.1 in
      let t = side_target h (seen_from b u) i q p f.0 found.1 f.1.2 in
      in_filter (is_led_at (target_of h.asn i) q) p (reoriginated_paths h)
      (in_flat_map (leads h) (seen_from b u) p (sides h.feed) (in_sides h.feed u b found.0) (side_leads h (seen_from b u) i q p f.1.2))
      (both (has_target (target_of h.asn i ∷ []) p) (same_prefix p.prefix q) (target_in h.asn i (i ∷ []) p t.0 (inl refl)) (same_prefix-from p.prefix q t.1))
    where
      both : (a b : Bool) → a ≡ true → b ≡ true → (a && b) ≡ true
      both a b x y = (λ k. x k && y k)

  led_there : AreShort h.feed → (p : Path) → Member p (filter (is_led_at (target_of h.asn i) q) (reoriginated_paths h)) → Member p (led_at h i q true ++ led_at h i q false)
  led_there short p m =
      let g = from_filter (is_led_at (target_of h.asn i) q) p (reoriginated_paths h) m in
      let t = and_parts (has_target (target_of h.asn i ∷ []) p) (same_prefix p.prefix q) g.1 in
      let f = from_flat_map (leads h) p (sides h.feed) g.0 in
      let s : Side = f.0 in
      let u = side_use h.feed s f.1 in
      let l = from_leads h s p f.2 in
      let by = from_towards h (hop_at s (suc l.depth)) p.prefix (publisher h (circuit_at s (suc l.depth))) p l.towards_it in
      let is : i ≡ hop_at s (suc l.depth) = only (target_from h.asn (hop_at s (suc l.depth)) (i ∷ []) p (ap (λ (p : Path). p.targets) (sym by.2)) t.0) in
      let r = leads_into h s i p l (short s.chain u) is in
      let held : use_from (use_of i) (object h.feed (key.ChainUse (use_of i))) ≡ Some s.chain = ap (λ n. use_from n (object h.feed (key.ChainUse n))) r.number ∙ use_held h.feed s.chain u in
      by_side s.is_right (to_led s.is_right s.chain p r.hop held (subst (λ (x : Block). Member p (led_on_side h (place_of i) x (Some s))) (prefix_same p.prefix q t.1) r.there))
    where
      only : {j : InstanceId} → Member j (i ∷ []) → i ≡ j
      only (inl e) = e
      only (inr e) = absurd e

      by_side : (b : Bool) → Member p (led_at h i q b) → Member p (led_at h i q true ++ led_at h i q false)
      by_side true m = in_left p (led_at h i q true) (led_at h i q false) m
      by_side false m = in_right p (led_at h i q true) (led_at h i q false) m

  pub led_members : AreShort h.feed → (p : Path) → Member p (led_at h i q true ++ led_at h i q false) ↔ Member p (filter (is_led_at (target_of h.asn i) q) (reoriginated_paths h))
  led_members short p = (
    (λ m. elim (in_either p (led_at h i q true) (led_at h i q false) m) as (λ _. Member p (filter (is_led_at (target_of h.asn i) q) (reoriginated_paths h))) [ inl l ↦ led_back true p l | inr r ↦ led_back false p r ]),
    led_there short p,
  )

-- ---- by key
same_rd : (k : VpnKey) (p : Path) → same_key k p ≡ true → instance_in k.rd ≡ instance_in p.rd
same_rd k p t = λ x. record { 0 = (ap (λ n. n % 65536) (sym (eqb-true p.rd.0 k.rd.0 (and_parts (p.rd.0 == k.rd.0) (same_prefix p.prefix k.prefix) t).0))) x }

same_block : (k : VpnKey) (p : Path) → same_key k p ≡ true → p.prefix ≡ k.prefix
same_block k p t = prefix_same p.prefix k.prefix (and_parts (p.rd.0 == k.rd.0) (same_prefix p.prefix k.prefix) t).1

module _ (h : Holdings) (k : VpnKey) (short : AreShort h.feed) (numbered : AreNumbered h.feed) where
  abbrev place : InstanceId
  place = instance_in k.rd

  -- a route of the key along a held side leads into the instance of the key
  keyed_place : (s : Side) (p : Path) → Member s.chain (uses h.feed) → Member p (leads h s) → same_key k p ≡ true → LeadsInto h s place p
  keyed_place s p u m t =
      let l = from_leads h s p m in
      let j = hop_at s (suc l.depth) in
      let by = from_towards h j p.prefix (publisher h (circuit_at s (suc l.depth))) p l.towards_it in
      let w = place_at-within s (suc l.depth) (next l.depth s.chain.services l.within) in
      let small = le_trans (place_at s (suc l.depth)) s.chain.services 15 w (short s.chain u) in
      leads_into h s place p l (short s.chain u)
      (same_rd k p t ∙ ap (λ (p : Path). instance_in p.rd) (sym by.2) ∙ instance_in-distinguisher by.0.0 j (bound s.chain.number (place_at s (suc l.depth)) (numbered s.chain u) small))
    where
      next : (d k : ℕ) → d < k → suc d ≤ k
      next d k h = omega (arith, h)

      bound : (u j : ℕ) → u ≤ 3071 → j ≤ 15 → 16384 + 16 * u + j < 65536
      bound u j a b = omega (arith, a, b)

  -- the first along one side of the use of the instance
  side_first : (b : Bool) (u : Use) → Member u (uses h.feed) → is_hop place ≡ true → u.number ≡ use_of place
      → first_keyed k (leads h (seen_from b u)) ≡ first_keyed k (led_at h place k.prefix b)
  side_first b u m e f =
      let held : use_from (use_of place) (object h.feed (key.ChainUse (use_of place))) ≡ Some u = ap (λ n. use_from n (object h.feed (key.ChainUse n))) (sym f) ∙ use_held h.feed u m in
      same_first k (leads h (seen_from b u)) (led_at h place k.prefix b)
      (λ x y n o.
      let fx = from_led h place k.prefix b x n in
      let fy = from_led h place k.prefix b y o in
      one_on_side h (seen_from b u) place k.prefix x y (subst (λ (w : Use). Member x (led_on_side h (place_of place) k.prefix (Some (seen_from b w)))) (same_Some fx.1.0 u (sym fx.1.1 ∙ held)) fx.1.2)
      (subst (λ (w : Use). Member y (led_on_side h (place_of place) k.prefix (Some (seen_from b w)))) (same_Some fy.1.0 u (sym fy.1.1 ∙ held)) fy.1.2))
      (λ p n t. to_led h place k.prefix b u p e held (subst (λ (x : Block). Member p (led_on_side h (place_of place) x (Some (seen_from b u)))) (same_block k p t) (keyed_place (seen_from b u) p m n t).there))
      (λ p n t.
      let fp = from_led h place k.prefix b p n in
      side_leads h (seen_from b u) place k.prefix p (subst (λ (w : Use). Member p (led_on_side h (place_of place) k.prefix (Some (seen_from b w)))) (same_Some fp.1.0 u (sym fp.1.1 ∙ held)) fp.1.2))

  abbrev both : Option Path
  both = first_some (first_keyed k (led_at h place k.prefix true)) (first_keyed k (led_at h place k.prefix false))

  abbrev along_use : Use → List Path
  along_use u = leads h (seen_from true u) ++ leads h (seen_from false u)

  -- along a use: nothing, or what leads into the instance of the key
  use_first : (u : Use) → Member u (uses h.feed) → (first_keyed k (along_use u) ≡ None) ⊎ (first_keyed k (along_use u) ≡ both)
  use_first u m = by_found (first_keyed k (along_use u)) refl
    where
      by_found : (o : Option Path) → first_keyed k (along_use u) ≡ o → (first_keyed k (along_use u) ≡ None) ⊎ (first_keyed k (along_use u) ≡ both)
      by_found None e = inl e
      by_found (Some p) e =
          let r = first_is k (along_use u) p e in
          let into = elim (in_either p (leads h (seen_from true u)) (leads h (seen_from false u)) r.0) as (λ _. (is_hop place ≡ true) × (u.number ≡ use_of place)) [
            | inl l ↦ let x = keyed_place (seen_from true u) p m l r.1 in (x.hop, sym x.number)
            | inr l ↦ let x = keyed_place (seen_from false u) p m l r.1 in (x.hop, sym x.number)
          ] in
          inr (first_append k (leads h (seen_from true u)) (leads h (seen_from false u))
          ∙ (λ j. first_some (side_first true u m into.0 into.1 j) (side_first false u m into.0 into.1 j)))

  abbrev walk : List Use → List Path
  walk us = flat_map (leads h) (flat_map sides_of us)

  walk_cons : (u : Use) (us : List Use) → walk (u ∷ us) ≡ along_use u ++ walk us
  walk_cons u us = sym (assoc (leads h (seen_from true u)) (leads h (seen_from false u)) (walk us))
    where
      assoc : (xs ys zs : List Path) → (xs ++ ys) ++ zs ≡ xs ++ (ys ++ zs)
      assoc [] ys zs = refl
      assoc (x ∷ xs) ys zs = ap (λ (l : List Path). x ∷ l) (assoc xs ys zs)

  all_first : (us : List Use) → ((u : Use) → Member u us → Member u (uses h.feed)) → (first_keyed k (walk us) ≡ None) ⊎ (first_keyed k (walk us) ≡ both)
  all_first [] f = inl refl
  all_first (u ∷ us) f =
      let split = ap (first_keyed k) (walk_cons u us) ∙ first_append k (along_use u) (walk us) in
      let rest = all_first us (λ v m. f v (inr m)) in
      by_first (first_keyed k (along_use u)) refl split rest
    where
      by_first : (o : Option Path) → first_keyed k (along_use u) ≡ o → first_keyed k (walk (u ∷ us)) ≡ first_some (first_keyed k (along_use u)) (first_keyed k (walk us))
          → (first_keyed k (walk us) ≡ None) ⊎ (first_keyed k (walk us) ≡ both) → (first_keyed k (walk (u ∷ us)) ≡ None) ⊎ (first_keyed k (walk (u ∷ us)) ≡ both)
      by_first None e s (inl r) = inl (s ∙ (λ j. first_some (e j) (r j)))
      by_first None e s (inr r) = inr (s ∙ (λ j. first_some (e j) (r j)))
      by_first (Some p) e s r =
          elim (use_first u (f u (inl refl))) as (λ _. (first_keyed k (walk (u ∷ us)) ≡ None) ⊎ (first_keyed k (walk (u ∷ us)) ≡ both)) [
            | inl n ↦ absurd (none_some p (sym n ∙ e))
            | inr is ↦ inr (s ∙ ap (λ (o : Option Path). first_some o (first_keyed k (walk us))) e ∙ sym e ∙ is)
          ]

  -- the first of all is the first that leads into the instance of the key, along its own use
  pub led_first : first_keyed k (reoriginated_paths h) ≡ both
  led_first = elim (all_first (uses h.feed) (λ u m. m)) as (λ _. first_keyed k (reoriginated_paths h) ≡ both) [
    | inl none ↦ by_both none (first_keyed k (led_at h place k.prefix true)) (first_keyed k (led_at h place k.prefix false)) refl refl
    | inr is ↦ is
  ]
    where
      nothing : (b : Bool) (p : Path) → first_keyed k (reoriginated_paths h) ≡ None → first_keyed k (led_at h place k.prefix b) ≡ Some p → ⊥
      nothing b p none e =
          let r = first_is k (led_at h place k.prefix b) p e in
          none_keyed_before k (reoriginated_paths h) p none (from_filter (is_led_at (target_of h.asn place) k.prefix) p (reoriginated_paths h) (led_back h place k.prefix b p r.0)).0 r.1

      by_both : first_keyed k (reoriginated_paths h) ≡ None → (x y : Option Path) → first_keyed k (led_at h place k.prefix true) ≡ x → first_keyed k (led_at h place k.prefix false) ≡ y → first_keyed k (reoriginated_paths h) ≡ both
      by_both none (Some p) y ex ey = absurd (nothing true p none ex)
      by_both none None (Some p) ex ey = absurd (nothing false p none ey)
      by_both none None None ex ey = none ∙ sym (λ j. first_some (ex j) (ey j))
