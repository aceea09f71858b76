-- What follows stays where nothing that moves touches it: of holdings that may differ in some instances, and by what is
-- published in others.
use Rattle.std.specs.Prelude.{◌≡◌, ◌⊎◌, ℕ, zero, suc, ◌<◌, ◌≤◌, ◌-◌, List, [], ◌∷◌, ◌++◌, map, Bool, true, false, cond, ◌==◌, ◌&&◌, ◌||◌, is_some, nat_le}
use Rattle.std.specs.declared.option.Option.{Option}
use Rattle.std.specs.declared.option.Option.TheVariants.{Some, None}
use Rattle.std.specs.List.{filter, list_any}
use Rattle.std.specs.Option.{option_map}
use Rattle.std.proofs.lemmas.Bool.{true≢false, eq-eqb, or_left}
use Rattle.std.proofs.Common.{refl, sym, ◌∙◌, ap, subst, inl, inr, arith}
use Rattle.ov_types.specs.Prefix.{Block, is_inside}
use Rattle.ov_types.specs.declared.numbers.InstanceId.{InstanceId}
use Rattle.ov_types.specs.declared.targets.Target.{Target}
use Rattle.route_targets.specs.Numbers.{circuit_instance_of, target_of}
use Rattle.node_model.specs.Members.{Member}
use Rattle.node_model.specs.Uses.{hop, imports, is_hop, place_of, use_of}
use Rattle.node_model.specs.Paths.{Holdings, Path, has_target, own_paths, peer_paths, received}
use Rattle.node_model.specs.Reaching.{AreShort, Side, below, circuit_at, has_path_within, hop_at, is_up, publisher, reoriginated_paths, sides, subnets}
use Rattle.node_model.specs.Tables.{paths_of, same_prefix}
use Rattle.node_model.proofs.Members.{any_in, from_any, from_filter, from_flat_map, from_map, iff_same, in_either, in_filter, in_flat_map, in_left, in_map, in_right}
use Rattle.node_model.proofs.Objects.{imports_hop, in_sides, side_use, use_held}
use Rattle.node_model.proofs.Routes.{from_below, reoriginated_from, reoriginated_in}
use Rattle.node_model.proofs.Unknown.{le_trans, place_at, place_at-within, target_from}
use Rattle.vpn_holdings.specs.Answers.{distance, is_up_at, is_up_on, seen_from, side_at}
use Rattle.vpn_holdings.specs.Listing.{hops}
use Rattle.vpn_holdings.specs.Touched.{imports_one, is_touched, rows_at_use}
use Rattle.vpn_tables.proofs.Filtering.{false_from}
use Rattle.vpn_tables.proofs.Known.{in_places}
use Rattle.vpn_tables.proofs.Untouched.{circuit_place}
use Rattle.vpn_tables.proofs.Wanted.{at_row}
use Rattle.vpn_tables.specs.Stored.{entry_of}
use Rattle.vpn_tables.specs.declared.stored.RowKey.{RowKey}
use Rattle.vpn_tables.proofs.Less.{more_both, more_left}
use Rattle.vpn_tables.proofs.Same.{Within, same_selected}
use Rattle.vpn_tables.proofs.UpStays.{at_use, hop_number, no_farther, side_parts, within_from}

-- what h holds g holds too, but in some instances, and but for what moves: what is published with a prefix in another one
pub record IsMoved (h g : Holdings) (own : InstanceId → Bool) (Moves : InstanceId → Block → Type 0) : Type 0 where
  pub asn : g.asn ≡ h.asn
  pub imported : (i : InstanceId) → own i ≡ false → imports h.feed i ≡ imports g.feed i
  pub paths : (p : Path) → Member p (own_paths h) → Member p (own_paths g) ⊎ ((j : InstanceId) × (p.targets ≡ target_of h.asn j ∷ []) × Moves j p.prefix)
  pub peers : (p : Path) → Member p (peer_paths h) → Member p (peer_paths g)
  pub held : (s : Side) → Member s (sides h.feed) → (d : ℕ) → d ≤ s.chain.services → own (hop_at s d) ≡ false → Member s (sides g.feed)
  pub along : (s : Side) → Member s (sides h.feed) → (d e : ℕ) → d ≤ s.chain.services → e ≤ s.chain.services → own (hop_at s d) ≡ false → own (hop_at s e) ≡ false
  pub publishers : (c : ℕ) → (publisher h c ≡ publisher g c) ⊎ ((q : Block) × Moves (circuit_instance_of c) q)

-- nothing that moves touches a row
pub record IsClean (h : Holdings) (own : InstanceId → Bool) (Moves : InstanceId → Block → Type 0) (i : InstanceId) (q : Block) : Type 0 where
  pub other : own i ≡ false
  pub row : (j : InstanceId) → Moves j q → imports_one h (target_of h.asn j ∷ []) i ≡ false
  pub of_use : (s : Side) → Member s (sides h.feed) → Member (at_row i q) (rows_at_use s.chain) → (j : InstanceId) (x : Block) → Moves j x
      → is_touched h (target_of h.asn j ∷ []) s.chain ≡ false

-- ---- places
at_distance : (s : Side) (i : InstanceId) → is_hop i ≡ true → s.chain.number ≡ use_of i → place_of i ≤ s.chain.services → hop_at s (distance s (place_of i)) ≡ i
at_distance s i is number within =
    ap (hop s.chain) (back s.is_right) ∙ (λ x. record { 0 = hop_number i.0 s.chain.number is number x })
  where
    again : (k j : ℕ) → j ≤ k → k - (k - j) ≡ j
    again k j w = omega (arith, w)

    back : (b : Bool) → cond b (s.chain.services - cond b (s.chain.services - place_of i) (place_of i)) (cond b (s.chain.services - place_of i) (place_of i)) ≡ place_of i
    back true = again s.chain.services (place_of i) within
    back false = refl

hop_listed : (s : Side) (d : ℕ) → d ≤ s.chain.services → Member (hop_at s d) (hops s.chain)
hop_listed s d w = in_map (hop s.chain) (place_at s d) (below s.chain.services ++ s.chain.services ∷ []) (in_places s.chain.services (place_at s d) (place_at-within s d w))

row_listed : (s : Side) (d : ℕ) (q : Block) → d ≤ s.chain.services → Member q (subnets s) → Member (at_row (hop_at s d) q) (rows_at_use s.chain)
row_listed s d q w m =
    in_flat_map (λ (i : InstanceId). map (λ (subnet : Block). (i, subnet)) (s.chain.left_subnets ++ s.chain.right_subnets)) (hop_at s d) (at_row (hop_at s d) q) (hops s.chain) (hop_listed s d w)
    (in_map (λ (subnet : Block). (hop_at s d, subnet)) q (s.chain.left_subnets ++ s.chain.right_subnets) (of_side s.is_right m))
  where
    of_side : (b : Bool) → Member q (cond b s.chain.right_subnets s.chain.left_subnets) → Member q (s.chain.left_subnets ++ s.chain.right_subnets)
    of_side true m = in_right q s.chain.left_subnets s.chain.right_subnets m
    of_side false m = in_left q s.chain.left_subnets s.chain.right_subnets m

module _ (h g : Holdings) (own : InstanceId → Bool) (Moves : InstanceId → Block → Type 0) (m : IsMoved h g own Moves) (short : AreShort h.feed) where
  abbrev wanted : InstanceId → List Target
  wanted i = map (target_of h.asn) (imports h.feed i)

  wanted_same : (i : InstanceId) → own i ≡ false → map (target_of g.asn) (imports g.feed i) ≡ wanted i
  wanted_same i other = λ n. map (target_of (m.asn n)) (sym (m.imported i other) n)

  -- ---- received
  received_there : (i : InstanceId) → own i ≡ false → (p : Path) → ((j : InstanceId) → Moves j p.prefix → imports_one h (target_of h.asn j ∷ []) i ≡ false)
      → Member p (received h i) → Member p (received g i)
  received_there i other p clean n =
      let f = from_filter (has_target (wanted i)) p (own_paths h ++ peer_paths h) n in
      in_filter (has_target (map (target_of g.asn) (imports g.feed i))) p (own_paths g ++ peer_paths g)
      (elim (in_either p (own_paths h) (peer_paths h) f.0) as (λ _. Member p (own_paths g ++ peer_paths g)) [
        | inl o ↦ elim (m.paths p o) as (λ _. Member p (own_paths g ++ peer_paths g)) [
          | inl t ↦ in_left p (own_paths g) (peer_paths g) t
          | inr t ↦ absurd (true≢false (sym (ap (λ (ts : List Target). list_any (λ (t : Target). list_any (λ (u : Target). t.0 == u.0) (wanted i)) ts) (sym t.1) ∙ f.1) ∙ clean t.0 t.2))
        ]
        | inr o ↦ in_right p (own_paths g) (peer_paths g) (m.peers p o)
      ]) (ap (λ (w : List Target). has_target w p) (wanted_same i other) ∙ f.1)

  -- ---- along a use that nothing touches
  module _ (s : Side) (held : Member s (sides h.feed)) (others : (d : ℕ) → d ≤ s.chain.services → own (hop_at s d) ≡ false)
      (clean : (j : InstanceId) (x : Block) → Moves j x → is_touched h (target_of h.asn j ∷ []) s.chain ≡ false) where
    untouched : (j : InstanceId) (x : Block) → Moves j x → (d : ℕ) → d ≤ s.chain.services → imports_one h (target_of h.asn j ∷ []) (hop_at s d) ≡ false
    untouched j x mv d w =
        false_from (is_touched h (target_of h.asn j ∷ []) s.chain) (imports_one h (target_of h.asn j ∷ []) (hop_at s d))
        (any_in (imports_one h (target_of h.asn j ∷ [])) (hop_at s d) (hops s.chain) (hop_listed s d w)) (clean j x mv)

    imports_itself : (d : ℕ) → d ≤ s.chain.services → imports_one h (target_of h.asn (hop_at s d) ∷ []) (hop_at s d) ≡ true
    imports_itself d w =
        let u = side_use h.feed s held in
        let at = place_at-within s d w in
        let t = target_of h.asn (hop_at s d) in
        ap (λ (is : List InstanceId). list_any (λ (t : Target). list_any (λ (u : Target). t.0 == u.0) (map (target_of h.asn) is)) (t ∷ [])) (imports_hop h.feed s.chain (place_at s d) u (le_trans (place_at s d) s.chain.services 15 at (short s.chain u)) at)
        ∙ or_left _ false (or_left (t.0 == t.0) _ (eq-eqb t.0 t.0 refl))

    published_same : (d : ℕ) → d ≤ s.chain.services → publisher h (circuit_at s d) ≡ publisher g (circuit_at s d)
    published_same d w =
        elim (m.publishers (circuit_at s d)) as (λ _. publisher h (circuit_at s d) ≡ publisher g (circuit_at s d)) [
          | inl e ↦ e
          | inr mv ↦ absurd (true≢false (sym (imports_itself d w) ∙ untouched (hop_at s d) mv.0 (subst (λ (j : InstanceId). Moves j mv.0) (circuit_place s d) mv.1) d w))
        ]

    within_there : (d : ℕ) (q : Block) → d ≤ s.chain.services → has_path_within h (hop_at s d) q ≡ true → has_path_within g (hop_at s d) q ≡ true
    within_there d q w e =
        let p = from_any (λ (p : Path). is_inside p.prefix q) (received h (hop_at s d)) e in
        any_in (λ (p : Path). is_inside p.prefix q) p.0 (received g (hop_at s d)) (received_there (hop_at s d) (others d w) p.0 (λ j mv. untouched j p.0.prefix mv d w) p.1) p.2

    up_there : (q : Block) (d : ℕ) → d ≤ s.chain.services → is_up h s q d ≡ true → is_up g s q d ≡ true
    up_there q zero w e = within_there zero q w e
    up_there q (suc d) w e =
        more_left (has_path_within h (hop_at s (suc d)) q) (is_some (publisher h (circuit_at s (suc d))) && is_up h s q d)
        (has_path_within g (hop_at s (suc d)) q) (is_some (publisher g (circuit_at s (suc d))) && is_up g s q d)
        (within_there (suc d) q w)
        (more_both (is_some (publisher h (circuit_at s (suc d)))) (is_up h s q d) (is_some (publisher g (circuit_at s (suc d)))) (is_up g s q d)
        (λ t. ap is_some (sym (published_same (suc d) w)) ∙ t) (up_there q d (before d s.chain.services w))) e
      where
        before : (d k : ℕ) → suc d ≤ k → d ≤ k
        before d k h = omega arith

  -- ---- a row that nothing touches
  module _ (i : InstanceId) (q : Block) (clean : IsClean h own Moves i q) where
    along_there : (s : Side) → Member s (sides h.feed) → (d : ℕ) → d ≤ s.chain.services → hop_at s d ≡ i → (e : ℕ) → e ≤ s.chain.services → own (hop_at s e) ≡ false
    along_there s held d w at e v = m.along s held d e w v (ap own at ∙ clean.other)

    led_there : (p : Path) → Member p (reoriginated_paths h) → has_target (target_of h.asn i ∷ []) p ≡ true → p.prefix ≡ q → Member p (reoriginated_paths g)
    led_there p n into e =
        let l = reoriginated_from h p n in
        let d = l.depth in
        let w : suc d ≤ l.side.chain.services = next d l.side.chain.services l.within in
        let at : hop_at l.side (suc d) ≡ i = only (hop_at l.side (suc d)) (target_from h.asn (hop_at l.side (suc d)) (i ∷ []) p l.targets into) in
        let others = along_there l.side l.held (suc d) w at in
        let row : Member (at_row i q) (rows_at_use l.side.chain) =
        subst (λ (x : Block). Member (at_row i x) (rows_at_use l.side.chain)) e (subst (λ (j : InstanceId). Member (at_row j p.prefix) (rows_at_use l.side.chain)) at (row_listed l.side (suc d) p.prefix w l.subnet)) in
        let clear = clean.of_use l.side l.held row in
        reoriginated_in g p (record {
          side = l.side;
          depth = d;
          held = m.held l.side l.held (suc d) w (others (suc d) w);
          within = l.within;
          subnet = l.subnet;
          up = up_there l.side l.held others clear p.prefix d (weaker d l.side.chain.services l.within) l.up;
          published = sym (published_same l.side l.held others clear (suc d) w) ∙ l.published;
          rd = l.rd;
          targets = l.targets ∙ ap (λ a. target_of a (hop_at l.side (suc d)) ∷ []) (sym m.asn);
          session = l.session;
        })
      where
        next : (d k : ℕ) → d < k → suc d ≤ k
        next d k h = omega arith

        weaker : (d k : ℕ) → d < k → d ≤ k
        weaker d k h = omega arith

        only : (j : InstanceId) → Member j (i ∷ []) → j ≡ i
        only j (inl e) = sym e
        only j (inr e) = absurd e

    paths_there : Within g h i q
    paths_there p n e =
        elim (in_either p (received h i) (filter (has_target (target_of h.asn i ∷ [])) (reoriginated_paths h)) n) as (λ _. Member p (paths_of g i)) [
          | inl r ↦ in_left p (received g i) (filter (has_target (target_of g.asn i ∷ [])) (reoriginated_paths g))
              (received_there i clean.other p (λ j mv. clean.row j (subst (Moves j) e mv)) r)
          | inr l ↦
              let f = from_filter (has_target (target_of h.asn i ∷ [])) p (reoriginated_paths h) l in
              in_right p (received g i) (filter (has_target (target_of g.asn i ∷ [])) (reoriginated_paths g))
              (in_filter (has_target (target_of g.asn i ∷ [])) p (reoriginated_paths g) (led_there p f.0 f.1 e) (ap (λ a. has_target (target_of a i ∷ []) p) m.asn ∙ f.1))
        ]

    up_at_there : (b : Bool) → is_up_at h i q b ≡ true → is_up_at g i q b ≡ true
    up_at_there b e = at_hop (is_hop i) refl e
      where
        at_subnet : is_hop i ≡ true → (s : Side) → side_at h.feed (use_of i) b ≡ Some s → place_of i ≤ s.chain.services → list_any (same_prefix q) (subnets s) ≡ true
            → is_up h s q (distance s (place_of i)) ≡ true → (side_at g.feed (use_of i) b ≡ Some s) × (is_up g s q (distance s (place_of i)) ≡ true)
        at_subnet is s e within listed up =
            let parts = side_parts h.feed (use_of i) b s e in
            let held : Member s (sides h.feed) = in_sides h.feed s.chain s.is_right parts.0 in
            let d = distance s (place_of i) in
            let w = no_farther s (place_of i) within in
            let others = along_there s held d w (at_distance s i is parts.1.0 within) in
            let there = side_use g.feed s (m.held s held d w (others d w)) in (
              subst (λ (n : ℕ). side_at g.feed n b ≡ Some s) parts.1.0
                  (ap (option_map (seen_from b)) (use_held g.feed s.chain there) ∙ ap (λ c. Some (seen_from c s.chain)) (sym parts.1.1)),
              up_there s held others (clean.of_use s held (at_use s i q is parts.1.0 within listed)) q d w up,
            )

        at_listed : is_hop i ≡ true → (s : Side) → side_at h.feed (use_of i) b ≡ Some s → place_of i ≤ s.chain.services → (t : Bool) → list_any (same_prefix q) (subnets s) ≡ t
            → cond t (is_up h s q (distance s (place_of i))) false ≡ true → (side_at g.feed (use_of i) b ≡ Some s) × (cond t (is_up g s q (distance s (place_of i))) false ≡ true)
        at_listed is s e within true listed up = at_subnet is s e within listed up
        at_listed is s e within false listed up = absurd (true≢false (sym up))

        at_place : is_hop i ≡ true → (s : Side) → side_at h.feed (use_of i) b ≡ Some s → (t : Bool) → nat_le (place_of i) s.chain.services ≡ t
            → cond t (cond (list_any (same_prefix q) (subnets s)) (is_up h s q (distance s (place_of i))) false) false ≡ true
            → (side_at g.feed (use_of i) b ≡ Some s) × (cond t (cond (list_any (same_prefix q) (subnets s)) (is_up g s q (distance s (place_of i))) false) false ≡ true)
        at_place is s e true within up = at_listed is s e (within_from (place_of i) s.chain.services within) (list_any (same_prefix q) (subnets s)) refl up
        at_place is s e false within up = absurd (true≢false (sym up))

        at_side : is_hop i ≡ true → (o : Option Side) → side_at h.feed (use_of i) b ≡ o → is_up_on h (place_of i) q o ≡ true → is_up_on g (place_of i) q (side_at g.feed (use_of i) b) ≡ true
        at_side is None e up = absurd (true≢false (sym up))
        at_side is (Some s) e up =
            let f = at_place is s e (nat_le (place_of i) s.chain.services) refl up in
            ap (is_up_on g (place_of i) q) f.0 ∙ f.1

        at_hop : (t : Bool) → is_hop i ≡ t → cond t (is_up_on h (place_of i) q (side_at h.feed (use_of i) b)) false ≡ true → cond t (is_up_on g (place_of i) q (side_at g.feed (use_of i) b)) false ≡ true
        at_hop true is up = at_side is (side_at h.feed (use_of i) b) refl up
        at_hop false is up = absurd (true≢false (sym up))

-- both ways
pub alike : (h g : Holdings) (own : InstanceId → Bool) (Moves : InstanceId → Block → Type 0) → IsMoved h g own Moves → IsMoved g h own Moves → AreShort h.feed → AreShort g.feed
    → (k : RowKey) → IsClean h own Moves k.instance k.prefix → IsClean g own Moves k.instance k.prefix → entry_of h k ≡ entry_of g k
alike h g own Moves there back short_h short_g k clean_h clean_g =
    let up : (b : Bool) → is_up_at h k.instance k.prefix b ≡ is_up_at g k.instance k.prefix b =
    λ b. iff_same (is_up_at h k.instance k.prefix b) (is_up_at g k.instance k.prefix b) (up_at_there h g own Moves there short_h k.instance k.prefix clean_h b) (up_at_there g h own Moves back short_g k.instance k.prefix clean_g b) in
    λ n. record {
      path = same_selected h g k.instance k.prefix (paths_there g h own Moves back short_g k.instance k.prefix clean_g) (paths_there h g own Moves there short_h k.instance k.prefix clean_h) n;
      is_up_right = up true n;
      is_up_left = up false n;
    }

-- ---- what is clean in the one is clean in the other
at_most : (k j : ℕ) → Member j (below k ++ k ∷ []) → j ≤ k
at_most k j n =
    elim (in_either j (below k) (k ∷ []) n) as (λ _. j ≤ k) [
      | inl b ↦ less j k (from_below k j b)
      | inr r ↦ elim r as (λ _. j ≤ k) [ inl e ↦ same j k e | inr n ↦ absurd n ]
    ]
  where
    less : (j k : ℕ) → j < k → j ≤ k
    less j k h = omega arith

    same : (j k : ℕ) → k ≡ j → j ≤ k
    same j k e = omega arith

-- each place of a use is at a distance from a side's end
placed : (s : Side) (n : InstanceId) → Member n (hops s.chain) → (d : ℕ) × (d ≤ s.chain.services) × (hop_at s d ≡ n)
placed s n m =
    let f = from_map (hop s.chain) n (below s.chain.services ++ s.chain.services ∷ []) m in
    let w = at_most s.chain.services f.0 f.1 in
    (distance s f.0, no_farther s f.0 w, ap (hop s.chain) (back s.is_right f.0 w) ∙ f.2)
  where
    again : (k j : ℕ) → j ≤ k → k - (k - j) ≡ j
    again k j w = omega (arith, w)

    back : (b : Bool) (j : ℕ) → j ≤ s.chain.services → cond b (s.chain.services - cond b (s.chain.services - j) j) (cond b (s.chain.services - j) j) ≡ j
    back true j w = again s.chain.services j w
    back false j w = refl

row_placed : (s : Side) (i : InstanceId) (q : Block) → Member (at_row i q) (rows_at_use s.chain) → Member i (hops s.chain)
row_placed s i q m =
    let f = from_flat_map (λ (i : InstanceId). map (λ (subnet : Block). (i, subnet)) (s.chain.left_subnets ++ s.chain.right_subnets)) (at_row i q) (hops s.chain) m in
    let e = from_map (λ (subnet : Block). (f.0, subnet)) (at_row i q) (s.chain.left_subnets ++ s.chain.right_subnets) f.2 in
    subst (λ (j : InstanceId). Member j (hops s.chain)) (ap (λ (r : InstanceId × Block). r.0) e.2) f.1

pub clean_too : (h g : Holdings) (own : InstanceId → Bool) (Moves : InstanceId → Block → Type 0) → IsMoved h g own Moves → IsMoved g h own Moves → (i : InstanceId) (q : Block)
    → IsClean h own Moves i q → IsClean g own Moves i q
clean_too h g own Moves there back i q clean = record {
  other = clean.other;
  row = λ j mv. imports_same j i clean.other ∙ clean.row j mv;
  of_use = λ s n r j x mv.
      let at = placed s i (row_placed s i q r) in
      let others : (e : ℕ) → e ≤ s.chain.services → own (hop_at s e) ≡ false = λ e w. back.along s n at.0 e at.1 w (ap own at.2 ∙ clean.other) in
      all_same j (hops s.chain) (λ x p. let f = placed s x p in ap own (sym f.2) ∙ others f.0 f.1)
      ∙ clean.of_use s (back.held s n at.0 at.1 (others at.0 at.1)) r j x mv;
}
  where
    imports_same : (j n : InstanceId) → own n ≡ false → imports_one g (target_of g.asn j ∷ []) n ≡ imports_one h (target_of h.asn j ∷ []) n
    imports_same j n other = λ k. list_any (λ (t : Target). list_any (λ (u : Target). t.0 == u.0) (map (target_of (there.asn k)) (sym (there.imported n other) k))) (target_of (there.asn k) j ∷ [])

    all_same : (j : InstanceId) (ns : List InstanceId) → ((n : InstanceId) → Member n ns → own n ≡ false) → list_any (imports_one g (target_of g.asn j ∷ [])) ns ≡ list_any (imports_one h (target_of h.asn j ∷ [])) ns
    all_same j [] f = refl
    all_same j (n ∷ ns) f = λ k. imports_same j n (f n (inl refl)) k || all_same j ns (λ x m. f x (inr m)) k
