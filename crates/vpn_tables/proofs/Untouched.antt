-- Along a use that is not touched nothing changes.
use Rattle.std.specs.Prelude.{◌≡◌, ◌≢◌, ◌⊎◌, ℕ, zero, suc, ◌+◌, ◌*◌, ◌-◌, ◌/◌, ◌<◌, ◌≤◌, List, [], ◌∷◌, ◌++◌, map, Bool, true, false, cond, ◌==◌, ◌&&◌, ◌||◌, is_some, Some, None}
use Rattle.std.specs.declared.option.Option.{Option}
use Rattle.std.specs.List.{filter, list_any}
use Rattle.std.proofs.lemmas.Bool.{true≢false, eq-eqb, or_left}
use Rattle.std.proofs.Common.{refl, sym, ◌∙◌, ap, inl, inr, arith}
use Rattle.ov_types.specs.Prefix.{Block, is_inside}
use Rattle.ov_types.specs.declared.numbers.InstanceId.{InstanceId}
use Rattle.ov_types.specs.declared.numbers.Label.{Label as LabelNo}
use Rattle.ov_types.specs.declared.prefix.Addr.{Addr}
use Rattle.ov_types.specs.declared.targets.Target.{Target}
use Rattle.route_targets.specs.Numbers.{target_of, circuit_instance_of, left_circuit_of, right_circuit_of}
use Rattle.node_model.specs.Members.{Member}
use Rattle.node_model.specs.Maps.{Map}
use Rattle.node_model.specs.Uses.{hop, imports}
use Rattle.node_model.specs.Paths.{Holdings, Told, Path, has_target, own_paths, peer_paths, received}
use Rattle.node_model.specs.Reaching.{Side, sides, subnets, hop_at, circuit_at, below, publisher, has_path_within, towards, is_up, into, reoriginated_paths, AreShort}
use Rattle.node_model.proofs.Members.{any_in, from_any, in_map}
use Rattle.node_model.proofs.Objects.{imports_hop, side_use}
use Rattle.node_model.proofs.Routes.{from_below}
use Rattle.node_model.proofs.Unknown.{le_trans, place_at, place_at-within}
use Rattle.vpn_holdings.specs.Listing.{hops}
use Rattle.vpn_holdings.specs.Touched.{imports_one, is_touched}
use Rattle.vpn_tables.proofs.Moves.{Covers, Moves, told_otherwise}
use Rattle.vpn_holdings.specs.Leading.{leads}
use Rattle.vpn_tables.proofs.Known.{in_places}
use Rattle.vpn_tables.proofs.Filtering.{all_from, false_from, filter_append, filter_flat_map, filter_none, flat_map_same}

-- the circuit at a place of a side is in the instance of that place
pub circuit_place : (s : Side) (d : ℕ) → circuit_instance_of (circuit_at s d) ≡ hop_at s d
circuit_place s d =
    elim s.is_right as (λ b. circuit_instance_of (cond b (left_circuit_of s.chain.number (s.chain.services - d + 1)) (right_circuit_of s.chain.number d)) ≡ hop s.chain (cond b (s.chain.services - d) d)) [
      | true ↦ λ i. record { 0 = odd s.chain.number (s.chain.services - d) i }
      | false ↦ λ i. record { 0 = even s.chain.number d i }
    ]
  where
    odd : (n x : ℕ) → (2 * (16384 + 16 * n + (x + 1 - 1)) + 1) / 2 ≡ 16384 + 16 * n + x
    odd n x = omega arith

    even : (n x : ℕ) → 2 * (16384 + 16 * n + x) / 2 ≡ 16384 + 16 * n + x
    even n x = omega arith

module _ (h : Holdings) (peers : List Map) (agents : List Told) (moved : List Path) (place : Option InstanceId) (m : Moves moved place h (told_otherwise h peers agents)) (targets : List Target) (covers : Covers h.asn moved place targets) where
  abbrev later : Holdings
  later = told_otherwise h peers agents

  abbrev wanted : InstanceId → List Target
  wanted i = map (target_of h.asn) (imports h.feed i)

  abbrev among : InstanceId → Target → Bool
  among i t = list_any (λ u. t.0 == u.0) (wanted i)

  -- what moved has no target of an import
  pub not_moved : (i : InstanceId) → imports_one h targets i ≡ false → (p : Path) → Member p moved → has_target (wanted i) p ≡ false
  not_moved i none p in_moved =
      false_from (imports_one h targets i) (has_target (wanted i) p) (λ t.
      let q = from_any (among i) p.targets t in
      any_in (among i) q.0 targets (covers.paths p q.0 in_moved q.1) q.2) none

  pub received_same : (i : InstanceId) → imports_one h targets i ≡ false → received h i ≡ received later i
  received_same i none =
      let test = has_target (wanted i) in
      let all = all_from (λ p. test p ≡ false) moved (not_moved i none) in
      filter_append test (own_paths h) (peer_paths h) ∙ (λ k. m.own test all k ++ m.peers test all k) ∙ sym (filter_append test (own_paths later) (peer_paths later))

  -- a use that is not touched
  module _ (s : Side) (held : Member s (sides h.feed)) (short : AreShort h.feed) (none : is_touched h targets s.chain ≡ false) where
    untouched : (d : ℕ) → d ≤ s.chain.services → imports_one h targets (hop_at s d) ≡ false
    untouched d w =
        false_from (is_touched h targets s.chain) (imports_one h targets (hop_at s d)) (λ t.
        any_in (imports_one h targets) (hop_at s d) (hops s.chain) (in_map (hop s.chain) (place_at s d) (below s.chain.services ++ s.chain.services ∷ []) (in_places s.chain.services (place_at s d) (place_at-within s d w))) t) none

    imports_itself : (d : ℕ) → d ≤ s.chain.services → among (hop_at s d) (target_of h.asn (hop_at s d)) ≡ true
    imports_itself d w =
        let u = side_use h.feed s held in
        let at = place_at-within s d w in
        ap (λ (is : List InstanceId). list_any (λ u. (target_of h.asn (hop_at s d)).0 == u.0) (map (target_of h.asn) is)) (imports_hop h.feed s.chain (place_at s d) u (le_trans (place_at s d) s.chain.services 15 at (short s.chain u)) at)
        ∙ or_left ((target_of h.asn (hop_at s d)).0 == (target_of h.asn (hop_at s d)).0) _ (eq-eqb (target_of h.asn (hop_at s d)).0 (target_of h.asn (hop_at s d)).0 refl)

    elsewhere : (d : ℕ) → d ≤ s.chain.services → place ≢ Some (hop_at s d)
    elsewhere d w e =
        true≢false (sym (any_in (among (hop_at s d)) (target_of h.asn (hop_at s d)) targets (covers.published (hop_at s d) e) (imports_itself d w)) ∙ untouched d w)

    pub published_same : (d : ℕ) → d ≤ s.chain.services → publisher h (circuit_at s d) ≡ publisher later (circuit_at s d)
    published_same d w = m.publishers (circuit_at s d) (λ e. elsewhere d w (e ∙ ap Some (circuit_place s d)))

    within_same : (d : ℕ) (subnet : Block) → d ≤ s.chain.services → has_path_within h (hop_at s d) subnet ≡ has_path_within later (hop_at s d) subnet
    within_same d subnet w = ap (list_any (λ p. is_inside p.prefix subnet)) (received_same (hop_at s d) (untouched d w))

    pub up_same : (d : ℕ) (subnet : Block) → d ≤ s.chain.services → is_up h s subnet d ≡ is_up later s subnet d
    up_same zero subnet w = within_same zero subnet w
    up_same (suc d) subnet w = λ i. within_same (suc d) subnet w i || (is_some (published_same (suc d) w i) && up_same d subnet (before d s.chain.services w) i)
      where
        before : (d k : ℕ) → suc d ≤ k → d ≤ k
        before d k h = omega arith

    towards_same : (i : InstanceId) (subnet : Block) (o : Option (Addr × LabelNo)) → towards h i subnet o ≡ towards later i subnet o
    towards_same i subnet None = refl
    towards_same i subnet (Some p) = refl

    into_same : (d : ℕ) → d < s.chain.services → into (is_up h) h s d ≡ into (is_up later) later s d
    into_same d w =
        flat_map_same
        (λ subnet. cond (is_up h s subnet d) (towards h (hop_at s (suc d)) subnet (publisher h (circuit_at s (suc d)))) [])
        (λ subnet. cond (is_up later s subnet d) (towards later (hop_at s (suc d)) subnet (publisher later (circuit_at s (suc d)))) [])
        (subnets s) (λ subnet _.
        (λ i. cond (up_same d subnet (weaker d s.chain.services w) i) (towards h (hop_at s (suc d)) subnet (published_same (suc d) (next d s.chain.services w) i)) [])
        ∙ ap (λ ps. cond (is_up later s subnet d) ps []) (towards_same (hop_at s (suc d)) subnet (publisher later (circuit_at s (suc d)))))
      where
        weaker : (d k : ℕ) → d < k → d ≤ k
        weaker d k h = omega arith

        next : (d k : ℕ) → d < k → suc d ≤ k
        next d k h = omega arith

    leads_same : leads h s ≡ leads later s
    leads_same = flat_map_same (into (is_up h) h s) (into (is_up later) later s) (below s.chain.services) (λ d b. into_same d (from_below s.chain.services d b))

  -- the routes that lead on are the same, but for those along touched uses
  pub led_same : AreShort h.feed → (test : Path → Bool)
      → ((s : Side) → Member s (sides h.feed) → is_touched h targets s.chain ≡ true → (p : Path) → Member p (leads h s) ⊎ Member p (leads later s) → test p ≡ false)
      → filter test (reoriginated_paths h) ≡ filter test (reoriginated_paths later)
  led_same short test apart =
      filter_flat_map test (leads h) (leads later) (sides h.feed) (λ s held.
      elim (is_touched h targets s.chain) as (λ b. is_touched h targets s.chain ≡ b → filter test (leads h s) ≡ filter test (leads later s)) [
        | true ↦ λ e. filter_none test (leads h s) (λ p q. apart s held e p (inl q)) ∙ sym (filter_none test (leads later s) (λ p q. apart s held e p (inr q)))
        | false ↦ λ e. ap (filter test) (leads_same s held short e)
      ] refl)
