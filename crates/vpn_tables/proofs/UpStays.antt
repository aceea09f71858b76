-- Whether a subnet is up at a place that is not touched stays.
use Rattle.std.specs.Prelude.{◌≡◌, ℕ, ◌≤◌, ◌+◌, ◌*◌, ◌-◌, ◌/◌, ◌%◌, List, [], ◌∷◌, ◌++◌, map, Bool, true, false, cond, nat_le, nat_lt}
use Rattle.std.specs.declared.option.Option.{Option}
use Rattle.std.specs.declared.option.Option.TheVariants.{Some, None}
use Rattle.std.specs.Option.{option_map}
use Rattle.std.specs.List.{filter, flat_map, list_any}
use Rattle.std.proofs.lemmas.Option.{same_Some}
use Rattle.std.proofs.Common.{refl, sym, subst, arith}
use Rattle.ov_types.specs.Prefix.{Block}
use Rattle.ov_types.specs.declared.numbers.InstanceId.{InstanceId}
use Rattle.ov_types.specs.declared.objects.LowKey.TheVariants as key
use Rattle.ov_types.specs.declared.targets.Target.{Target}
use Rattle.node_model.specs.Maps.{Map, object}
use Rattle.node_model.specs.Members.{Member}
use Rattle.node_model.specs.Uses.{Use, hop, is_hop, place_of, use_from, use_of, uses}
use Rattle.node_model.specs.Paths.{Holdings, Told, Path}
use Rattle.node_model.specs.Reaching.{AreShort, Side, below, is_up, subnets}
use Rattle.node_model.specs.Tables.{known_instances, same_prefix}
use Rattle.node_model.proofs.Members.{from_any, in_filter, in_flat_map, in_left, in_map, in_right, none_some}
use Rattle.node_model.proofs.Objects.{in_sides}
use Rattle.node_model.proofs.Orders.{prefix_same}
use Rattle.node_model.proofs.Places.{use_found}
use Rattle.vpn_holdings.specs.Answers.{distance, is_up_at, is_up_on, seen_from, side_at}
use Rattle.vpn_holdings.specs.Listing.{hops}
use Rattle.vpn_holdings.specs.Touched.{imports_one, is_touched, rows_at_use, touched_rows}
use Rattle.vpn_tables.proofs.Known.{in_places}
use Rattle.vpn_tables.proofs.Moves.{Covers, Moves, told_otherwise}
use Rattle.vpn_tables.proofs.Untouched.{up_same}
use Rattle.vpn_tables.proofs.Wanted.{at_row}

-- the use of a side that is held
pub side_parts : (feed : Map) (n : ℕ) (b : Bool) (s : Side) → side_at feed n b ≡ Some s → (Member s.chain (uses feed)) × ((s.chain.number ≡ n) × (s.is_right ≡ b))
side_parts feed n b s e = of_held (use_from n (object feed (key.ChainUse n))) refl e
  where
    of_held : (o : Option Use) → use_from n (object feed (key.ChainUse n)) ≡ o → option_map (seen_from b) o ≡ Some s → (Member s.chain (uses feed)) × ((s.chain.number ≡ n) × (s.is_right ≡ b))
    of_held None is e = absurd (none_some s e)
    of_held (Some u) is e =
        let q = use_found feed n u is in
        let same : seen_from b u ≡ s = same_Some (seen_from b u) s e in
        (subst (λ (s : Side). Member s.chain (uses feed)) same q.0, (subst (λ (s : Side). s.chain.number ≡ n) same q.1, subst (λ (s : Side). s.is_right ≡ b) same refl))

-- a row of a place of a use, for a subnet of a side
pub hop_number : (i u : ℕ) → nat_lt 16383 i ≡ true → u ≡ (i - 16384) / 16 → 16384 + 16 * u + (i - 16384) % 16 ≡ i
hop_number i u e f = grind arith

pub at_use : (s : Side) (i : InstanceId) (q : Block) → is_hop i ≡ true → s.chain.number ≡ use_of i → place_of i ≤ s.chain.services → list_any (same_prefix q) (subnets s) ≡ true
    → Member (at_row i q) (rows_at_use s.chain)
at_use s i q is number within listed =
    let k = s.chain.services in
    let at : hop s.chain (place_of i) ≡ i = λ x. record { 0 = hop_number i.0 s.chain.number is number x } in
    let there : Member i (hops s.chain) = subst (λ (j : InstanceId). Member j (hops s.chain)) at (in_map (hop s.chain) (place_of i) (below k ++ k ∷ []) (in_places k (place_of i) within)) in
    let found = from_any (same_prefix q) (subnets s) listed in
    let same : q ≡ found.0 = prefix_same q found.0 found.2 in
    in_flat_map (λ (i : InstanceId). map (λ (subnet : Block). (i, subnet)) (s.chain.left_subnets ++ s.chain.right_subnets)) i (at_row i q) (hops s.chain) there
    (in_map (λ (subnet : Block). (i, subnet)) q (s.chain.left_subnets ++ s.chain.right_subnets)
    (subst (λ (x : Block). Member x (s.chain.left_subnets ++ s.chain.right_subnets)) (sym same) (of_side s.is_right found.0 found.1)))
  where
    of_side : (b : Bool) (x : Block) → Member x (cond b s.chain.right_subnets s.chain.left_subnets) → Member x (s.chain.left_subnets ++ s.chain.right_subnets)
    of_side true x m = in_right x s.chain.left_subnets s.chain.right_subnets m
    of_side false x m = in_left x s.chain.left_subnets s.chain.right_subnets m

pub within_from : (a b : ℕ) → nat_le a b ≡ true → a ≤ b
within_from a b e = grind arith

-- a place is no farther from the end than the last
pub no_farther : (s : Side) (place : ℕ) → place ≤ s.chain.services → distance s place ≤ s.chain.services
no_farther s place w = elim s.is_right as (λ b. cond b (s.chain.services - place) place ≤ s.chain.services) [ true ↦ back s.chain.services place | false ↦ w ]
  where
    back : (k j : ℕ) → k - j ≤ k
    back k j = omega arith

module _ (h : Holdings) (peers : List Map) (agents : List Told) (moved : List Path) (place : Option InstanceId) (m : Moves moved place h (told_otherwise h peers agents)) (targets : List Target) (covers : Covers h.asn moved place targets) (short : AreShort h.feed) where
  abbrev later : Holdings
  later = told_otherwise h peers agents

  pub up_stays : (prefix : Block) (i : InstanceId) (q : Block) (b : Bool) → (Member (at_row i q) (touched_rows h targets prefix) → ⊥) → is_up_at h i q b ≡ is_up_at later i q b
  up_stays prefix i q b clean =
      elim (is_hop i) as (λ t. is_hop i ≡ t → cond t (is_up_on h (place_of i) q (side_at h.feed (use_of i) b)) false ≡ cond t (is_up_on later (place_of i) q (side_at h.feed (use_of i) b)) false) [
        | true ↦ λ is. at_side is (side_at h.feed (use_of i) b) refl
        | false ↦ λ _. refl
      ] refl
    where
      at_subnet : is_hop i ≡ true → (s : Side) → side_at h.feed (use_of i) b ≡ Some s → place_of i ≤ s.chain.services → list_any (same_prefix q) (subnets s) ≡ true
          → is_up h s q (distance s (place_of i)) ≡ is_up later s q (distance s (place_of i))
      at_subnet is s e within listed =
          let parts = side_parts h.feed (use_of i) b s e in
          elim (is_touched h targets s.chain) as (λ t. is_touched h targets s.chain ≡ t → is_up h s q (distance s (place_of i)) ≡ is_up later s q (distance s (place_of i))) [
            | true ↦ λ t. absurd (clean (in_right (at_row i q) (map (λ (i : InstanceId). (i, prefix)) (filter (imports_one h targets) (known_instances h.feed))) (flat_map rows_at_use (filter (is_touched h targets) (uses h.feed)))
                (in_flat_map rows_at_use s.chain (at_row i q) (filter (is_touched h targets) (uses h.feed)) (in_filter (is_touched h targets) s.chain (uses h.feed) parts.0 t)
                (at_use s i q is parts.1.0 within listed))))
            | false ↦ λ none. up_same h peers agents moved place m targets covers s (in_sides h.feed s.chain s.is_right parts.0) short none (distance s (place_of i)) q (no_farther s (place_of i) within)
          ] refl

      at_side : is_hop i ≡ true → (o : Option Side) → side_at h.feed (use_of i) b ≡ o → is_up_on h (place_of i) q o ≡ is_up_on later (place_of i) q o
      at_side is None e = refl
      at_side is (Some s) e =
          elim (nat_le (place_of i) s.chain.services) as (λ t. nat_le (place_of i) s.chain.services ≡ t
          → cond t (cond (list_any (same_prefix q) (subnets s)) (is_up h s q (distance s (place_of i))) false) false ≡ cond t (cond (list_any (same_prefix q) (subnets s)) (is_up later s q (distance s (place_of i))) false) false) [
            | true ↦ λ within.
                elim (list_any (same_prefix q) (subnets s)) as (λ t. list_any (same_prefix q) (subnets s) ≡ t → cond t (is_up h s q (distance s (place_of i))) false ≡ cond t (is_up later s q (distance s (place_of i))) false) [
                  | true ↦ λ listed. at_subnet is s e (within_from (place_of i) s.chain.services within) listed
                  | false ↦ λ _. refl
                ] refl
            | false ↦ λ _. refl
          ] refl
