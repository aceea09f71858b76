-- The routes that lead on into a place that is not touched stay.
use Rattle.std.specs.Prelude.{◌≡◌, ℕ, zero, suc, ◌≤◌, List, [], map, Bool, true, false, cond, nat_le}
use Rattle.std.specs.declared.option.Option.{Option}
use Rattle.std.specs.declared.option.Option.TheVariants.{Some, None}
use Rattle.std.specs.List.{filter, flat_map, list_any}
use Rattle.std.proofs.Common.{refl, ◌∙◌, ap, arith}
use Rattle.ov_types.specs.Prefix.{Block}
use Rattle.ov_types.specs.declared.numbers.InstanceId.{InstanceId}
use Rattle.ov_types.specs.declared.numbers.Label.{Label as LabelNo}
use Rattle.ov_types.specs.declared.prefix.Addr.{Addr}
use Rattle.ov_types.specs.declared.targets.Target.{Target}
use Rattle.node_model.specs.Maps.{Map}
use Rattle.node_model.specs.Members.{Member}
use Rattle.node_model.specs.Uses.{is_hop, place_of, use_of, uses}
use Rattle.node_model.specs.Paths.{Holdings, Path, Told}
use Rattle.node_model.specs.Reaching.{AreShort, Side, circuit_at, hop_at, is_up, publisher, subnets, towards}
use Rattle.node_model.specs.Tables.{known_instances, same_prefix}
use Rattle.node_model.proofs.Members.{in_filter, in_flat_map, in_right}
use Rattle.node_model.proofs.Objects.{in_sides}
use Rattle.vpn_holdings.specs.Answers.{distance, side_at}
use Rattle.vpn_holdings.specs.At.{led_at, led_from, led_on_side}
use Rattle.vpn_holdings.specs.Touched.{imports_one, is_touched, rows_at_use, touched_rows}
use Rattle.vpn_tables.proofs.Moves.{Covers, Moves, told_otherwise}
use Rattle.vpn_tables.proofs.Untouched.{published_same, up_same}
use Rattle.vpn_tables.proofs.Wanted.{at_row}
use Rattle.vpn_tables.proofs.UpStays.{at_use, no_farther, side_parts, within_from}

module _ (h : Holdings) (peers : List Map) (agents : List Told) (moved : List Path) (place : Option InstanceId) (m : Moves moved place h (told_otherwise h peers agents)) (targets : List Target) (covers : Covers h.asn moved place targets) (short : AreShort h.feed) where
  abbrev later : Holdings
  later = told_otherwise h peers agents

  towards_same : (i : InstanceId) (q : Block) (o : Option (Addr × LabelNo)) → towards h i q o ≡ towards later i q o
  towards_same i q None = refl
  towards_same i q (Some by) = refl

  -- along a side of a use that is not touched
  from_same : (s : Side) → Member s.chain (uses h.feed) → is_touched h targets s.chain ≡ false → (q : Block) (d : ℕ) → d ≤ s.chain.services → led_from h s d q ≡ led_from later s d q
  from_same s held none q zero w = refl
  from_same s held none q (suc d) w =
      let sided = in_sides h.feed s.chain s.is_right held in
      (λ i. cond (up_same h peers agents moved place m targets covers s sided short none d q (before d s.chain.services w) i)
      (towards h (hop_at s (suc d)) q (published_same h peers agents moved place m targets covers s sided short none (suc d) w i)) [])
      ∙ ap (λ ps. cond (is_up later s q d) ps []) (towards_same (hop_at s (suc d)) q (publisher later (circuit_at s (suc d))))
    where
      before : (d k : ℕ) → suc d ≤ k → d ≤ k
      before d k h = omega arith

  pub led_stays : (prefix : Block) (i : InstanceId) (q : Block) (b : Bool) → (Member (at_row i q) (touched_rows h targets prefix) → ⊥) → led_at h i q b ≡ led_at later i q b
  led_stays prefix i q b clean =
      elim (is_hop i) as (λ t. is_hop i ≡ t → cond t (led_on_side h (place_of i) q (side_at h.feed (use_of i) b)) [] ≡ cond t (led_on_side later (place_of i) q (side_at h.feed (use_of i) b)) []) [
        | true ↦ λ is. at_side is (side_at h.feed (use_of i) b) refl
        | false ↦ λ _. refl
      ] refl
    where
      at_subnet : is_hop i ≡ true → (s : Side) → side_at h.feed (use_of i) b ≡ Some s → place_of i ≤ s.chain.services → list_any (same_prefix q) (subnets s) ≡ true
          → led_from h s (distance s (place_of i)) q ≡ led_from later s (distance s (place_of i)) q
      at_subnet is s e within listed =
          let parts = side_parts h.feed (use_of i) b s e in
          elim (is_touched h targets s.chain) as (λ t. is_touched h targets s.chain ≡ t → led_from h s (distance s (place_of i)) q ≡ led_from later s (distance s (place_of i)) q) [
            | true ↦ λ t. absurd (clean (in_right (at_row i q) (map (λ (i : InstanceId). (i, prefix)) (filter (imports_one h targets) (known_instances h.feed))) (flat_map rows_at_use (filter (is_touched h targets) (uses h.feed)))
                (in_flat_map rows_at_use s.chain (at_row i q) (filter (is_touched h targets) (uses h.feed)) (in_filter (is_touched h targets) s.chain (uses h.feed) parts.0 t)
                (at_use s i q is parts.1.0 within listed))))
            | false ↦ λ none. from_same s parts.0 none q (distance s (place_of i)) (no_farther s (place_of i) within)
          ] refl

      at_side : is_hop i ≡ true → (o : Option Side) → side_at h.feed (use_of i) b ≡ o → led_on_side h (place_of i) q o ≡ led_on_side later (place_of i) q o
      at_side is None e = refl
      at_side is (Some s) e =
          elim (nat_le (place_of i) s.chain.services) as (λ t. nat_le (place_of i) s.chain.services ≡ t
          → cond t (cond (list_any (same_prefix q) (subnets s)) (led_from h s (distance s (place_of i)) q) []) [] ≡ cond t (cond (list_any (same_prefix q) (subnets s)) (led_from later s (distance s (place_of i)) q) []) []) [
            | true ↦ λ within.
                elim (list_any (same_prefix q) (subnets s)) as (λ t. list_any (same_prefix q) (subnets s) ≡ t → cond t (led_from h s (distance s (place_of i)) q) [] ≡ cond t (led_from later s (distance s (place_of i)) q) []) [
                  | true ↦ λ listed. at_subnet is s e (within_from (place_of i) s.chain.services within) listed
                  | false ↦ λ _. refl
                ] refl
            | false ↦ λ _. refl
          ] refl
