-- A subnet is up exactly where it is reached along its chain.
use Rattle.std.specs.Prelude.{◌≡◌, ◌⊎◌, ℕ, zero, suc, ◌<◌, ◌≤◌, Bool, true, ◌&&◌, is_some}
use Rattle.std.proofs.lemmas.Bool.{or_cases, or_left, or_right, and_parts, and_from}
use Rattle.std.proofs.Common.{◌∙◌, ap, subst, inl, inr, arith}
use Rattle.ov_types.specs.Prefix.{Block}
use Rattle.node_model.specs.Paths.{Holdings}
use Rattle.node_model.specs.Reaching.{Side, hop_at, circuit_at, publisher, has_path_within, is_up, IsReached}

last_or_before : (e d : ℕ) → e ≤ suc d → (e ≤ d) ⊎ (e ≡ suc d)
last_or_before e d h = grind arith

not_between : (e d : ℕ) → d < e → e ≤ d → ⊥
not_between e d a b = omega arith

one_more : (e d : ℕ) → e ≤ d → e ≤ suc d
one_more e d h = omega arith

module _ (h : Holdings) (s : Side) (subnet : Block) where
  abbrev here : ℕ → Bool
  here d = has_path_within h (hop_at s d) subnet

  abbrev shown : ℕ → Bool
  shown d = is_some (publisher h (circuit_at s d))

  reached_here : (d : ℕ) → here d ≡ true → IsReached h s subnet d
  reached_here d e = record { place = d; nearer = omega arith; received = e; published = λ c a b. absurd (not_between c d a b) }

  pub reached_from : (d : ℕ) → is_up h s subnet d ≡ true → IsReached h s subnet d
  reached_from zero e = reached_here zero e
  reached_from (suc d) e =
      elim (or_cases (here (suc d)) (shown (suc d) && is_up h s subnet d) e) as (λ _. IsReached h s subnet (suc d)) [
        | inl l ↦ reached_here (suc d) l
        | inr r ↦
            let both = and_parts (shown (suc d)) (is_up h s subnet d) r in
            let rest = reached_from d both.1 in
            record {
              place = rest.place;
              nearer = one_more rest.place d rest.nearer;
              received = rest.received;
              published = λ c a b. elim (last_or_before c d b) as (λ _. shown c ≡ true) [ inl l ↦ rest.published c a l | inr is ↦ ap shown is ∙ both.0 ];
            }
      ]

  pub reached_to : (d : ℕ) → IsReached h s subnet d → is_up h s subnet d ≡ true
  reached_to zero r = subst (λ c. here c ≡ true) (least_is r.place r.nearer) r.received
    where
      least_is : (c : ℕ) → c ≤ zero → c ≡ zero
      least_is c h = omega arith
  reached_to (suc d) r =
      elim (last_or_before r.place d r.nearer) as (λ _. is_up h s subnet (suc d) ≡ true) [
        | inl l ↦ or_right (here (suc d)) (shown (suc d) && is_up h s subnet d)
            (and_from (shown (suc d)) (is_up h s subnet d) (r.published (suc d) (before r.place d l) (whole d))
            (reached_to d (record { place = r.place; nearer = l; received = r.received; published = λ c a b. r.published c a (one_more c d b) })))
        | inr is ↦ or_left (here (suc d)) (shown (suc d) && is_up h s subnet d) (subst (λ c. here c ≡ true) is r.received)
      ]
    where
      before : (c d : ℕ) → c ≤ d → c < suc d
      before c d h = omega arith

      whole : (d : ℕ) → suc d ≤ suc d
      whole d = omega arith
