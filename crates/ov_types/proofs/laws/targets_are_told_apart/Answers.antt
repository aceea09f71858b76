use Rattle.std.proofs.Common.{◌≡◌, ◌⊎◌, ◌<◌, ◌^◌, ◌/◌, ◌%◌, ◌==◌, ℕ, IsTrue, inl, inr, arith, ap, ◌∙◌, nat_le}
use Rattle.std.proofs.lemmas.Bool.{cases_eq, and_parts, eqb-true}
use Rattle.ov_types.specs.Targets.{is_target}
use Rattle.ov_types.specs.Texts.{kinded_text, target_text}
use Rattle.ov_types.proofs.Told.{say_alike, shared}
use Rattle.ov_types.specs.Telling.{DifferInTheirSubtype, subtype_of, type_of}
use Rattle.ov_types.proofs.laws.targets_are_told_apart.Goals as goal

apart : (m n : ℕ) → m < 2 ^ 64 → n < 2 ^ 64 → target_text m ≡ target_text n → (m ≡ n) ⊎ DifferInTheirSubtype m n
apart m n sm sn e =
    elim (say_alike (m / 2 ^ 56) (n / 2 ^ 56) m n sm sn e) [
      | inl h ↦
          elim (cases_eq (subtype_of m) (subtype_of n)) [
            | inl same ↦ inl (omega (arith, h.1.0, h.1.1, same))
            | inr other ↦ inr (record { named = h.0; type = h.1.0; subtype = other; rest = h.1.1 })
          ]
      | inr same ↦ inl same
    ]

alike : (m n : ℕ) → (m ≡ n) ⊎ DifferInTheirSubtype m n → target_text m ≡ target_text n
alike m n (inl same) = ap target_text same
alike m n (inr d) = shared (type_of m) m n d.named d.rest ∙ ap (λ (k : ℕ). kinded_text k n) d.type

pub returns-clause-exactly : goal.returns-clause-exactly
returns-clause-exactly c = λ m n sm sn. (apart m n sm sn, alike m n)

both : (m n : ℕ) → m < 2 ^ 64 → n < 2 ^ 64 → IsTrue (is_target m) → IsTrue (is_target n) → target_text m ≡ target_text n → m ≡ n
both m n sm sn hm hn e =
    let subtype_m = eqb-true (m / 2 ^ 48 % 256) 2 (and_parts (nat_le (m / 2 ^ 56) 2) (m / 2 ^ 48 % 256 == 2) hm).1 in
    let subtype_n = eqb-true (n / 2 ^ 48 % 256) 2 (and_parts (nat_le (n / 2 ^ 56) 2) (n / 2 ^ 48 % 256 == 2) hn).1 in
    elim (say_alike (m / 2 ^ 56) (n / 2 ^ 56) m n sm sn e) [
      | inl h ↦ omega (arith, h.1.0, h.1.1, subtype_m, subtype_n)
      | inr same ↦ same
    ]

pub returns-clause-route_targets : goal.returns-clause-route_targets
returns-clause-route_targets c = both
