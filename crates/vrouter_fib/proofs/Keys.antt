-- Entries under a key, in two spellings.
use Rattle.std.proofs.Common.{◌≡◌, ℕ, ◌==◌, Bool, true, false, cond, List, [], ◌∷◌, Some, option_map, find, refl, arith}
use Rattle.std.specs.Map.{lookup}
use Rattle.std.specs.Ordering.{nat_cmp, is_eq}
use Rattle.std.proofs.lemmas.Grind.{common_steps}

pub lookup_find : {K X : Type 0} (t : K → Bool) (p : K × X → Bool) → ((k : K) (x : X) → t k ≡ p (k, x)) → (es : List (K × X))
    → lookup t es ≡ option_map (λ e. e.1) (find p es)
lookup_find t p same [] = refl
lookup_find {K} {X} t p same (e ∷ es) =
    let rest = lookup_find t p same es in
    rw (same e.0 e.1) (elim (p e) as (λ b. cond b (Some e.1) (lookup t es) ≡ option_map (λ (d : K × X). d.1) (cond b (Some e) (find p es))) [
      | true ↦ refl
      | false ↦ rest
    ])

pub same_number : (m n : ℕ) → is_eq (nat_cmp m n) ≡ (n == m)
same_number m n = grind (arith, common_steps)
