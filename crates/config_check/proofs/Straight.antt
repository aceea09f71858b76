-- Chains where none leads back to itself.
use Rattle.std.proofs.Common.{◌≡◌, ℕ, ◌<◌, ◌&&◌, ◌||◌, ltb, Bool, true, false, cond, List, [], ◌∷◌, Option, Some, None, option_map, length, get_or, refl, sym, ◌∙◌}
use Rattle.std.specs.List.{find}
use Rattle.ov_types.specs.First.{same_name, first_meeting}
use Rattle.chain_expand.specs.Expansion.{leads, loops, loop_of, expansion, same_number, numbers_or_twice, numbers_or_fault}
use Rattle.config_types.specs.declared.config.Chain.{Chain}
use Rattle.config_types.specs.declared.config.Config.{Config}
use Rattle.config_types.specs.declared.config.Service.{Service}
use Rattle.config_check.specs.declared.refusal.Refusal.TheVariants.{ChainLoop, ChainTooLong, ServiceTwice}
use Rattle.config_check.specs.Rules.{broken_loop, broken_long, is_too_long, twice_in}
use Rattle.config_check.specs.Twice.{twice_of}
use Rattle.config_check.proofs.Lists.{none_found}

-- no answer, where an answer is made of what is found
nothing_mapped : {A B : Type 0} (f : A → B) (o : Option A) → option_map f o ≡ None → o ≡ None
nothing_mapped f None h = refl
nothing_mapped f (Some x) h = cc

none_of_both : {A : Type 0} (p q : A → Bool) (xs : List A) → find q xs ≡ None → find (λ x. p x && q x) xs ≡ None
none_of_both p q [] h = refl
none_of_both {A} p q (x ∷ xs) h =
    elim (q x) as (λ b. cond b (Some x) (find q xs) ≡ None → cond (p x && b) (Some x) (find (λ y. p y && q y) xs) ≡ None) [
      | true ↦ λ e. cc
      | false ↦ λ e. elim (p x) as (λ b. cond (b && false) (Some x) (find (λ y. p y && q y) xs) ≡ None) [
        | true ↦ none_of_both p q xs e
        | false ↦ none_of_both p q xs e
      ]
    ] h

pub no_loop : (c : Config) (name : List ℕ) → broken_loop c ≡ None → loop_of c name ≡ None
unfolding broken_loop
no_loop c name h =
    none_of_both (λ d. same_name d.name name || leads c name d.name) (λ d. loops c d.name) c.chains
    (nothing_mapped (λ (d : Chain). ChainLoop d.name) (find (λ d. loops c d.name) c.chains) h)

pub too_long_is : (c : Config) (d : Chain) → broken_loop c ≡ None → is_too_long c d ≡ ltb 15 (length (expansion c d.name))
too_long_is c d h = rw (no_loop c d.name h) refl

named_twice : (name : List ℕ) (services : List Service) (o : Option (Service × Service)) → twice_of name (numbers_or_twice name services o) ≡ option_map (λ m. ServiceTwice name m.1.name) o
named_twice name services None = refl
named_twice name services (Some m) = refl

twice_is : (name : List ℕ) (services : List Service) → ltb 15 (length services) ≡ false
    → twice_of name (numbers_or_fault name services) ≡ option_map (λ m. ServiceTwice name m.1.name) (first_meeting same_number services)
twice_is name services few = rw few (named_twice name services (first_meeting same_number services))

pub twice_in_is : (c : Config) (d : Chain) → broken_loop c ≡ None → is_too_long c d ≡ false → twice_of d.name (numbers_or_fault d.name (expansion c d.name)) ≡ twice_in c d
twice_in_is c d straight short =
    twice_is d.name (expansion c d.name) (sym (too_long_is c d straight) ∙ short) ∙ sym (rw (no_loop c d.name straight) refl)

pub none_too_long : (c : Config) (i : ℕ) (d : Chain) → i < length c.chains → d ≡ get_or c.chains i d → broken_long c ≡ None → is_too_long c d ≡ false
unfolding broken_long
none_too_long c i d lt at h = none_found (is_too_long c) c.chains i d lt at (nothing_mapped (λ (x : Chain). ChainTooLong x.name) (find (is_too_long c) c.chains) h)
