-- Rows of marks.
use Rattle.std.proofs.Common.{◌≡◌, ℕ, zero, suc, ◌+◌, ◌<◌, ◌≤◌, ◌≢◌, inl, inr, ◌&&◌, ◌||◌, Bool, true, false, List, [], ◌∷◌, length, get_or, set, take, replicate, Option, Some, None, refl, sym, ap, ◌∙◌, arith, subst}
use Rattle.std.specs.List.{list_any}
use Rattle.std.specs.Option.{ForSome, IfSome, option_map_or}
use Rattle.std.proofs.lemmas.Bool.{cases_lt}
use Rattle.std.proofs.lemmas.Option.{slice_get-get_or, slice_get_past}
use Rattle.config_types.specs.declared.config.Chain.{Chain}
use Rattle.std.proofs.lemmas.List.{get_or-set_same, get_or-set_other, length-set}
use Rattle.std.proofs.lemmas.List.Folds.{list_any_more}
use Rattle.config_types.specs.declared.config.Config.{Config}
use Rattle.chain_expand.specs.Links.{meets, with_mark, is_marked, place_named, HasNamed, hops_at, IsLinked}

absorbed : (r m s : Bool) → (m || s) ≡ (r && m || s || m)
absorbed true true s = refl
absorbed true false true = refl
absorbed true false false = refl
absorbed false true true = refl
absorbed false true false = refl
absorbed false false true = refl
absorbed false false false = refl

regrouped : (a b m : Bool) → (a || (b || m)) ≡ (a || b || m)
regrouped true b m = refl
regrouped false b m = refl

pub meets-set : (row marks : List Bool) (p : ℕ) → p < length row → p < length marks → meets (set row p true) marks ≡ (meets row marks || get_or marks p false)
meets-set [] marks p lt lt' = absurd (omega arith)
meets-set (r ∷ row) [] p lt lt' = absurd (omega arith)
meets-set (r ∷ row) (m ∷ marks) zero lt lt' = absorbed r m (meets row marks)
meets-set (r ∷ row) (m ∷ marks) (suc p) lt lt' =
    ap (λ b. r && m || b) (meets-set row marks p (omega arith) (omega arith))
    ∙ regrouped (r && m) (meets row marks) (get_or marks p false)

pub meets_none : (n : ℕ) (marks : List Bool) → meets (replicate n false) marks ≡ false
meets_none zero marks = refl
meets_none (suc n) [] = refl
meets_none (suc n) (m ∷ marks) = meets_none n marks

or_false : (b : Bool) → (b || false) ≡ b
or_false true = refl
or_false false = refl

meets_marked : (row marks : List Bool) (place : Option ℕ) → length row ≡ 128 → length marks ≡ 128 → ForSome place (λ p. p < 128) → meets (with_mark row place) marks ≡ (meets row marks || is_marked marks place)
meets_marked row marks None size size' within = sym (or_false (meets row marks))
meets_marked row marks (Some p) size size' within = meets-set row marks p (let lt : p < 128 = within p refl in omega arith) (let lt : p < 128 = within p refl in omega arith)

pub length-with_mark : (row : List Bool) (place : Option ℕ) → length (with_mark row place) ≡ length row
length-with_mark row None = refl
length-with_mark row (Some p) = length-set row p true

pub within_marks : (place : Option ℕ) (n : ℕ) → n ≤ 128 → IfSome place (λ p. p < n) → ForSome place (λ p. p < 128)
within_marks None n le h = λ p e. absurd cc
within_marks (Some q) n le h = λ p e. let same : q ≡ p = cc in omega arith

pub has_more : (c : Config) (hops : List (List ℕ)) (i : ℕ) (hop : List ℕ) (row : List Bool) (place : Option ℕ) → HasNamed c (take i hops) row → length row ≡ 128 → i < length hops → hop ≡ get_or hops i hop → place ≡ place_named c hop → ForSome place (λ p. p < 128) → HasNamed c (take (i + 1) hops) (with_mark row place)
has_more c hops i hop row place has size lt is named within = λ marks size'.
    let test : List ℕ → Bool = λ h. is_marked marks (place_named c h) in
    meets_marked row marks place size size' within
    ∙ ap (λ b. b || is_marked marks place) (has marks size')
    ∙ ap (λ b. list_any test (take i hops) || b) (ap (λ o. is_marked marks o) named ∙ ap test is)
    ∙ sym (list_any_more test hops i hop lt)

pub has_none : (c : Config) → HasNamed c [] (replicate 128 false)
has_none c = λ marks size. meets_none 128 marks

hops_at_is : (c : Config) (i : ℕ) (d : Chain) → i < length c.chains → d ≡ get_or c.chains i d → hops_at c i ≡ d.hops
hops_at_is c i d lt is = ap (λ o. option_map_or (λ e. e.hops) o []) (slice_get-get_or c.chains i d lt ∙ ap (λ e. Some e) (sym is))

hops_at_past : (c : Config) (i : ℕ) → length c.chains ≤ i → hops_at c i ≡ []
hops_at_past c i le = ap (λ o. option_map_or (λ e. e.hops) o []) (slice_get_past c.chains i le)

pub linked_more : (c : Config) (rows : List (List Bool)) (i : ℕ) (d : Chain) (row : List Bool) → length rows ≡ 128 → length c.chains ≤ 128 → i < length c.chains → d ≡ get_or c.chains i d → HasNamed c d.hops row → ((k : ℕ) → k < i → HasNamed c (hops_at c k) (get_or rows k [])) → (k : ℕ) → k < i + 1 → HasNamed c (hops_at c k) (get_or (set rows i row) k [])
linked_more c rows i d row size few lt is has done k below =
    elim (cases_lt k i) [
      | inl before ↦ let other : k ≢ i = omega arith in rw (get_or-set_other rows i k row [] other) (done k before)
      | inr from ↦
          let here : k ≡ i = omega arith in
          let within : i < length rows = omega arith in
          subst (λ (j : ℕ). HasNamed c (hops_at c j) (get_or (set rows i row) j [])) (sym here)
          (rw (get_or-set_same rows i row [] within, hops_at_is c i d lt is) has)
    ]

pub left_more : (rows : List (List Bool)) (i : ℕ) (row : List Bool) → ((k : ℕ) → i ≤ k → k < 128 → get_or rows k [] ≡ replicate 128 false) → (k : ℕ) → i + 1 ≤ k → k < 128 → get_or (set rows i row) k [] ≡ replicate 128 false
left_more rows i row left k le lt =
    let other : k ≢ i = omega arith in get_or-set_other rows i k row [] other ∙ left k (omega arith) lt

pub linked_all : (c : Config) (rows : List (List Bool)) (i : ℕ) → length c.chains ≤ i → ((k : ℕ) → k < i → HasNamed c (hops_at c k) (get_or rows k [])) → ((k : ℕ) → i ≤ k → k < 128 → get_or rows k [] ≡ replicate 128 false) → IsLinked c rows
linked_all c rows i le done left = λ k lt.
    elim (cases_lt k i) [
      | inl before ↦ done k before
      | inr from ↦ rw (left k from lt, hops_at_past c k (omega arith)) (has_none c)
    ]
