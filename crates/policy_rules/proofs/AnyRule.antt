-- Whether some rule between two networks passes a test: neither the order of policies nor the numbers matter.
use Rattle.std.proofs.Common.{◌≡◌, ℕ, ◌+◌, ◌&&◌, ◌||◌, Bool, true, false, ltb, cond, List, [], ◌∷◌, refl, ap, ◌∙◌}
use Rattle.std.specs.Prelude.{filter, flat_map}
use Rattle.std.specs.List.{list_any}
use Rattle.std.proofs.lemmas.List.Folds.{list_any-append}
use Rattle.config_types.specs.declared.config.Config.{Config}
use Rattle.config_types.specs.declared.config.Network.{Network}
use Rattle.config_types.specs.declared.config.Policy.{Policy}
use Rattle.config_types.specs.declared.config.Rule.{Rule}
use Rattle.policy_rules.specs.Related.{NumberedRule, numbered_from, numbered_rules, attaches, put_by_sequence, by_sequence, fits, rules_between}

-- the first two of three tests in either order
swapped : (a b c : Bool) → (a || (b || c)) ≡ (b || (a || c))
swapped true true c = refl
swapped true false c = refl
swapped false true c = refl
swapped false false c = refl

pub any_filter : {A : Type 0} (f p : A → Bool) (xs : List A) → list_any f (filter p xs) ≡ list_any (λ x. p x && f x) xs
any_filter f p [] = refl
any_filter f p (x ∷ xs) =
    elim (p x) as (λ b. list_any f (cond b (x ∷ filter p xs) (filter p xs)) ≡ ((b && f x) || list_any (λ y. p y && f y) xs)) [
      | true ↦ ap (λ (r : Bool). f x || r) (any_filter f p xs)
      | false ↦ any_filter f p xs
    ]

pub any_flat_map : {A B : Type 0} (f : B → Bool) (g : A → List B) (xs : List A) → list_any f (flat_map g xs) ≡ list_any (λ x. list_any f (g x)) xs
any_flat_map f g [] = refl
any_flat_map f g (x ∷ xs) = list_any-append f (g x) (flat_map g xs) ∙ ap (λ (r : Bool). list_any f (g x) || r) (any_flat_map f g xs)

pub any_same : {A : Type 0} (f g : A → Bool) → ((x : A) → f x ≡ g x) → (xs : List A) → list_any f xs ≡ list_any g xs
any_same f g same [] = refl
any_same f g same (x ∷ xs) = ap (λ (b : Bool). b || list_any f xs) (same x) ∙ ap (λ (r : Bool). g x || r) (any_same f g same xs)

any_put : (f : Policy → Bool) (p : Policy) (ps : List Policy) → list_any f (put_by_sequence p ps) ≡ (f p || list_any f ps)
any_put f p [] = refl
any_put f p (q ∷ qs) =
    elim (ltb q.sequence p.sequence) as (λ b. list_any f (cond b (q ∷ put_by_sequence p qs) (p ∷ q ∷ qs)) ≡ (f p || (f q || list_any f qs))) [
      | true ↦ ap (λ (r : Bool). f q || r) (any_put f p qs) ∙ swapped (f q) (f p) (list_any f qs)
      | false ↦ refl
    ]

any_by_sequence : (f : Policy → Bool) (ps : List Policy) → list_any f (by_sequence ps) ≡ list_any f ps
any_by_sequence f [] = refl
any_by_sequence f (p ∷ ps) = any_put f p (by_sequence ps) ∙ ap (λ (r : Bool). f p || r) (any_by_sequence f ps)

any_numbered : (f : Rule → Bool) (sequence position : ℕ) (rs : List Rule) → list_any (λ r. f r.rule) (numbered_from sequence position rs) ≡ list_any f rs
any_numbered f sequence position [] = refl
any_numbered f sequence position (r ∷ rs) = ap (λ (b : Bool). f r || b) (any_numbered f sequence (position + 1) rs)

-- a rule of one of the policies that both attach, whatever their order
pub any_between : (f : Rule → Bool) (c : Config) (a b : Network)
    → list_any (λ r. f r.rule) (rules_between c a b)
    ≡ list_any (λ p. (attaches a p && attaches b p) && list_any (λ r. (fits r a b || fits r b a) && f r) p.rules) c.policies
any_between f c a b =
    let kept : Rule → Bool = λ r. (fits r a b || fits r b a) && f r in
    let shared : List Policy = filter (λ p. attaches a p && attaches b p) c.policies in
    any_filter (λ (r : NumberedRule). f r.rule) (λ r. fits r.rule a b || fits r.rule b a) (flat_map numbered_rules (by_sequence shared))
    ∙ any_flat_map (λ (r : NumberedRule). kept r.rule) numbered_rules (by_sequence shared)
    ∙ any_same (λ p. list_any (λ r. kept r.rule) (numbered_rules p)) (λ p. list_any kept p.rules) (λ p. any_numbered kept p.sequence 1 p.rules) (by_sequence shared)
    ∙ any_by_sequence (λ p. list_any kept p.rules) shared
    ∙ any_filter (λ p. list_any kept p.rules) (λ p. attaches a p && attaches b p) c.policies
