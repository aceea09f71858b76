-- The routes that lead subnets on.
use Rattle.std.specs.Prelude.{◌≡◌, ℕ, suc, ◌+◌, List, [], ◌∷◌, ◌++◌, true, false, cond}
use Rattle.std.specs.declared.option.Option.TheVariants.{None}
use Rattle.std.specs.List.{flat_map}
use Rattle.std.proofs.Common.{refl, sym, ◌∙◌, ap, arith}
use Rattle.ov_types.specs.Prefix.{Block}
use Rattle.path_select.specs.NodeModel.Paths.{Holdings, Path}
use Rattle.path_select.specs.NodeModel.Reaching.{Side, circuit_at, hop_at, into, is_up, publisher, subnets, towards}

-- what leads one subnet on
abbrev pub led_to : Holdings → Side → ℕ → Block → List Path
led_to h s d subnet = cond (is_up h s subnet d) (towards h (hop_at s (suc d)) subnet (publisher h (circuit_at s (suc d)))) []

nothing_led : (h : Holdings) (s : Side) (d : ℕ) (bs : List Block) → publisher h (circuit_at s (suc d)) ≡ None → flat_map (led_to h s d) bs ≡ []
nothing_led h s d [] e = refl
nothing_led h s d (b ∷ bs) e =
    ap (λ o. cond (is_up h s b d) (towards h (hop_at s (suc d)) b o) [] ++ flat_map (led_to h s d) bs) e
    ∙ elim (is_up h s b d) as (λ t. cond t [] [] ++ flat_map (led_to h s d) bs ≡ []) [ true ↦ nothing_led h s d bs e | false ↦ nothing_led h s d bs e ]

next_place : (d : ℕ) → d + 1 ≡ suc d
next_place d = omega arith

append_nothing : (xs : List Path) → xs ++ [] ≡ xs
append_nothing [] = refl
append_nothing (x ∷ xs) = ap (λ (l : List Path). x ∷ l) (append_nothing xs)

pub none_led : (h : Holdings) (s : Side) (d : ℕ) (xs : List Path) → publisher h (circuit_at s (d + 1)) ≡ None → xs ≡ xs ++ into (is_up h) h s d
none_led h s d xs e =
    sym (ap (λ (l : List Path). xs ++ l) (nothing_led h s d (subnets s) (ap (λ (n : ℕ). publisher h (circuit_at s n)) (sym (next_place d)) ∙ e)) ∙ append_nothing xs)
