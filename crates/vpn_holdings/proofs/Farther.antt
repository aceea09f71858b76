-- Which subnets are up, one place farther from the end.
use Rattle.std.specs.Prelude.{◌≡◌, ◌<◌, ℕ, suc, ◌+◌, length, drop, List, [], ◌∷◌, ◌++◌, map, Bool, ◌||◌, ◌&&◌, is_some}
use Rattle.std.proofs.Math.Seq.{drop-cons}
use Rattle.std.proofs.lemmas.List.{get_or-map}
use Rattle.std.proofs.Common.{refl, sym, ◌∙◌, ap, subst, arith, get_or}
use Rattle.ov_types.specs.Prefix.{Block}
use Rattle.path_select.specs.NodeModel.Paths.{Holdings}
use Rattle.path_select.specs.NodeModel.Reaching.{Side, circuit_at, has_path_within, hop_at, is_up, publisher, subnets}

next_place : (d : ℕ) → d + 1 ≡ suc d
next_place d = omega arith

farther : (h : Holdings) (s : Side) (b : Block) (d : ℕ)
    → is_up h s b (d + 1)
    ≡ (has_path_within h (hop_at s (d + 1)) b || (is_some (publisher h (circuit_at s (d + 1))) && is_up h s b d))
farther h s b d =
    subst (λ n. is_up h s b n ≡ (has_path_within h (hop_at s n) b || (is_some (publisher h (circuit_at s n)) && is_up h s b d)))
    (sym (next_place d)) refl

assoc : (xs ys zs : List Bool) → (xs ++ ys) ++ zs ≡ xs ++ (ys ++ zs)
assoc [] ys zs = refl
assoc (x ∷ xs) ys zs = ap (λ (l : List Bool). x ∷ l) (assoc xs ys zs)

-- one more subnet of a walk over them
pub next_turn : (h : Holdings) (s : Side) (d : ℕ) (items : List Block) (up : List Bool) (k : ℕ) (x : Block) (next next' : List Bool)
    (b e : Bool) → k < length items → items ≡ subnets s → up ≡ map (λ y. is_up h s y d) (subnets s) → x ≡ get_or items k x
    → next' ≡ next ++ b ∷ []
    → b ≡ (has_path_within h (hop_at s (d + 1)) x || (is_some (publisher h (circuit_at s (d + 1))) && get_or up k e))
    → next ++ map (λ y. is_up h s y (d + 1)) (drop k items) ≡ map (λ y. is_up h s y (d + 1)) items
    → next' ++ map (λ y. is_up h s y (d + 1)) (drop (k + 1) items) ≡ map (λ y. is_up h s y (d + 1)) items
next_turn h s d items up k x next next' b e lt items_is up_is x_is next_is b_is so_far =
    let here : get_or up k e ≡ is_up h s x d =
    ap (λ (l : List Bool). get_or l k e) (up_is ∙ ap (map (λ y. is_up h s y d)) (sym items_is))
    ∙ get_or-map (λ y. is_up h s y d) items k x e lt ∙ ap (λ y. is_up h s y d) (sym x_is) in
    let value : b ≡ is_up h s x (d + 1) =
    b_is ∙ ap (λ u. has_path_within h (hop_at s (d + 1)) x || (is_some (publisher h (circuit_at s (d + 1))) && u)) here
    ∙ sym (farther h s x d) in
    let rest : drop k items ≡ x ∷ drop (k + 1) items =
    drop-cons items k x lt ∙ (λ i. sym x_is i ∷ drop (sym (next_place k) i) items) in
    ap (λ (l : List Bool). l ++ map (λ y. is_up h s y (d + 1)) (drop (k + 1) items)) (next_is ∙ ap (λ v. next ++ v ∷ []) value)
    ∙ assoc next (is_up h s x (d + 1) ∷ []) (map (λ y. is_up h s y (d + 1)) (drop (k + 1) items))
    ∙ ap (λ (l : List Block). next ++ map (λ y. is_up h s y (d + 1)) l) (sym rest) ∙ so_far
