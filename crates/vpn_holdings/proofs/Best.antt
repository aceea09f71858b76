-- The path that is used of those that are offered one after the other.
use Rattle.std.specs.Prelude.{◌≡◌, List, [], ◌∷◌, ◌++◌, true, false, cond}
use Rattle.std.specs.declared.option.Option.{Option}
use Rattle.std.specs.declared.option.Option.TheVariants.{Some, None}
use Rattle.std.specs.List.{cons_option, filter_map}
use Rattle.std.proofs.Common.{refl, sym, ◌∙◌, ap, subst, inl, inr, append_assoc, append-nil}
use Rattle.path_select.specs.NodeModel.Members.{Member}
use Rattle.path_select.proofs.NodeModel.Members.{in_either, in_left, in_right}
use Rattle.path_select.proofs.Order.{better_itself, not_better}
use Rattle.path_select.specs.declared.selection.Path.{Path}
use Rattle.path_select.specs.Selection.{is_better}
use Rattle.vpn_holdings.specs.At.{IsChosen, best_over, better_of}

itself : (p q : Path) → Member q (p ∷ []) → is_better q p ≡ false
itself p q (inl e) = ap (λ (x : Path). is_better x p) (sym e) ∙ better_itself p
itself p q (inr m) = absurd m

-- one more path
pub one_more : (ps : List Path) (b o : Option Path) → IsChosen ps b → IsChosen (ps ++ cons_option o []) (better_of b o)
one_more ps None None c = subst (λ (l : List Path). IsChosen l None) (sym (append-nil ps)) c
one_more ps (Some b) None c = subst (λ (l : List Path). IsChosen l (Some b)) (sym (append-nil ps)) c
one_more ps None (Some p) c = subst (λ (l : List Path). IsChosen (l ++ p ∷ []) (Some p)) (sym c) (inl refl, itself p)
one_more ps (Some b) (Some p) c =
    elim (is_better p b) as (λ t. is_better p b ≡ t → IsChosen (ps ++ p ∷ []) (cond t (Some p) (Some b))) [
      | true ↦ λ e. (in_right p ps (p ∷ []) (inl refl), λ q m. either q (λ (r : Path). is_better r p ≡ false) (λ n. not_better p q b (c.1 q n) e) (itself p q) m)
      | false ↦ λ e. (in_left b ps (p ∷ []) c.0, λ q m. either q (λ (r : Path). is_better r b ≡ false) (c.1 q) (λ n. last e q n) m)
    ] refl
  where
    either : (q : Path) (P : Path → Type 0) → (Member q ps → P q) → (Member q (p ∷ []) → P q) → Member q (ps ++ p ∷ []) → P q
    either q P f g m = elim (in_either q ps (p ∷ []) m) as (λ _. P q) [ inl n ↦ f n | inr n ↦ g n ]

    last : is_better p b ≡ false → (q : Path) → Member q (p ∷ []) → is_better q b ≡ false
    last e q (inl is) = ap (λ (x : Path). is_better x b) (sym is) ∙ e
    last e q (inr n) = absurd n

-- many more
pub many_more : {X : Type 0} (f : X → Option Path) (xs : List X) (ps : List Path) (b : Option Path) → IsChosen ps b → IsChosen (ps ++ filter_map f xs) (best_over f b xs)
many_more f [] ps b c = subst (λ (l : List Path). IsChosen l b) (sym (append-nil ps)) c
many_more f (x ∷ xs) ps b c =
    subst (λ (l : List Path). IsChosen l (best_over f (better_of b (f x)) xs)) (joined (f x) (filter_map f xs))
    (many_more f xs (ps ++ cons_option (f x) []) (better_of b (f x)) (one_more ps b (f x) c))
  where
    joined : (o : Option Path) (rest : List Path) → (ps ++ cons_option o []) ++ rest ≡ ps ++ cons_option o rest
    joined None rest = ap (λ (l : List Path). l ++ rest) (append-nil ps)
    joined (Some p) rest = append_assoc ps (p ∷ []) rest
