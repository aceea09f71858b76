-- The path that is chosen is the row of the table.
use Rattle.std.specs.Prelude.{◌≡◌, ◌↔◌, ℕ, zero, suc, List, [], ◌∷◌, get_or, false, Some, None, slice_index_or}
use Rattle.std.specs.declared.cmp.Ordering.{Ordering}
use Rattle.std.specs.declared.cmp.Ordering.TheVariants.{Less, Equal, Greater}
use Rattle.std.specs.declared.option.Option.{Option}
use Rattle.std.specs.List.{slice_get}
use Rattle.std.specs.Option.{option_map}
use Rattle.std.specs.Ordering.{nat_cmp, is_lt, ordering_reverse}
use Rattle.std.specs.Cmp.{IsTotalOrder, on_total}
use Rattle.std.specs.Cmp.Lexicographic.{slice_cmp, nat_list_cmp_total}
use Rattle.std.specs.FinMap.{get, nat_cmp-IsAntisymmetric, slice_cmp-IsAntisymmetric}
use Rattle.std.proofs.lemmas.Bool.{true≢false}
use Rattle.std.proofs.lemmas.Option.{same_Some}
use Rattle.std.proofs.Common.{refl, sym, ◌∙◌, ap, subst, inl, inr}
use Rattle.ov_types.specs.Prefix.{Block}
use Rattle.ov_types.specs.declared.numbers.InstanceId.{InstanceId}
use Rattle.path_select.specs.NodeModel.Members.{Member}
use Rattle.path_select.specs.NodeModel.Paths as model
use Rattle.path_select.specs.NodeModel.Paths.{Holdings}
use Rattle.path_select.specs.NodeModel.Tables.{of_prefix, paths_of, same_prefix, selected, table}
use Rattle.path_select.proofs.NodeModel.Members.{from_filter, from_map, in_filter, in_map, none_some}
use Rattle.path_select.proofs.NodeModel.Orders.{prefix_same, same_prefix-from}
use Rattle.path_select.proofs.NodeModel.Selection.{selected_found, selected_least}
use Rattle.path_select.specs.declared.selection.Path.{Path}
use Rattle.path_select.specs.Selection.{IsFirstOfLeast, is_better, numbers, plain}
use Rattle.path_select.specs.NodeModel.Tables.{table_row}
use Rattle.vpn_holdings.specs.At.{IsChosen, paths_at, shown}

-- ---- places and members
member_at : (xs : List Path) (i : ℕ) (x : Path) → slice_get xs i ≡ Some x → Member x xs
member_at [] i x e = absurd (none_some x e)
member_at (y ∷ xs) zero x e = inl (same_Some y x e)
member_at (y ∷ xs) (suc i) x e = inr (member_at xs i x e)

at_member : (xs : List Path) (x : Path) → Member x xs → (i : ℕ) × (slice_get xs i ≡ Some x)
at_member [] x m = absurd m
at_member (y ∷ xs) x (inl e) = (zero, ap Some e)
at_member (y ∷ xs) x (inr m) = let q = at_member xs x m in (suc q.0, q.1)

index_at : (xs : List Path) (i : ℕ) (x d : Path) → slice_get xs i ≡ Some x → slice_index_or xs i d ≡ x
index_at [] i x d e = absurd (none_some x e)
index_at (y ∷ xs) zero x d e = same_Some y x e
index_at (y ∷ xs) (suc i) x d e = index_at xs i x d e

pub chosen_from : (paths : List Path) (i : ℕ) (d : Path) → IsFirstOfLeast paths i → IsChosen paths (Some (slice_index_or paths i d))
chosen_from paths i d f =
    subst (λ (x : Path). IsChosen paths (Some x)) (sym (index_at paths i f.path d f.stands))
    (member_at paths i f.path f.stands, λ q m. let at = at_member paths q m in f.least at.0 q at.1)

-- ---- paths of which neither is better are one
abbrev path_cmp : Path → Path → Ordering
path_cmp a b = slice_cmp nat_cmp (numbers a) (numbers b)

path_total : IsTotalOrder path_cmp
path_total = on_total numbers nat_list_cmp_total

abbrev of_numbers : List ℕ → Path
of_numbers ns = record { next_hop = record { 0 = get_or ns 0 0 }; label = record { 0 = get_or ns 1 0 }; rd = record { 0 = get_or ns 2 0 }; session = get_or ns 3 0 }

pub one_path : (a b : Path) → is_better a b ≡ false → is_better b a ≡ false → a ≡ b
one_path a b ab ba = by_case (path_cmp a b) refl
  where
    by_case : (r : Ordering) → path_cmp a b ≡ r → a ≡ b
    by_case Less e = absurd (true≢false (sym (ap is_lt e) ∙ ab))
    by_case Equal e = ap of_numbers (slice_cmp-IsAntisymmetric nat_cmp-IsAntisymmetric (numbers a) (numbers b) e)
    by_case Greater e = absurd (true≢false (sym (ap is_lt (path_total.antisymm b a ∙ ap ordering_reverse e)) ∙ ba))

-- ---- the row
module _ (h : Holdings) (i : InstanceId) (q : Block) where
  there : (b : model.Path) → Member b (paths_of h i) → b.prefix ≡ q → Member (plain b) (paths_at h i q)
  there b m e = in_map plain b (of_prefix q (paths_of h i)) (in_filter (λ (p : model.Path). same_prefix p.prefix q) b (paths_of h i) m (same_prefix-from b.prefix q e))

  none_chosen : paths_at h i q ≡ [] → (o : Option model.Path) → get (table h i) q ≡ o → option_map plain o ≡ None
  none_chosen e None is = refl
  none_chosen e (Some b) is = let l = selected_least (paths_of h i) q b is in absurd (subst (Member (plain b)) e (there b l.member l.prefix_is))

  one_chosen : (x : Path) → Member x (paths_at h i q) → ((y : Path) → Member y (paths_at h i q) → is_better y x ≡ false) → option_map plain (get (table h i) q) ≡ Some x
  one_chosen x m best =
      let f = from_map plain x (of_prefix q (paths_of h i)) m in
      let p : model.Path = f.0 in
      let g = from_filter (λ (p : model.Path). same_prefix p.prefix q) p (paths_of h i) f.1 in
      let found = selected_found (paths_of h i) p g.0 in
      let is : get (table h i) q ≡ Some found.0 = subst (λ (x : Block). get (selected (paths_of h i)) x ≡ Some found.0) (prefix_same p.prefix q g.1) found.1 in
      let l = selected_least (paths_of h i) q found.0 is in
      let not_better : is_better x (plain found.0) ≡ false = ap (λ x. is_better x (plain found.0)) (sym f.2) ∙ l.least_of p g.0 (prefix_same p.prefix q g.1) in
      ap (option_map plain) is ∙ ap Some (one_path (plain found.0) x (best (plain found.0) (there found.0 l.member l.prefix_is)) not_better)

pub shown_plain : (o : Option model.Path) → option_map table_row o ≡ option_map shown (option_map plain o)
shown_plain None = refl
shown_plain (Some p) = refl

-- of paths with the same members
pub chosen_path : (h : Holdings) (i : InstanceId) (q : Block) (paths : List Path) (row : Option Path) → ((p : Path) → Member p paths ↔ Member p (paths_at h i q)) → IsChosen paths row
    → option_map plain (get (table h i) q) ≡ row
chosen_path h i q paths None e c = none_chosen h i q (nothing (paths_at h i q) (λ p m. subst (Member p) c ((e p).1 m))) (get (table h i) q) refl
  where
    nothing : (ps : List Path) → ((p : Path) → Member p ps → ⊥) → ps ≡ []
    nothing [] f = refl
    nothing (p ∷ ps) f = absurd (f p (inl refl))
chosen_path h i q paths (Some x) e c = one_chosen h i q x ((e x).0 c.0) (λ y m. c.1 y ((e y).1 m))
