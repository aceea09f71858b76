-- The row of a prefix is a least path of it.
use Rattle.std.specs.Prelude.{◌≡◌, List, [], ◌∷◌, map, true, false, cond}
use Rattle.std.specs.declared.cmp.Ordering.{Ordering}
use Rattle.std.specs.declared.cmp.Ordering.TheVariants.{Less, Equal, Greater}
use Rattle.std.specs.Ordering.{nat_cmp, is_lt, ordering_reverse}
use Rattle.std.specs.Cmp.{IsTotalOrder, on_total, tied_itself}
use Rattle.std.specs.Cmp.Lexicographic.{slice_cmp, nat_list_cmp_total}
use Rattle.std.specs.declared.option.Option.TheVariants.{Some}
use Rattle.std.specs.FinMap.{get}
use Rattle.std.proofs.lemmas.Bool.{true≢false}
use Rattle.std.proofs.Common.{refl, sym, ◌∙◌, ap, subst, inl, inr}
use Rattle.ov_types.specs.Prefix.{Block}
use Rattle.node_model.specs.Members.{Member}
use Rattle.node_model.specs.Paths.{Path}
use Rattle.node_model.specs.Tables.{path_numbers, is_better, least, same_prefix, of_prefix, selected, IsLeast}
use Rattle.node_model.proofs.Members.{in_map, from_map, in_filter, from_filter, entry_in, from_entry}
use Rattle.node_model.proofs.Orders.{prefix_total, prefix_exact, prefix_same, same_prefix-from}

abbrev path_cmp : Path → Path → Ordering
path_cmp a b = slice_cmp nat_cmp (path_numbers a) (path_numbers b)

path_total : IsTotalOrder path_cmp
path_total = on_total path_numbers nat_list_cmp_total

less_is : (r : Ordering) → is_lt r ≡ true → r ≡ Less
less_is Less e = refl
less_is Equal e = absurd (true≢false (sym e))
less_is Greater e = absurd (true≢false (sym e))

pub better_itself : (a : Path) → is_better a a ≡ false
better_itself a = ap is_lt (tied_itself path_total a)

better_turned : (a b : Path) → is_better b a ≡ true → is_better a b ≡ false
better_turned a b e = ap is_lt (path_total.antisymm a b ∙ ap ordering_reverse (less_is (path_cmp b a) e))

-- where a isn't better than b, nor b than c, a isn't better than c
not_better : (a b c : Path) → is_better a b ≡ false → is_better b c ≡ false → is_better a c ≡ false
not_better a b c ab bc =
    elim (is_better a c) as (λ x. is_better a c ≡ x → x ≡ false) [
      | true ↦ λ e. absurd (true≢false (sym (from_cases (path_cmp a b) refl (less_is (path_cmp a c) e)) ∙ bc))
      | false ↦ λ _. refl
    ] refl
  where
    from_cases : (r : Ordering) → path_cmp a b ≡ r → path_cmp a c ≡ Less → is_better b c ≡ true
    from_cases Less e less = absurd (true≢false (sym (ap is_lt e) ∙ ab))
    from_cases Equal e less = ap is_lt (sym (path_total.congr a b c e) ∙ less)
    from_cases Greater e less = ap is_lt (path_total.trans b a c (path_total.antisymm b a ∙ ap ordering_reverse e) less)

pub least_member : (a : Path) (ps : List Path) → Member (least a ps) (a ∷ ps)
least_member a [] = inl refl
least_member a (b ∷ ps) =
    elim (is_better b a) as (λ c. Member (least (cond c b a) ps) (a ∷ b ∷ ps)) [
      | true ↦ inr (least_member b ps)
      | false ↦ elim (least_member a ps) as (λ _. Member (least a ps) (a ∷ b ∷ ps)) [ inl e ↦ inl e | inr m ↦ inr (inr m) ]
    ]

-- no path is better than the least
pub least_is : (a : Path) (ps : List Path) (q : Path) → Member q (a ∷ ps) → is_better q (least a ps) ≡ false
least_is a [] q (inl e) = ap (λ x. is_better x a) (sym e) ∙ better_itself a
least_is a [] q (inr m) = absurd m
least_is a (b ∷ ps) q m =
    elim (is_better b a) as (λ c. is_better b a ≡ c → is_better q (least (cond c b a) ps) ≡ false) [
      | true ↦ λ e. elim m as (λ _. is_better q (least b ps) ≡ false) [
        | inl is ↦ ap (λ x. is_better x (least b ps)) (sym is) ∙ not_better a b (least b ps) (better_turned a b e) (least_is b ps b (inl refl))
        | inr m ↦ least_is b ps q m
      ]
      | false ↦ λ e. elim m as (λ _. is_better q (least a ps) ≡ false) [
        | inl is ↦ least_is a ps q (inl is)
        | inr m ↦ elim m as (λ _. is_better q (least a ps) ≡ false) [
          | inl is ↦ ap (λ x. is_better x (least a ps)) (sym is) ∙ not_better b a (least a ps) e (least_is a ps a (inl refl))
          | inr m ↦ least_is a ps q (inr m)
        ]
      ]
    ] refl

abbrev entry_of : List Path → Path → Block × Path
entry_of ps p = (p.prefix, least p (of_prefix p.prefix ps))

abbrev at_prefix : Block → Path → Block × Path
at_prefix x b = (x, b)

pub selected_least : (ps : List Path) (x : Block) (b : Path) → get (selected ps) x ≡ Some b → IsLeast x ps b
selected_least ps x b h =
    let q = from_map (entry_of ps) (at_prefix x b) ps (from_entry prefix_total prefix_exact x b (map (entry_of ps) ps) h) in
    let a : Path = q.0 in
    let same = of_prefix a.prefix ps in
    let at : a.prefix ≡ x = ap (λ (e : Block × Path). e.0) q.2 in
    let is : least a same ≡ b = ap (λ (e : Block × Path). e.1) q.2 in
    let where_from : Member b ps × (b.prefix ≡ x) =
    elim (least_member a same) as (λ _. Member b ps × (b.prefix ≡ x)) [
      | inl e ↦ (subst (λ b. Member b ps) (e ∙ is) q.1, ap (λ (b : Path). b.prefix) (sym (e ∙ is)) ∙ at)
      | inr m ↦
          let f = from_filter (λ r. same_prefix r.prefix a.prefix) (least a same) ps m in
          (subst (λ b. Member b ps) is f.0, ap (λ (b : Path). b.prefix) (sym is) ∙ prefix_same (least a same).prefix a.prefix f.1 ∙ at)
    ] in
    record {
      member = where_from.0;
      prefix_is = where_from.1;
      least_of = λ r m e. ap (is_better r) (sym is) ∙ least_is a same r (inr (in_filter (λ r. same_prefix r.prefix a.prefix) r ps m (same_prefix-from r.prefix a.prefix (e ∙ sym at))));
    }

pub selected_found : (ps : List Path) (p : Path) → Member p ps → (b : Path) × (get (selected ps) p.prefix ≡ Some b)
selected_found ps p m = entry_in prefix_total (entry_of ps p) (map (entry_of ps) ps) (in_map (entry_of ps) p ps m)
