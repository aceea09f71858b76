-- Lists of entries in order are equal where they have the same members, and maps of lists are where no key has two values.
use Rattle.std.specs.Cmp.{IsTotalOrder}
use Rattle.std.specs.FinMap.{IsAntisymmetric, entries, entries-from_sorted, entries_sorted, find, from_entries, from_sorted, get-from_entries, get-from_sorted, is_sorted, same_map}
use Rattle.std.specs.List.{filter}
use Rattle.std.specs.Ordering.{is_lt}
use Rattle.std.specs.Prelude.{Bool, List, T, cond, false, true, [], ◌∷◌, ◌≡◌}
use Rattle.std.specs.declared.cmp.Ordering.{Ordering}
use Rattle.std.specs.declared.option.Option.TheVariants.{None, Some}
use Rattle.std.specs.declared.option.Option.{Option}
use Rattle.std.proofs.Common.{ap, inl, inr, refl, sym, ◌∙◌}
use Rattle.ov_types.specs.declared.prefix.Addr.{Addr}
use Rattle.node_laws.specs.NodeModel.Maps.{Map, objects}
use Rattle.node_laws.specs.NodeModel.Members.{Member}
use Rattle.node_laws.specs.NodeModel.Wants.{is_in_slice, slice}
use Rattle.node_laws.proofs.NodeModel.Members.{both_of_and, find_member, first_below, first_of_and, found, from_filter, from_find, none_some, second_of_and}
use Rattle.node_laws.proofs.NodeModel.Published.{rise_from}
use Rattle.node_laws.proofs.NodeModel.Local.{low_cmp}

module _ {K V : Type 0} (R : K → K → Ordering) where
  abbrev pub Rises : List (K × V) → Type 0
  Rises [] = Unit {0}
  Rises (e ∷ es) = ((f : K × V) → Member f es → T (is_lt (R e.0 f.0))) × Rises es

  from_rises : (e : K × V) (es : List (K × V)) → ((f : K × V) → Member f es → T (is_lt (R e.0 f.0))) → T (is_sorted R es) → T (is_sorted R (e ∷ es))
  from_rises e [] h s = tt
  from_rises e (g ∷ es) h s =
      let rest : T (is_sorted R (e ∷ es)) = from_rises e es (λ f m. h f (inr m)) (search (second_of_and, s)) in
      let here : T (is_lt (R e.0 g.0)) = h g (inl refl) in
      search (both_of_and, first_of_and, rest, here, s)

  pub sorted_from : (es : List (K × V)) → Rises es → T (is_sorted R es)
  sorted_from [] r = tt
  sorted_from (e ∷ es) r = from_rises e es r.0 (sorted_from es r.1)

module _ {K V : Type 0} {R : K → K → Ordering} (o : IsTotalOrder R) where
  pub rises_from : (es : List (K × V)) → T (is_sorted R es) → Rises R es
  rises_from [] s = tt
  rises_from (e ∷ es) s = ((λ f m. first_below o e f es s m), rises_from es (search (second_of_and, s)))

  -- lists in order with the same members are equal
  pub same_sorted : IsAntisymmetric R → (xs ys : List (K × V)) → T (is_sorted R xs) → T (is_sorted R ys) → ((e : K × V) → Member e xs → Member e ys) → ((e : K × V) → Member e ys → Member e xs) → xs ≡ ys
  same_sorted exact xs ys s t f g =
      sym (entries-from_sorted R xs s)
      ∙ ap entries (same_map o exact (from_sorted {R = R} xs) (from_sorted ys) (λ q. get-from_sorted R xs q s ∙ go q (find R q xs) (find R q ys) refl refl ∙ sym (get-from_sorted R ys q t)))
      ∙ entries-from_sorted R ys t
    where
      go : (q : K) (a b : Option V) → find R q xs ≡ a → find R q ys ≡ b → a ≡ b
      go q None None d e = refl
      go q (Some v) b d e = sym (find_member o (q, v) ys t (f (q, v) (from_find o exact q v xs d))) ∙ e
      go q None (Some w) d e = absurd (none_some w (sym d ∙ find_member o (q, w) xs s (g (q, w) (from_find o exact q w ys e))))

  -- lists with the same members make the same map, where no key has two values
  pub same_made : IsAntisymmetric R → (xs ys : List (K × V)) → ((e : K × V) → Member e xs → Member e ys) → ((e : K × V) → Member e ys → Member e xs) → ((k : K) (v w : V) → Member (k, v) ys → Member (k, w) ys → v ≡ w) → from_entries {R = R} xs ≡ from_entries ys
  same_made exact xs ys f g one =
      same_map o exact (from_entries {R = R} xs) (from_entries ys) (λ q. get-from_entries o xs q ∙ go q (find R q xs) (find R q ys) refl refl ∙ sym (get-from_entries o ys q))
    where
      go : (q : K) (a b : Option V) → find R q xs ≡ a → find R q ys ≡ b → a ≡ b
      go q None None d e = refl
      go q (Some v) (Some w) d e = ap Some (one q v w (f (q, v) (from_find o exact q v xs d)) (from_find o exact q w ys e))
      go q (Some v) None d e = let n = found o (q, v) ys (f (q, v) (from_find o exact q v xs d)) in absurd (none_some n.0 (sym e ∙ n.1))
      go q None (Some w) d e = let n = found o (q, w) xs (g (q, w) (from_find o exact q w ys e)) in absurd (none_some n.0 (sym d ∙ n.1))

pub rises_filter : {K V : Type 0} (R : K → K → Ordering) (p : K × V → Bool) (es : List (K × V)) → Rises R es → Rises R (filter p es)
rises_filter R p [] r = tt
rises_filter R p (e ∷ es) r =
    elim (p e) as (λ b. Rises R (cond b (e ∷ filter p es) (filter p es))) [
      | true ↦ ((λ f m. r.0 f (from_filter p f es m).0), rises_filter R p es r.1)
      | false ↦ rises_filter R p es r.1
    ]

-- ---- low-level objects go by the order of all keys
pub objects_sorted : (m : Map) → T (is_sorted low_cmp (objects m))
objects_sorted m = sorted_from low_cmp (objects m) (rise_from (entries m) (entries_sorted m))

pub slice_sorted : (m : Map) (address : Addr) → T (is_sorted low_cmp (slice m address))
slice_sorted m address = sorted_from low_cmp (slice m address) (rises_filter low_cmp (λ e. is_in_slice m address e.0 e.1) (objects m) (rise_from (entries m) (entries_sorted m)))
