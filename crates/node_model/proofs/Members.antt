-- Members of lists, and what a map has.
use Rattle.std.specs.Prelude.{◌≡◌, ◌⊎◌, List, [], ◌∷◌, ◌++◌, map, Bool, true, false, ◌&&◌, cond, T, Some, None}
use Rattle.std.specs.declared.option.Option.{Option}
use Rattle.std.specs.declared.cmp.Ordering.{Ordering}
use Rattle.std.specs.declared.cmp.Ordering.TheVariants.{Less, Equal, Greater}
use Rattle.std.specs.List.{Contains, filter, filter_map, cons_option, flat_map, list_any}
use Rattle.std.specs.Ordering.{eq_by_cmp, is_eq, is_lt, ordering_reverse}
use Rattle.std.specs.Cmp.{IsTotalOrder, tied_itself}
use Rattle.std.specs.FinMap.{FinMap, IsAntisymmetric, get, entries, from_entries, find, is_sorted, entries_sorted, get-entries, get-from_entries}
use Rattle.std.proofs.lemmas.Bool.{true≢false, or_cases, or_left, or_right}
use Rattle.std.proofs.lemmas.Option.{same_Some}
use Rattle.std.proofs.Common.{refl, sym, ◌∙◌, ap, subst, inl, inr, arith}
use Rattle.ov_types.proofs.FirstLemmas.{contains_cases, contains_here, contains_later}
use Rattle.node_model.specs.Members.{Member}

-- what a list contains are its members
pub member_of : {A : Type 0} (xs : List A) (x : A) → Contains xs x → Member x xs
member_of [] x h = absurd (omega (arith, h.1))
member_of (y ∷ ys) x h = elim (contains_cases y ys x h) as (λ _. Member x (y ∷ ys)) [ inl e ↦ inl e | inr later ↦ inr (member_of ys x later) ]

pub contains_of : {A : Type 0} (xs : List A) (x : A) → Member x xs → Contains xs x
contains_of [] x m = absurd m
contains_of (y ∷ ys) x (inl e) = subst (Contains (y ∷ ys)) e (contains_here y ys)
contains_of (y ∷ ys) x (inr m) = contains_later x y ys (contains_of ys x m)

pub none_some : {A : Type 0} (x : A) → None ≡ Some x → ⊥
none_some x e = cc

pub iff_same : (a b : Bool) → (a ≡ true → b ≡ true) → (b ≡ true → a ≡ true) → a ≡ b
iff_same true b f g = sym (f refl)
iff_same false true f g = g refl
iff_same false false f g = refl

pub member_when : {X : Type 0} (b : Bool) (x : X) (xs : List X) → Member x (cond b xs []) → (b ≡ true) × Member x xs
member_when true x xs m = (refl, m)
member_when false x xs m = absurd m

module _ {X : Type 0} where
  pub in_left : (x : X) (xs ys : List X) → Member x xs → Member x (xs ++ ys)
  in_left x (y ∷ xs) ys (inl e) = inl e
  in_left x (y ∷ xs) ys (inr m) = inr (in_left x xs ys m)
  in_left x [] ys m = absurd m

  pub in_right : (x : X) (xs ys : List X) → Member x ys → Member x (xs ++ ys)
  in_right x [] ys m = m
  in_right x (y ∷ xs) ys m = inr (in_right x xs ys m)

  pub in_either : (x : X) (xs ys : List X) → Member x (xs ++ ys) → Member x xs ⊎ Member x ys
  in_either x [] ys m = inr m
  in_either x (y ∷ xs) ys (inl e) = inl (inl e)
  in_either x (y ∷ xs) ys (inr m) = elim (in_either x xs ys m) as (λ _. Member x (y ∷ xs) ⊎ Member x ys) [ inl l ↦ inl (inr l) | inr r ↦ inr r ]

  pub in_filter : (p : X → Bool) (x : X) (xs : List X) → Member x xs → p x ≡ true → Member x (filter p xs)
  in_filter p x [] m h = m
  in_filter p x (y ∷ xs) (inl e) h = subst (λ b. Member x (cond b (y ∷ filter p xs) (filter p xs))) (sym (ap p e ∙ h)) (inl e)
  in_filter p x (y ∷ xs) (inr m) h = elim (p y) as (λ b. Member x (cond b (y ∷ filter p xs) (filter p xs))) [ true ↦ inr (in_filter p x xs m h) | false ↦ in_filter p x xs m h ]

  pub from_filter : (p : X → Bool) (x : X) (xs : List X) → Member x (filter p xs) → Member x xs × (p x ≡ true)
  from_filter p x [] m = absurd m
  from_filter p x (y ∷ xs) m =
      elim (p y) as (λ b. p y ≡ b → Member x (cond b (y ∷ filter p xs) (filter p xs)) → Member x (y ∷ xs) × (p x ≡ true)) [
        | true ↦ λ e m. elim m as (λ _. Member x (y ∷ xs) × (p x ≡ true)) [ inl is ↦ (inl is, ap p (sym is) ∙ e) | inr m ↦ (inr (from_filter p x xs m).0, (from_filter p x xs m).1) ]
        | false ↦ λ e m. (inr (from_filter p x xs m).0, (from_filter p x xs m).1)
      ] refl m

  pub any_in : (p : X → Bool) (x : X) (xs : List X) → Member x xs → p x ≡ true → list_any p xs ≡ true
  any_in p x [] m h = absurd m
  any_in p x (y ∷ xs) (inl e) h = or_left (p y) (list_any p xs) (ap p e ∙ h)
  any_in p x (y ∷ xs) (inr m) h = or_right (p y) (list_any p xs) (any_in p x xs m h)

  pub from_any : (p : X → Bool) (xs : List X) → list_any p xs ≡ true → (x : X) × Member x xs × (p x ≡ true)
  from_any p [] h = absurd (true≢false (sym h))
  from_any p (y ∷ xs) h = elim (or_cases (p y) (list_any p xs) h) as (λ _. (x : X) × Member x (y ∷ xs) × (p x ≡ true)) [ inl l ↦ (y, inl refl, l) | inr r ↦ let q = from_any p xs r in (q.0, inr q.1, q.2) ]

in_cons_option : {Y : Type 0} (o : Option Y) (y : Y) (ys : List Y) → Member y ys → Member y (cons_option o ys)
in_cons_option None y ys m = m
in_cons_option (Some x) y ys m = inr m

module _ {X Y : Type 0} where
  pub in_map : (f : X → Y) (x : X) (xs : List X) → Member x xs → Member (f x) (map f xs)
  in_map f x [] m = absurd m
  in_map f x (y ∷ xs) (inl e) = inl (ap f e)
  in_map f x (y ∷ xs) (inr m) = inr (in_map f x xs m)

  pub from_map : (f : X → Y) (y : Y) (xs : List X) → Member y (map f xs) → (x : X) × Member x xs × (f x ≡ y)
  from_map f y [] m = absurd m
  from_map f y (x ∷ xs) (inl e) = (x, inl refl, e)
  from_map f y (x ∷ xs) (inr m) = let q = from_map f y xs m in (q.0, inr q.1, q.2)

  pub in_flat_map : (f : X → List Y) (x : X) (y : Y) (xs : List X) → Member x xs → Member y (f x) → Member y (flat_map f xs)
  in_flat_map f x y [] m h = absurd m
  in_flat_map f x y (z ∷ xs) (inl e) h = in_left y (f z) (flat_map f xs) (subst (λ z. Member y (f z)) (sym e) h)
  in_flat_map f x y (z ∷ xs) (inr m) h = in_right y (f z) (flat_map f xs) (in_flat_map f x y xs m h)

  pub from_flat_map : (f : X → List Y) (y : Y) (xs : List X) → Member y (flat_map f xs) → (x : X) × Member x xs × Member y (f x)
  from_flat_map f y [] m = absurd m
  from_flat_map f y (x ∷ xs) m = elim (in_either y (f x) (flat_map f xs) m) as (λ _. (z : X) × Member z (x ∷ xs) × Member y (f z)) [ inl l ↦ (x, inl refl, l) | inr r ↦ let q = from_flat_map f y xs r in (q.0, inr q.1, q.2) ]

  pub in_filter_map : (f : X → Option Y) (x : X) (y : Y) (xs : List X) → Member x xs → f x ≡ Some y → Member y (filter_map f xs)
  in_filter_map f x y [] m h = absurd m
  in_filter_map f x y (z ∷ xs) (inl e) h = subst (λ (o : Option Y). Member y (cons_option o (filter_map f xs))) (sym (ap f e ∙ h)) (inl refl)
  in_filter_map f x y (z ∷ xs) (inr m) h = in_cons_option (f z) y (filter_map f xs) (in_filter_map f x y xs m h)

  pub from_filter_map : (f : X → Option Y) (y : Y) (xs : List X) → Member y (filter_map f xs) → (x : X) × Member x xs × (f x ≡ Some y)
  from_filter_map f y [] m = absurd m
  from_filter_map f y (x ∷ xs) m =
      elim (f x) as (λ (o : Option Y). f x ≡ o → Member y (cons_option o (filter_map f xs)) → (z : X) × Member z (x ∷ xs) × (f z ≡ Some y)) [
        | None ↦ λ e m. let q = from_filter_map f y xs m in (q.0, inr q.1, q.2)
        | Some w ↦ λ e m. elim m as (λ _. (z : X) × Member z (x ∷ xs) × (f z ≡ Some y)) [ inl is ↦ (x, inl refl, e ∙ ap Some is) | inr m ↦ let q = from_filter_map f y xs m in (q.0, inr q.1, q.2) ]
      ] refl m

-- ---- what is found in a list of entries
pub first_of_and : (a b : Bool) → T (a && b) → T a
first_of_and true b h = tt
first_of_and false b h = h

pub second_of_and : (a b : Bool) → T (a && b) → T b
second_of_and true b h = h
second_of_and false b h = absurd h

pub both_of_and : (a b : Bool) → T a → T b → T (a && b)
both_of_and true b p q = q
both_of_and false b p q = p

less_not_equal : (r s : Ordering) → r ≡ ordering_reverse s → T (is_lt s) → is_eq r ≡ false
less_not_equal r Less e h = ap is_eq e
less_not_equal r Equal e h = absurd h
less_not_equal r Greater e h = absurd h

ties : {K : Type 0} {R : K → K → Ordering} (o : IsTotalOrder R) (q k : K) → q ≡ k → eq_by_cmp R q k ≡ true
ties {R = R} o q k e = ap is_eq (ap (R q) (sym e) ∙ tied_itself o q)

module _ {K V : Type 0} {R : K → K → Ordering} (o : IsTotalOrder R) where
  -- an entry is found, though it may be another value of its key
  pub found : (e : K × V) (es : List (K × V)) → Member e es → (v : V) × (find R e.0 es ≡ Some v)
  found e [] m = absurd m
  found e (f ∷ es) (inl is) = (f.1, ap (λ b. cond b (Some f.1) (find R e.0 es)) (ties o e.0 f.0 (ap (λ (x : K × V). x.0) (sym is))))
  found e (f ∷ es) (inr m) =
      elim (eq_by_cmp R e.0 f.0) as (λ b. (v : V) × (cond b (Some f.1) (find R e.0 es) ≡ Some v)) [ true ↦ (f.1, refl) | false ↦ found e es m ]

  pub from_find : IsAntisymmetric R → (q : K) (v : V) (es : List (K × V)) → find R q es ≡ Some v → Member (q, v) es
  from_find exact q v [] h = absurd (none_some v h)
  from_find exact q v (f ∷ es) h =
      elim (R q f.0) as (λ r. R q f.0 ≡ r → cond (is_eq r) (Some f.1) (find R q es) ≡ Some v → Member (q, v) (f ∷ es)) [
        | Less ↦ λ e h. inr (from_find exact q v es h)
        | Greater ↦ λ e h. inr (from_find exact q v es h)
        | Equal ↦ λ e h. inl (λ i. (sym (exact q f.0 e) i, same_Some f.1 v h i))
      ] refl h

  -- the first key of a list in order is before each other
  pub first_below : (e f : K × V) (es : List (K × V)) → T (is_sorted R (e ∷ es)) → Member f es → T (is_lt (R e.0 f.0))
  first_below e f [] s m = absurd m
  first_below e f (g ∷ es) s (inl is) = subst (λ (x : K × V). T (is_lt (R e.0 x.0))) is (search (first_of_and, s))
  first_below e f (g ∷ es) s (inr m) = first_below e f es (search (first_of_and, second_of_and, both_of_and, s)) m

  pub find_member : (e : K × V) (es : List (K × V)) → T (is_sorted R es) → Member e es → find R e.0 es ≡ Some e.1
  find_member e [] s m = absurd m
  find_member e (f ∷ es) s (inl is) = ap (λ b. cond b (Some f.1) (find R e.0 es)) (ties o e.0 f.0 (ap (λ (x : K × V). x.0) (sym is))) ∙ ap (λ (x : K × V). Some x.1) is
  find_member e (f ∷ es) s (inr m) =
      ap (λ b. cond b (Some f.1) (find R e.0 es)) (less_not_equal (R e.0 f.0) (R f.0 e.0) (o.antisymm e.0 f.0) (first_below f e es s m))
      ∙ find_member e es (search (second_of_and, s)) m

  pub get_member : (m : FinMap R V) (k : K) (v : V) → Member (k, v) (entries m) → get m k ≡ Some v
  get_member m k v h = get-entries m k ∙ find_member (k, v) (entries m) (entries_sorted m) h

  pub member_get : IsAntisymmetric R → (m : FinMap R V) (k : K) (v : V) → get m k ≡ Some v → Member (k, v) (entries m)
  member_get exact m k v h = from_find exact k v (entries m) (sym (get-entries m k) ∙ h)

  -- of the map that a list makes
  pub entry_in : (e : K × V) (es : List (K × V)) → Member e es → (v : V) × (get (from_entries {R = R} es) e.0 ≡ Some v)
  entry_in e es m = let q = found e es m in (q.0, get-from_entries o es e.0 ∙ q.1)

  pub from_entry : IsAntisymmetric R → (k : K) (v : V) (es : List (K × V)) → get (from_entries {R = R} es) k ≡ Some v → Member (k, v) es
  from_entry exact k v es h = from_find exact k v es (sym (get-from_entries o es k) ∙ h)
