-- What is first found, answered or met in a list, as against all that stands before.
use Rattle.std.proofs.Common.{◌≡◌, ◌↔◌, ◌⊎◌, inl, inr, ◌&&◌, ◌<◌, ℕ, zero, suc, Bool, true, false, cond, IsTrue, List, [], ◌∷◌, ◌++◌, Option, Some, None, option_map, IfSome, filter, map, find, length, refl, sym, ap, ◌∙◌, subst, append_assoc, arith}
use Rattle.std.specs.List.{Contains, slice_get}
use Rattle.std.proofs.lemmas.Bool.{iff_false}
use Rattle.ov_types.specs.First.{◌<|>◌, first_of, meeting_after, first_meeting}
use Rattle.config_refusal_laws.specs.Named.{IsFirst, IsFirstPair, IsFirstByFirst}
use Rattle.ov_types.proofs.FirstLemmas.{answered, contains_here, contains_later}
use Rattle.config_refusal_laws.proofs.Firsts.{at_front, at_seam}

-- what holds of an answer

pub some_case : {A : Type 0} (P : A → Type 0) (o : Option A) → ((r : A) → o ≡ Some r → P r) → IfSome o P
some_case P None h = tt
some_case P (Some r) h = h r refl

pub then_some : {A : Type 0} (P : A → Type 0) (a b : Option A) → IfSome a P → (a ≡ None → IfSome b P) → IfSome (a <|> b) P
then_some P None b h k = k refl
then_some P (Some r) b h k = h

-- answers in a row

pub or_none : {A : Type 0} (o : Option A) → (o <|> None) ≡ o
or_none None = refl
or_none (Some x) = refl

pub first_of-map : {A B C : Type 0} (f : B → Option C) (g : A → B) (xs : List A) → first_of f (map g xs) ≡ first_of (λ x. f (g x)) xs
first_of-map f g [] = refl
first_of-map {A} {B} {C} f g (x ∷ xs) = ap (λ (o : Option C). f (g x) <|> o) (first_of-map f g xs)

pub first_of-same : {A B : Type 0} (f g : A → Option B) → ((x : A) → f x ≡ g x) → (xs : List A) → first_of f xs ≡ first_of g xs
first_of-same f g same [] = refl
first_of-same {A} {B} f g same (x ∷ xs) =
    ap (λ (o : Option B). o <|> first_of f xs) (same x) ∙ ap (λ (o : Option B). g x <|> o) (first_of-same f g same xs)

-- what is found

first_here : {A : Type 0} (F : A → Type 0) (x : A) (xs : List A) → F x → IsFirst F (x ∷ xs) x
first_here F x xs h = record { place = 0; there = refl; at_fault = h; none_before = λ k y lt at. absurd (omega arith) }

none_suc : {A : Type 0} (F : A → Type 0) (x : A) (xs : List A) (n : ℕ) → ¬ F x → ((k : ℕ) (y : A) → k < n → slice_get xs k ≡ Some y → ¬ F y)
    → (k : ℕ) (y : A) → k < suc n → slice_get (x ∷ xs) k ≡ Some y → ¬ F y
none_suc F x xs n sound before zero y lt at = let same : x ≡ y = cc in λ fault. sound (subst F (sym same) fault)
none_suc F x xs n sound before (suc k) y lt at = before k y (omega arith) at

first_later : {A : Type 0} (F : A → Type 0) (x : A) (xs : List A) (y : A) → ¬ F x → IsFirst F xs y → IsFirst F (x ∷ xs) y
first_later F x xs y sound f =
    record { place = suc f.place; there = f.there; at_fault = f.at_fault; none_before = none_suc F x xs f.place sound f.none_before }

pub found_first : {A : Type 0} (p : A → Bool) (F : A → Type 0) → ((x : A) → IsTrue (p x) ↔ F x) → (xs : List A) (x : A) → find p xs ≡ Some x → IsFirst F xs x
found_first p F same [] x h = cc
found_first {A} p F same (y ∷ ys) x h =
    elim (p y) as (λ b. (p y ≡ b) → cond b (Some y) (find p ys) ≡ Some x → IsFirst F (y ∷ ys) x) [
      | true ↦ λ e here. let is : y ≡ x = cc in subst (λ (z : A). IsFirst F (y ∷ ys) z) is (first_here F y ys ((same y).0 e))
      | false ↦ λ e later. first_later F y ys x (iff_false (same y) e) (found_first p F same ys x later)
    ] refl h

-- what answers

pub record AnswersFirst {A B : Type 0} (f : A → Option B) (F : A → Type 0) (xs : List A) (r : B) : Type 0 where
  pub item : A
  pub inside : Contains xs item
  pub gives : f item ≡ Some r
  pub first : F item → IsFirst F xs item

pub answers_first : {A B : Type 0} (f : A → Option B) (F : A → Type 0) → ((x : A) → f x ≡ None → ¬ F x) → (xs : List A) (r : B) → first_of f xs ≡ Some r → AnswersFirst f F xs r
answers_first f F silent [] r h = cc
answers_first {A} {B} f F silent (x ∷ xs) r h =
    elim (f x) as (λ o. (f x ≡ o) → (o <|> first_of f xs) ≡ Some r → AnswersFirst f F (x ∷ xs) r) [
      | Some y ↦ λ e here. record { item = x; inside = contains_here x xs; gives = e ∙ here; first = first_here F x xs }
      | None ↦ λ e later.
          let a = answers_first f F silent xs r later in
          record { item = a.item; inside = contains_later a.item x xs a.inside; gives = a.gives; first = λ fault. first_later F x xs a.item (silent x e) (a.first fault) }
    ] refl h

-- what meets

abbrev NoPair : {A : Type 0} → (A → A → Type 0) → List A → Type 0
NoPair {A} M xs = (i j : ℕ) (x y : A) → i < j → slice_get xs i ≡ Some x → slice_get xs j ≡ Some y → ¬ M x y

get_snoc : {A : Type 0} (xs : List A) (y : A) (k : ℕ) (z : A) → slice_get (xs ++ y ∷ []) k ≡ Some z → (slice_get xs k ≡ Some z) ⊎ ((k ≡ length xs) × (y ≡ z))
get_snoc [] y zero z h = inr (refl, cc)
get_snoc [] y (suc k) z h = cc
get_snoc (x ∷ xs) y zero z h = inl h
get_snoc (x ∷ xs) y (suc k) z h =
    elim (get_snoc xs y k z h) [
      | inl e ↦ inl e
      | inr e ↦ let same : k ≡ length xs = e.0 in inr (omega arith, e.1)
    ]

get_front : {A : Type 0} (xs ys : List A) (k : ℕ) (z : A) → k < length xs → slice_get (xs ++ ys) k ≡ Some z → slice_get xs k ≡ Some z
get_front [] ys k z lt h = absurd (omega arith)
get_front (x ∷ xs) ys zero z lt h = h
get_front (x ∷ xs) ys (suc k) z lt h = get_front xs ys k z (omega arith) h

get_within : {A : Type 0} (xs : List A) (k : ℕ) (z : A) → slice_get xs k ≡ Some z → k < length xs
get_within xs k z h = (at_front xs [] k z h).0

no_pair_snoc : {A : Type 0} (M : A → A → Type 0) (xs : List A) (y : A) → NoPair M xs → ((k : ℕ) (x : A) → slice_get xs k ≡ Some x → ¬ M x y) → NoPair M (xs ++ y ∷ [])
no_pair_snoc {A} M xs y apart from i j a b lt at_i at_j =
    elim (get_snoc xs y j b at_j) [
      | inl e ↦ let within = get_within xs j b e in apart i j a b lt (get_front xs (y ∷ []) i a (omega arith) at_i) e
      | inr e ↦ let end : j ≡ length xs = e.0 in subst (λ (z : A). ¬ M a z) e.1 (from i a (get_front xs (y ∷ []) i a (omega arith) at_i))
    ]

pub missed_at : {A : Type 0} (p : A → Bool) (xs : List A) (k : ℕ) (a : A) → find p xs ≡ None → slice_get xs k ≡ Some a → p a ≡ false
missed_at p [] k a none at = cc
missed_at p (y ∷ ys) zero a none at =
    let same : y ≡ a = cc in
    elim (p y) as (λ b. (p y ≡ b) → cond b (Some y) (find p ys) ≡ None → p a ≡ false) [
      | true ↦ λ e h. cc
      | false ↦ λ e h. ap p (sym same) ∙ e
    ] refl none
missed_at p (y ∷ ys) (suc k) a none at =
    missed_at p ys k a (elim (p y) as (λ b. cond b (Some y) (find p ys) ≡ None → find p ys ≡ None) [ true ↦ λ h. cc | false ↦ λ h. h ] none) at

module _ {A : Type 0} (meets : A → A → Bool) (M : A → A → Type 0) (same : (a b : A) → IsTrue (meets a b) ↔ M a b) where
  abbrev IsPair : List A → A × A → Type 0
  IsPair xs m = IsFirstPair M xs m.0 m.1

  met : (before xs : List A) (x b : A) → NoPair M before → find (λ b. meets b x) before ≡ Some b → IsFirstPair M (before ++ x ∷ xs) b x
  met before xs x b apart e =
      let f = found_first (λ b. meets b x) (λ b. M b x) (λ b. same b x) before b e in
      let front = at_front before (x ∷ xs) f.place b f.there in
      let less : f.place < length before = front.0 in
      record {
        earlier = f.place;
        later = length before;
        in_order = less;
        first_there = front.1;
        second_there = at_seam before xs x;
        meet = f.at_fault;
        none_earlier = λ k y lt at. f.none_before k y lt (get_front before (x ∷ xs) k y (omega arith) at);
        none_before = λ i j y z lt below at_i at_j.
            apart i j y z lt (get_front before (x ∷ xs) i y (omega arith) at_i) (get_front before (x ∷ xs) j z below at_j);
      }

  pair_after : (before xs : List A) → NoPair M before → IfSome (meeting_after meets before xs) (IsPair (before ++ xs))
  pair_after before [] apart = tt
  pair_after before (x ∷ xs) apart =
      let earlier : Option A = find (λ b. meets b x) before in
      let rest : Option (A × A) = meeting_after meets (before ++ x ∷ []) xs in
      let P : A × A → Type 0 = IsPair (before ++ x ∷ xs) in
      let missed : earlier ≡ None → (k : ℕ) (b : A) → slice_get before k ≡ Some b → ¬ M b x = λ none k b at.
      iff_false (same b x) (missed_at (λ b. meets b x) before k b none at) in
      let next : earlier ≡ None → IfSome rest P = λ none.
      subst (λ (ys : List A). IfSome rest (IsPair ys)) (append_assoc before (x ∷ []) xs)
      (pair_after (before ++ x ∷ []) xs (no_pair_snoc M before x apart (missed none))) in
      elim earlier as (λ o. (earlier ≡ o) → IfSome (option_map (λ b. (b, x)) o <|> rest) P) [
        | Some b ↦ λ e. met before xs x b apart e
        | None ↦ λ e. next e
      ] refl

  pub first_pair_is : (xs : List A) (m : A × A) → first_meeting meets xs ≡ Some m → IsFirstPair M xs m.0 m.1
  first_pair_is xs m e = answered (IsPair xs) (first_meeting meets xs) (pair_after [] xs (λ i j x y lt at_i at_j. cc)) m e

-- the first that meets a later one

by_first_here : {A : Type 0} (M : A → A → Type 0) (z : A) (zs : List A) (b : A) → IsFirst (M z) zs b → IsFirstByFirst M (z ∷ zs) z b
by_first_here {A} M z zs b f = record {
  earlier = 0;
  later = suc f.place;
  in_order = omega arith;
  first_there = refl;
  second_there = f.there;
  meet = f.at_fault;
  none_earlier = λ i j x y lt before at_i at_j. absurd (omega arith);
  none_between = between f.place f.none_before;
}
  where
    between : (n : ℕ) → ((k : ℕ) (y : A) → k < n → slice_get zs k ≡ Some y → ¬ M z y) → (j : ℕ) (y : A) → 0 < j → j < suc n → slice_get (z ∷ zs) j ≡ Some y → ¬ M z y
    between n none zero y after before at = absurd (omega arith)
    between n none (suc j) y after before at = none j y (omega arith) at

by_first_later : {A : Type 0} (M : A → A → Type 0) (z : A) (zs : List A) (a b : A) → ((j : ℕ) (y : A) → slice_get zs j ≡ Some y → ¬ M z y)
    → IsFirstByFirst M zs a b → IsFirstByFirst M (z ∷ zs) a b
by_first_later {A} M z zs a b alone f =
    let less : f.earlier < f.later = f.in_order in
    record {
      earlier = suc f.earlier;
      later = suc f.later;
      in_order = omega arith;
      first_there = f.first_there;
      second_there = f.second_there;
      meet = f.meet;
      none_earlier = earlier f.earlier f.none_earlier;
      none_between = between f.earlier f.later f.none_between;
    }
  where
    earlier : (n : ℕ) → ((i j : ℕ) (x y : A) → i < n → i < j → slice_get zs i ≡ Some x → slice_get zs j ≡ Some y → ¬ M x y)
        → (i j : ℕ) (x y : A) → i < suc n → i < j → slice_get (z ∷ zs) i ≡ Some x → slice_get (z ∷ zs) j ≡ Some y → ¬ M x y
    earlier n none zero zero x y lt before at_i at_j = absurd (omega arith)
    earlier n none zero (suc j) x y lt before at_i at_j = let same : z ≡ x = cc in subst (λ (w : A). ¬ M w y) same (alone j y at_j)
    earlier n none (suc i) zero x y lt before at_i at_j = absurd (omega arith)
    earlier n none (suc i) (suc j) x y lt before at_i at_j = none i j x y (omega arith) (omega arith) at_i at_j

    between : (n m : ℕ) → ((j : ℕ) (y : A) → n < j → j < m → slice_get zs j ≡ Some y → ¬ M a y)
        → (j : ℕ) (y : A) → suc n < j → j < suc m → slice_get (z ∷ zs) j ≡ Some y → ¬ M a y
    between n m none zero y after before at = absurd (omega arith)
    between n m none (suc j) y after before at = none j y (omega arith) (omega arith) at

find_filter : {A : Type 0} (p g : A → Bool) (xs : List A) → find p (filter g xs) ≡ find (λ y. g y && p y) xs
find_filter p g [] = refl
find_filter p g (z ∷ zs) =
    elim (g z) as (λ b. find p (cond b (z ∷ filter g zs) (filter g zs)) ≡ cond (b && p z) (Some z) (find (λ y. g y && p y) zs)) [
      | true ↦ elim (p z) as (λ b. cond b (Some z) (find p (filter g zs)) ≡ cond b (Some z) (find (λ y. g y && p y) zs)) [
        | true ↦ refl
        | false ↦ find_filter p g zs
      ]
      | false ↦ find_filter p g zs
    ]

-- of the items that pass a test, the first that shares with a later one, by a search for each item among those after it

pub record ByFirst {A B : Type 0} (says : A → A → B) (M : A → A → Type 0) (xs : List A) (r : B) : Type 0 where
  pub first : A
  pub second : A
  pub is_said : says first second ≡ r
  pub is : IsFirstByFirst M xs first second

module _ {A B : Type 0} (says : A → A → B) (share : A → A → Bool) (g : A → Bool) (M : A → A → Type 0) (same : (x y : A) → IsTrue (g x && (g y && share x y)) ↔ M x y) where
  by_later : (z : A) (zs : List A) (r : B) → ((j : ℕ) (y : A) → slice_get zs j ≡ Some y → ¬ M z y) → ByFirst says M zs r → ByFirst says M (z ∷ zs) r
  by_later z zs r alone w = record { first = w.first; second = w.second; is_said = w.is_said; is = by_first_later M z zs w.first w.second alone w.is }

  -- what M is beside an item that passes, or does not
  beside : (z y : A) (b : Bool) → g z ≡ b → IsTrue (b && (g y && share z y)) ↔ M z y
  beside z y b e = subst (λ (v : Bool). IsTrue (v && (g y && share z y)) ↔ M z y) e (same z y)

  left_out : (z y : A) → g z ≡ false → ¬ M z y
  left_out z y e m = let never : false ≡ true = (beside z y false e).1 m in cc

  pub by_first : (search_in : List A → Option B) → (search_in [] ≡ None)
      → ((z : A) (zs : List A) → search_in (z ∷ zs) ≡ (option_map (says z) (find (share z) zs) <|> search_in zs))
      → (xs : List A) (r : B) → search_in (filter g xs) ≡ Some r → ByFirst says M xs r
  by_first search_in at_end at_item [] r h = let never : None ≡ Some r = sym at_end ∙ h in cc
  by_first search_in at_end at_item (z ∷ zs) r h =
      let rest : search_in (filter g zs) ≡ Some r → ByFirst says M zs r = by_first search_in at_end at_item zs r in
      elim (g z) as (λ b. (g z ≡ b) → search_in (cond b (z ∷ filter g zs) (filter g zs)) ≡ Some r → ByFirst says M (z ∷ zs) r) [
        | false ↦ λ e later. by_later z zs r (λ j y at. left_out z y e) (rest later)
        | true ↦ λ e found.
            elim (find (share z) (filter g zs)) as (λ o. (find (share z) (filter g zs) ≡ o) → (option_map (says z) o <|> search_in (filter g zs)) ≡ Some r → ByFirst says M (z ∷ zs) r) [
              | Some b ↦ λ at is.
                  let f = found_first (λ y. g y && share z y) (M z) (λ y. beside z y true e) zs b (sym (find_filter (share z) g zs) ∙ at) in
                  let is_said : says z b ≡ r = cc in
                  record { first = z; second = b; is_said = is_said; is = by_first_here M z zs b f }
              | None ↦ λ none later.
                  by_later z zs r (λ j y at. iff_false (beside z y true e) (missed_at (λ w. g w && share z w) zs j y (sym (find_filter (share z) g zs) ∙ none) at)) (rest later)
            ] refl (sym (at_item z (filter g zs)) ∙ found)
      ] refl h
