-- Items of one list, and what a function gives of them.
use Rattle.std.proofs.Common.{◌≡◌, inl, inr, ◌||◌, ◌<◌, ℕ, zero, suc, Bool, true, false, cond, IsTrue, List, [], ◌∷◌, ◌++◌, length, map, flat_map, Option, Some, None, option_map, get_or, refl, sym, ap, ◌∙◌, subst, arith}
use Rattle.std.specs.List.{All, AllPairs, Contains, filter_map, cons_option, list_any, slice_get}
use Rattle.std.proofs.lemmas.List.{get_or-map, length-map}
use Rattle.std.proofs.lemmas.List.Elements.{All-append, All-cons, All-head, All-tail, All-contains, Contains-get_or, Contains-append_left, Contains-append_right}
use Rattle.std.proofs.lemmas.List.Kept.{AllPairs-cons}
use Rattle.ov_types.proofs.FirstLemmas.{contains_cases, contains_here, contains_later, pairs_head, pairs_tail}
use Rattle.acl_compile.proofs.PolicyRules.Lists.{mapped_is, joined_is, is_joined}

pub any_weaker : {A : Type 0} (p q : A → Bool) → ((x : A) → IsTrue (p x) → IsTrue (q x)) → (xs : List A) → IsTrue (list_any p xs) → IsTrue (list_any q xs)
any_weaker p q weaker [] h = h
any_weaker p q weaker (x ∷ xs) h =
    elim (p x) as (λ b. (b ≡ p x) → IsTrue (b || list_any p xs) → IsTrue (q x || list_any q xs)) [
      | true ↦ λ e t. rw (weaker x (sym e)) refl
      | false ↦ λ e t. elim (q x) as (λ b. IsTrue (b || list_any q xs)) [ true ↦ refl | false ↦ any_weaker p q weaker xs t ]
    ] refl h

module _ {A B : Type 0} (f : A → Option B) where
  -- what f gives of some item, where it gives something
  pub given : (xs : List A) (u : B) → Contains (filter_map f xs) u → (x : A) × Contains xs x × (f x ≡ Some u)
  given [] u h = absurd (omega (arith, h.1))
  given (x ∷ xs) u h =
      elim (f x) as (λ o. (o ≡ f x) → Contains (cons_option o (filter_map f xs)) u → (y : A) × Contains (x ∷ xs) y × (f y ≡ Some u)) [
        | None ↦ λ e within. let g = given xs u within in (g.0, contains_later g.0 x xs g.1, g.2)
        | Some v ↦ λ e within. elim (contains_cases v (filter_map f xs) u within) [
          | inl same ↦ (x, contains_here x xs, sym e ∙ ap (λ (w : B). Some w) same)
          | inr later ↦ let g = given xs u later in (g.0, contains_later g.0 x xs g.1, g.2)
        ]
      ] refl h

  pub gives : (xs : List A) (x : A) (u : B) → Contains xs x → f x ≡ Some u → Contains (filter_map f xs) u
  gives [] x u within is = absurd (omega (arith, within.1))
  gives (y ∷ xs) x u within is =
      elim (contains_cases y xs x within) [
        | inl same ↦
            subst (λ (o : Option B). Contains (cons_option o (filter_map f xs)) u) (sym (ap f same ∙ is)) (contains_here u (filter_map f xs))
        | inr later ↦
            let h = gives xs x u later is in
            elim (f y) as (λ o. Contains (cons_option o (filter_map f xs)) u) [ None ↦ h | Some v ↦ contains_later u v (filter_map f xs) h ]
      ]

  -- what f gives of all items, where it gives something
  pub all_given : (P : B → Type 0) (xs : List A) → All (λ x. (u : B) → f x ≡ Some u → P u) xs → All P (filter_map f xs)
  all_given P [] h = λ k d lt. absurd (omega arith)
  all_given P (x ∷ xs) h =
      let Q : A → Type 0 = λ y. (u : B) → f y ≡ Some u → P u in
      let rest = all_given P xs (All-tail Q x xs h) in
      elim (f x) as (λ o. (o ≡ f x) → All P (cons_option o (filter_map f xs))) [
        | None ↦ λ e. rest
        | Some u ↦ λ e. All-cons P u (filter_map f xs) (All-head Q x xs h u (sym e)) rest
      ] refl

  -- of all pairs of items
  pub pairs_given : (R : B → B → Type 0) (xs : List A) → AllPairs (λ x y. (u v : B) → f x ≡ Some u → f y ≡ Some v → R u v) xs → AllPairs R (filter_map f xs)
  pairs_given R [] h = λ i j d lt within. absurd (omega arith)
  pairs_given R (x ∷ xs) h =
      let S : A → A → Type 0 = λ y z. (u v : B) → f y ≡ Some u → f z ≡ Some v → R u v in
      let rest = pairs_given R xs (pairs_tail S x xs h) in
      elim (f x) as (λ o. (o ≡ f x) → AllPairs R (cons_option o (filter_map f xs))) [
        | None ↦ λ e. rest
        | Some u ↦ λ e. AllPairs-cons R u (filter_map f xs) (all_given (R u) xs (λ k d lt v is. pairs_head S x xs h k d lt u v (sym e) is)) rest
      ] refl

-- lists put together

pub pairs_append : {A : Type 0} (R : A → A → Type 0) (xs ys : List A) → AllPairs R xs → AllPairs R ys → All (λ x. All (R x) ys) xs → AllPairs R (xs ++ ys)
pairs_append R [] ys p q across = q
pairs_append {A} R (x ∷ xs) ys p q across =
    let S : A → Type 0 = λ z. All (R z) ys in
    AllPairs-cons R x (xs ++ ys)
    (All-append (R x) xs ys (pairs_head R x xs p) (All-head S x xs across))
    (pairs_append R xs ys (pairs_tail R x xs p) q (All-tail S x xs across))

module _ {A B : Type 0} (f : A → List B) where
  all_flat : (P : B → Type 0) (xs : List A) → All (λ x. All P (f x)) xs → All P (flat_map f xs)
  all_flat P [] h = λ k d lt. absurd (omega arith)
  all_flat P (x ∷ xs) h =
      let S : A → Type 0 = λ z. All P (f z) in
      All-append P (f x) (flat_map f xs) (All-head S x xs h) (all_flat P xs (All-tail S x xs h))

  -- of all pairs in the lists that f gives: those of one list, and those of two
  pub pairs_flat : (R : B → B → Type 0) (xs : List A) → All (λ x. AllPairs R (f x)) xs
      → AllPairs (λ x y. All (λ u. All (R u) (f y)) (f x)) xs → AllPairs R (flat_map f xs)
  pairs_flat R [] one two = λ i j d lt within. absurd (omega arith)
  pairs_flat R (x ∷ xs) one two =
      let S : A → Type 0 = λ z. AllPairs R (f z) in
      let T : A → A → Type 0 = λ y z. All (λ u. All (R u) (f z)) (f y) in
      pairs_append R (f x) (flat_map f xs) (All-head S x xs one)
      (pairs_flat R xs (All-tail S x xs one) (pairs_tail T x xs two))
      (λ k d lt. all_flat (R (get_or (f x) k d)) xs (λ j e within. pairs_head T x xs two j e within k d lt))

pub pairs_of_map : {A B : Type 0} (f : A → B) (R : B → B → Type 0) (xs : List A) → AllPairs R (map f xs) → AllPairs (λ x y. R (f x) (f y)) xs
pairs_of_map f R [] h = λ i j d lt within. absurd (omega arith)
pairs_of_map {A} f R (x ∷ xs) h =
    AllPairs-cons (λ (y z : A). R (f y) (f z)) x xs
    (λ k d lt. subst (λ y. R (f x) y) (get_or-map f xs k d (f d) lt) (pairs_head R (f x) (map f xs) h k (f d) (simp length-map lt)))
    (pairs_of_map f R xs (pairs_tail R (f x) (map f xs) h))

-- what stands in lists that are made of others

-- what stands in a list that is there where a test passes
pub there_if : {A : Type 0} (b : Bool) (xs : List A) (x : A) → Contains (cond b xs []) x → IsTrue b × Contains xs x
there_if true xs x h = (refl, h)
there_if false xs x h = absurd (omega (arith, h.1))

pub is_there : {A : Type 0} (b : Bool) (xs : List A) (x : A) → IsTrue b → Contains xs x → Contains (cond b xs []) x
is_there true xs x t h = h
is_there false xs x t h = cc

-- an answer that is there where a test passes
pub some_if : {A : Type 0} (b : Bool) (x u : A) → cond b (Some x) None ≡ Some u → IsTrue b × (x ≡ u)
some_if true x u h = (refl, cc)
some_if false x u h = cc

pub is_some : {A : Type 0} (b : Bool) (x : A) → IsTrue b → cond b (Some x) None ≡ Some x
is_some true x h = refl
is_some false x h = cc

pub mapped_some : {A B : Type 0} (f : A → B) (o : Option A) (u : B) → option_map f o ≡ Some u → (x : A) × (o ≡ Some x) × (f x ≡ u)
mapped_some f None u h = cc
mapped_some f (Some x) u h = (x, refl, cc)

-- the place of an item
pub at_place : {A : Type 0} (xs : List A) (x : A) → Contains xs x → (place : ℕ) × (slice_get xs place ≡ Some x)
at_place [] x h = absurd (omega (arith, h.1))
at_place {A} (y ∷ ys) x h =
    elim (contains_cases y ys x h) [
      | inl same ↦ (0, ap (λ (z : A). Some z) same)
      | inr later ↦ let q = at_place ys x later in (suc q.0, q.1)
    ]

pub place_within : {A : Type 0} (xs : List A) (place : ℕ) (x : A) → slice_get xs place ≡ Some x → place < length xs
place_within [] place x h = cc
place_within (y ∷ ys) zero x h = omega arith
place_within (y ∷ ys) (suc place) x h = let later = place_within ys place x h in omega arith

-- pairs of items

pub no_pairs : {A : Type 0} (R : A → A → Type 0) → AllPairs R []
no_pairs R = λ i j d lt within. absurd (omega arith)

pub pairs_weaker : {A : Type 0} (R S : A → A → Type 0) (xs : List A) → AllPairs R xs
    → ((x y : A) → Contains xs x → Contains xs y → R x y → S x y) → AllPairs S xs
pairs_weaker R S xs h weaker = λ i j d lt within.
    let before : i < length xs = omega arith in
    weaker (get_or xs i d) (get_or xs j d) (Contains-get_or xs i d before) (Contains-get_or xs j d within) (h i j d lt within)

pub pairs_append_by : {A : Type 0} (R : A → A → Type 0) (xs ys : List A) → AllPairs R xs → AllPairs R ys
    → ((x y : A) → Contains xs x → Contains ys y → R x y) → AllPairs R (xs ++ ys)
pairs_append_by R xs ys p q across =
    pairs_append R xs ys p q
    (λ k d lt i e within. across (get_or xs k d) (get_or ys i e) (Contains-get_or xs k d lt) (Contains-get_or ys i e within))

pub pairs_given_by : {A B : Type 0} (f : A → Option B) (R : B → B → Type 0) (S : A → A → Type 0) (xs : List A) → AllPairs S xs
    → ((x y : A) (u v : B) → Contains xs x → Contains xs y → S x y → f x ≡ Some u → f y ≡ Some v → R u v) → AllPairs R (filter_map f xs)
pairs_given_by {A} {B} f R S xs h by =
    let T : A → A → Type 0 = λ x y. (u v : B) → f x ≡ Some u → f y ≡ Some v → R u v in
    pairs_given f R xs (pairs_weaker S T xs h (λ x y in_x in_y s u v. by x y u v in_x in_y s))

pub pairs_mapped : {A B : Type 0} (f : A → B) (R : B → B → Type 0) (xs : List A) → AllPairs (λ x y. R (f x) (f y)) xs → AllPairs R (map f xs)
pairs_mapped f R [] h = no_pairs R
pairs_mapped {A} f R (x ∷ xs) h =
    let S : A → A → Type 0 = λ y z. R (f y) (f z) in
    AllPairs-cons R (f x) (map f xs)
    (λ k d lt.
    let q = mapped_is f xs (get_or (map f xs) k d) (Contains-get_or (map f xs) k d lt) in
    subst (R (f x)) q.2 (All-contains (S x) xs q.0 (pairs_head S x xs h) q.1))
    (pairs_mapped f R xs (pairs_tail S x xs h))

module _ {A : Type 0} (R : A → A → Type 0) where
  pub pairs_front : (xs ys : List A) → AllPairs R (xs ++ ys) → AllPairs R xs
  pairs_front [] ys h = no_pairs R
  pairs_front (x ∷ xs) ys h =
      AllPairs-cons R x xs
      (λ k d lt.
      All-contains (R x) (xs ++ ys) (get_or xs k d) (pairs_head R x (xs ++ ys) h)
      (Contains-append_left xs ys (get_or xs k d) (Contains-get_or xs k d lt)))
      (pairs_front xs ys (pairs_tail R x (xs ++ ys) h))

  pub pairs_back : (xs ys : List A) → AllPairs R (xs ++ ys) → AllPairs R ys
  pairs_back [] ys h = h
  pairs_back (x ∷ xs) ys h = pairs_back xs ys (pairs_tail R x (xs ++ ys) h)

  pub pairs_across : (xs ys : List A) (x y : A) → AllPairs R (xs ++ ys) → Contains xs x → Contains ys y → R x y
  pairs_across [] ys x y h in_x in_y = absurd (omega (arith, in_x.1))
  pairs_across (z ∷ zs) ys x y h in_x in_y =
      elim (contains_cases z zs x in_x) [
        | inl same ↦
            subst (λ w. R w y) same
            (All-contains (R z) (zs ++ ys) y (pairs_head R z (zs ++ ys) h) (Contains-append_right zs ys y in_y))
        | inr later ↦ pairs_across zs ys x y (pairs_tail R z (zs ++ ys) h) later in_y
      ]

module _ {A B : Type 0} (f : B → List A) (R : A → A → Type 0) where
  -- of the lists that f gives: those of one list, and those of two
  pub pairs_joined_by : (S : B → B → Type 0) (bs : List B) → AllPairs S bs → ((b : B) → Contains bs b → AllPairs R (f b))
      → ((b c : B) (x y : A) → Contains bs b → Contains bs c → S b c → Contains (f b) x → Contains (f c) y → R x y) → AllPairs R (flat_map f bs)
  pairs_joined_by S [] h inner across = no_pairs R
  pairs_joined_by S (b ∷ bs) h inner across =
      pairs_append_by R (f b) (flat_map f bs) (inner b (contains_here b bs))
      (pairs_joined_by S bs (pairs_tail S b bs h) (λ c in_c. inner c (contains_later c b bs in_c))
      (λ c d x y in_c in_d. across c d x y (contains_later c b bs in_c) (contains_later d b bs in_d)))
      (λ x y in_x in_y.
      let from = joined_is f bs y in_y in
      across b from.0 x y (contains_here b bs) (contains_later from.0 b bs from.1)
      (All-contains (S b) bs from.0 (pairs_head S b bs h) from.1) in_x from.2)

  pub pairs_in_part : (bs : List B) (b : B) → AllPairs R (flat_map f bs) → Contains bs b → AllPairs R (f b)
  pairs_in_part [] b h inside = absurd (omega (arith, inside.1))
  pairs_in_part (c ∷ cs) b h inside =
      elim (contains_cases c cs b inside) [
        | inl same ↦ subst (λ z. AllPairs R (f z)) same (pairs_front R (f c) (flat_map f cs) h)
        | inr later ↦ pairs_in_part cs b (pairs_back R (f c) (flat_map f cs) h) later
      ]

  abbrev pub Across : B → B → Type 0
  Across b c = (x y : A) → Contains (f b) x → Contains (f c) y → R x y

  pub pairs_of_parts : (bs : List B) → AllPairs R (flat_map f bs) → AllPairs Across bs
  pairs_of_parts [] h = no_pairs Across
  pairs_of_parts (b ∷ bs) h =
      AllPairs-cons Across b bs
      (λ k d lt x y in_x in_y.
      pairs_across R (f b) (flat_map f bs) x y h in_x
      (is_joined f bs (get_or bs k d) y (Contains-get_or bs k d lt) in_y))
      (pairs_of_parts bs (pairs_back R (f b) (flat_map f bs) h))

module _ {A B : Type 0} (f : A → Option B) (R : B → B → Type 0) where
  abbrev pub Gives : A → A → Type 0
  Gives x y = (u v : B) → f x ≡ Some u → f y ≡ Some v → R u v

  pub pairs_ungiven : (xs : List A) → AllPairs R (filter_map f xs) → AllPairs Gives xs
  pairs_ungiven [] h = no_pairs Gives
  pairs_ungiven (x ∷ xs) h =
      elim (f x) as (λ o. (o ≡ f x) → AllPairs R (cons_option o (filter_map f xs)) → AllPairs Gives (x ∷ xs)) [
        | None ↦ λ e g. AllPairs-cons Gives x xs (λ k d lt u v is here. let never : None ≡ Some u = e ∙ is in cc) (pairs_ungiven xs g)
        | Some w ↦ λ e g.
            AllPairs-cons Gives x xs
            (λ k d lt u v is here.
            let both : Some w ≡ Some u = e ∙ is in
            let same : w ≡ u = cc in
            All-contains (R u) (filter_map f xs) v (subst (λ z. All (R z) (filter_map f xs)) same (pairs_head R w (filter_map f xs) g))
            (gives f xs (get_or xs k d) v (Contains-get_or xs k d lt) here))
            (pairs_ungiven xs (pairs_tail R w (filter_map f xs) g))
      ] refl h
