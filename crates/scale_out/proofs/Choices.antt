-- One member is chosen, and what becomes of the choice where the list changes.
use Rattle.std.proofs.Common.{◌≡◌, ◌≢◌, ◌↔◌, ℕ, zero, suc, ◌<◌, ◌≤◌, ◌⊎◌, inl, inr, ⊎_elim, Bool, true, false, cond, leb, List, [], ◌∷◌, ◌++◌, length, get_or, Some, None, find, unwrap_or, refl, sym, ◌∙◌, ap, subst, arith}
use Rattle.std.specs.List.{All, AllPairs, Contains}
use Rattle.std.specs.List.Sorted.{IsStrictlyIncreasing}
use Rattle.std.proofs.lemmas.Bool.{cases_lt, cases_eq, leb-true, le-leb}
use Rattle.std.proofs.lemmas.List.Elements.{All-cons, All-head, All-tail, All-contains, Contains-append_left, Contains-append_right, Contains-append_cases}
use Rattle.std.proofs.lemmas.List.Kept.{AllPairs-cons, AllPairs-from_increasing}
use Rattle.ov_types.proofs.FirstLemmas.{pairs_head, pairs_tail, contains_cases, contains_later, contains_here, find_none}
use Rattle.config_check.proofs.Iffs.{list_all_true}
use Rattle.scale_out.specs.Choice.{score, is_greatest, chosen, IsChosen}

abbrev pub Below : ℕ → ℕ → Type 0
Below x y = x < y

abbrev pub Ascends : List ℕ → Type 0
Ascends xs = AllPairs Below xs

-- the first item that passes a test, and where it stands
pub record IsFirst (p : ℕ → Bool) (xs : List ℕ) (x : ℕ) : Type 0 where
  pub place : ℕ
  pub within : place < length xs
  pub there : (d : ℕ) → get_or xs place d ≡ x
  pub passes : p x ≡ true
  pub before : (k d : ℕ) → k < place → p (get_or xs k d) ≡ false

one_later : (p : ℕ → Bool) (y : ℕ) (ys : List ℕ) (x : ℕ) → p y ≡ false → IsFirst p ys x → IsFirst p (y ∷ ys) x
one_later p y ys x fails f = record {
  place = suc f.place;
  within = omega (arith, f.within);
  there = f.there;
  passes = f.passes;
  before = fail_before;
}
  where
    fail_before : (k d : ℕ) → k < suc f.place → p (get_or (y ∷ ys) k d) ≡ false
    fail_before zero d h = fails
    fail_before (suc k) d h = f.before k d (omega (arith, h))

pub first_found : (p : ℕ → Bool) (xs : List ℕ) (x : ℕ) → find p xs ≡ Some x → IsFirst p xs x
first_found p [] x h = cc
first_found p (y ∷ ys) x h =
    elim (p y) as (λ b. (p y ≡ b) → cond b (Some y) (find p ys) ≡ Some x → IsFirst p (y ∷ ys) x) [
      | true ↦ λ e here. let same : y ≡ x = cc in record {
        place = 0;
        within = omega arith;
        there = λ d. same;
        passes = ap p (sym same) ∙ e;
        before = λ k d lt. absurd (omega (arith, lt));
      }
      | false ↦ λ e later. one_later p y ys x e (first_found p ys x later)
    ] refl h

-- what no other exceeds
greatest_all : (members : List ℕ) (key m : ℕ) → is_greatest members key m ≡ true → All (λ n. score key n ≤ score key m) members
greatest_all members key m e = λ k d h. leb-true (score key (get_or members k d)) (score key m) ((list_all_true (λ n. leb (score key n) (score key m)) members).0 e k d h)

all_greatest : (members : List ℕ) (key m : ℕ) → All (λ n. score key n ≤ score key m) members → is_greatest members key m ≡ true
all_greatest members key m all = (list_all_true (λ n. leb (score key n) (score key m)) members).1 (λ k d h. le-leb (score key (get_or members k d)) (score key m) (all k d h))

-- some member has the greatest score
some_greatest : (x : ℕ) (xs : List ℕ) (key : ℕ) → (m : ℕ) × Contains (x ∷ xs) m × All (λ n. score key n ≤ score key m) (x ∷ xs)
some_greatest x [] key = (x, contains_here x [], All-cons (λ n. score key n ≤ score key x) x [] (omega arith) (λ k d h. absurd (omega (arith, h))))
some_greatest x (y ∷ ys) key =
    let rest = some_greatest y ys key in
    ⊎_elim
    (λ less. (rest.0, contains_later rest.0 x (y ∷ ys) rest.1, All-cons (λ n. score key n ≤ score key rest.0) x (y ∷ ys) (omega (arith, less)) rest.2))
    (λ more. (x, contains_here x (y ∷ ys), All-cons (λ n. score key n ≤ score key x) x (y ∷ ys) (omega arith) (λ k d h. let below = rest.2 k d h in omega (arith, below, more))))
    (cases_lt (score key x) (score key rest.0))

-- the first that none exceeds is the least such
first_is_chosen : (members : List ℕ) (key m : ℕ) → Ascends members → IsFirst (is_greatest members key) members m → IsChosen members key m
first_is_chosen members key m ascends f = record {
  stands = (f.place, f.within, f.there m);
  greatest = all;
  least = λ k d h same.
      ⊎_elim
      (λ before.
      let passes : is_greatest members key (get_or members k d) ≡ true = all_greatest members key (get_or members k d) (λ i e lt. let below = all i e lt in omega (arith, below, same)) in
      let never : true ≡ false = sym passes ∙ f.before k d before in
      absurd cc)
      (λ after. ⊎_elim
      (λ later. let less = ascends f.place k d later h in let is = f.there d in omega (arith, less, is))
      (λ not_later. let here : k ≡ f.place = omega (arith, after, not_later) in let is : get_or members k d ≡ m = ap (λ i. get_or members i d) here ∙ f.there d in omega (arith, is))
      (cases_lt f.place k))
      (cases_lt k f.place);
}
  where
    all : All (λ n. score key n ≤ score key m) members
    all = greatest_all members key m f.passes

pub chosen_is : (x : ℕ) (xs : List ℕ) (key : ℕ) → Ascends (x ∷ xs) → IsChosen (x ∷ xs) key (chosen (x ∷ xs) key)
chosen_is x xs key ascends =
    elim (find (is_greatest (x ∷ xs) key) (x ∷ xs)) as (λ o. find (is_greatest (x ∷ xs) key) (x ∷ xs) ≡ o → IsChosen (x ∷ xs) key (unwrap_or o 0)) [
      | None ↦ λ e.
          let some = some_greatest x xs key in
          let passes : is_greatest (x ∷ xs) key some.0 ≡ true = all_greatest (x ∷ xs) key some.0 some.2 in
          let fails : is_greatest (x ∷ xs) key some.0 ≡ false = All-contains (λ n. is_greatest (x ∷ xs) key n ≡ false) (x ∷ xs) some.0 ((find_none (is_greatest (x ∷ xs) key) (x ∷ xs)).0 e) some.1 in
          let never : true ≡ false = sym passes ∙ fails in
          absurd cc
      | Some m ↦ λ e. first_is_chosen (x ∷ xs) key m ascends (first_found (is_greatest (x ∷ xs) key) (x ∷ xs) m e)
    ] refl

pub one_chosen : (members : List ℕ) (key m n : ℕ) → IsChosen members key m → IsChosen members key n → m ≡ n
one_chosen members key m n a b =
    let up = All-contains (λ x. score key x ≤ score key m) members n a.greatest b.stands in
    let down = All-contains (λ x. score key x ≤ score key n) members m b.greatest a.stands in
    let first = All-contains (λ x. score key x ≡ score key m → m ≤ x) members n a.least b.stands (omega (arith, up, down)) in
    let second = All-contains (λ x. score key x ≡ score key n → n ≤ x) members m b.least a.stands (omega (arith, up, down)) in
    omega (arith, first, second)

pub chosen_of_some : (members : List ℕ) (key : ℕ) → 0 < length members → Ascends members → IsChosen members key (chosen members key)
chosen_of_some [] key some ascends = absurd (omega (arith, some))
chosen_of_some (x ∷ xs) key some ascends = chosen_is x xs key ascends

pub is_the_chosen : (members : List ℕ) (key m : ℕ) → 0 < length members → Ascends members → IsChosen members key m → chosen members key ≡ m
is_the_chosen members key m some ascends is = one_chosen members key (chosen members key) m (chosen_of_some members key some ascends) is

pub chosen_iff : (members : List ℕ) (key m : ℕ) → 0 < length members → IsStrictlyIncreasing members → (chosen members key ≡ m) ↔ IsChosen members key m
chosen_iff members key m some increasing =
    let ascends = AllPairs-from_increasing members increasing in
    let P : ℕ → Type 0 = λ n. IsChosen members key n in
    (λ e. subst P e (chosen_of_some members key some ascends), λ is. is_the_chosen members key m some ascends is)

-- the same list without an item
module _ (x : ℕ) (after : List ℕ) where
  all_without : (P : ℕ → Type 0) (before : List ℕ) → All P (before ++ x ∷ after) → All P (before ++ after)
  all_without P [] h = All-tail P x after h
  all_without P (b ∷ bs) h = All-cons P b (bs ++ after) (All-head P b (bs ++ x ∷ after) h) (all_without P bs (All-tail P b (bs ++ x ∷ after) h))

  ascends_without : (before : List ℕ) → Ascends (before ++ x ∷ after) → Ascends (before ++ after)
  ascends_without [] h = pairs_tail Below x after h
  ascends_without (b ∷ bs) h =
      AllPairs-cons Below b (bs ++ after)
      (all_without (Below b) bs (pairs_head Below b (bs ++ x ∷ after) h))
      (ascends_without bs (pairs_tail Below b (bs ++ x ∷ after) h))

  stays_in : (before : List ℕ) (m : ℕ) → Contains (before ++ x ∷ after) m → m ≢ x → Contains (before ++ after) m
  stays_in before m h other =
      ⊎_elim
      (λ left. Contains-append_left before after m left)
      (λ right. ⊎_elim (λ same. absurd (other (sym same))) (λ later. Contains-append_right before after m later) (contains_cases x after m right))
      (Contains-append_cases before (x ∷ after) m h)

some_there : (xs : List ℕ) (m : ℕ) → Contains xs m → 0 < length xs
some_there xs m h = omega (arith, h.1)

some_between : (before after : List ℕ) (x : ℕ) → 0 < length (before ++ x ∷ after)
some_between [] after x = omega arith
some_between (b ∷ bs) after x = omega arith

pub taken : (before after : List ℕ) (member key : ℕ) → IsStrictlyIncreasing (before ++ member ∷ after) → chosen (before ++ member ∷ after) key ≢ member
    → chosen (before ++ after) key ≡ chosen (before ++ member ∷ after) key
taken before after member key increasing other =
    let ascends = AllPairs-from_increasing (before ++ member ∷ after) increasing in
    let m : ℕ = chosen (before ++ member ∷ after) key in
    let is : IsChosen (before ++ member ∷ after) key m = chosen_of_some (before ++ member ∷ after) key (some_between before after member) ascends in
    let there : Contains (before ++ after) m = stays_in member after before m is.stands other in
    is_the_chosen (before ++ after) key m (some_there (before ++ after) m there) (ascends_without member after before ascends) (record {
      stands = there;
      greatest = all_without member after (λ n. score key n ≤ score key m) before is.greatest;
      least = all_without member after (λ n. score key n ≡ score key m → m ≤ n) before is.least;
    })

pub added : (before after : List ℕ) (member key : ℕ) → IsStrictlyIncreasing (before ++ member ∷ after)
    → (chosen (before ++ member ∷ after) key ≡ chosen (before ++ after) key) ⊎ (chosen (before ++ member ∷ after) key ≡ member)
added before after member key increasing =
    ⊎_elim (λ same. inr same) (λ other. inl (sym (taken before after member key increasing other))) (cases_eq (chosen (before ++ member ∷ after) key) member)
