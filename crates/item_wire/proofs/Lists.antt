-- Items of a list one after the other, as a loop takes them.
use Rattle.std.proofs.Common.{◌≡◌, ℕ, suc, ◌+◌, ◌<◌, ◌≤◌, List, [], ◌∷◌, ◌++◌, length, drop, get_or, Option, Some, None, refl, sym, ap, ◌∙◌, append_assoc, add-one, drop-cons, Bool, IsTrue}
use Rattle.std.specs.List.{list_all}
use Rattle.std.proofs.lemmas.List.{append-nil}
use Rattle.std.proofs.lemmas.List.Folds.{list_all-append}
use Rattle.std.proofs.Math.ListN.{drop_of_length-le}
use Rattle.serde_json.specs.Data.{Data}
use Rattle.serde_json.specs.declared.value.Value.{Value}
use Rattle.serde_json.specs.View.{view, items_view}
use Rattle.item_wire.specs.Entries.{◌>>=◌, all_from}

-- what was read before, and what is still read
abbrev pub with_front : {A : Type 0} → List A → Option (List A) → Option (List A)
with_front front read = read >>= λ xs. Some (front ++ xs)

regroup : {A : Type 0} (front : List A) (x : A) (read : Option (List A)) → with_front front (read >>= λ xs. Some (x ∷ xs)) ≡ with_front (front ++ x ∷ []) read
regroup front x (Some xs) = ap (λ ys. Some ys) (simp append_assoc)
regroup front x None = refl

-- the value at i is next
next_is : {A : Type 0} (xs : List A) (i : ℕ) (x : A) → i < length xs → x ≡ get_or xs i x → drop i xs ≡ x ∷ drop (i + 1) xs
next_is xs i x lt e = rw add-one (drop-cons xs i x lt ∙ ap (λ w. w ∷ drop (suc i) xs) (sym e))

pub goes_on : {A : Type 0} (reads : Data → Option A) (front : List A) (vs : List Value) (i : ℕ) (v : Value) (x : A) (total : Option (List A))
    → i < length vs → v ≡ get_or vs i v → Some x ≡ reads (view v)
    → with_front front (all_from reads (items_view (drop i vs))) ≡ total
    → with_front (front ++ x ∷ []) (all_from reads (items_view (drop (i + 1) vs))) ≡ total
unfolding all_from
goes_on reads front vs i v x total lt at read so_far =
    let one : with_front front (all_from reads (items_view (drop i vs))) ≡ with_front (front ++ x ∷ []) (all_from reads (items_view (drop (i + 1) vs))) =
    rw (next_is vs i v lt at, sym read) (regroup front x (all_from reads (items_view (drop (i + 1) vs)))) in
    sym one ∙ so_far

pub stops : {A : Type 0} (reads : Data → Option A) (front : List A) (vs : List Value) (i : ℕ) (v : Value) (total : Option (List A))
    → i < length vs → v ≡ get_or vs i v → None ≡ reads (view v)
    → with_front front (all_from reads (items_view (drop i vs))) ≡ total
    → None ≡ total
unfolding all_from
stops reads front vs i v total lt at read so_far =
    let one : with_front front (all_from reads (items_view (drop i vs))) ≡ None = rw (next_is vs i v lt at, sym read) refl in
    sym one ∙ so_far

pub is_done : {A : Type 0} (reads : Data → Option A) (front : List A) (vs : List Value) (i : ℕ) (total : Option (List A))
    → length vs ≤ i → with_front front (all_from reads (items_view (drop i vs))) ≡ total → Some front ≡ total
unfolding all_from
is_done reads front vs i total le so_far =
    let one : with_front front (all_from reads (items_view (drop i vs))) ≡ Some front = rw (drop_of_length-le vs le) (ap (λ xs. Some xs) (append-nil front)) in
    sym one ∙ so_far

-- one more item within its range
pub fit_goes_on : {A : Type 0} (is_fit : A → Bool) (front : List A) (x : A) → IsTrue (list_all is_fit front) → IsTrue (is_fit x) → IsTrue (list_all is_fit (front ++ x ∷ []))
fit_goes_on is_fit front x all one =
    list_all-append is_fit front (x ∷ []) ∙ rw (all, one) refl
