-- Reading items one after the other, as a loop does.
use Rattle.std.proofs.Common.{◌≡◌, ℕ, suc, ◌+◌, ◌<◌, ◌≤◌, List, [], ◌∷◌, ◌++◌, length, drop, get_or, Result, Ok, Err, refl, sym, ap, ◌∙◌, append_assoc, add-one, drop-cons, Bool, IsTrue}
use Rattle.std.specs.List.{list_all}
use Rattle.std.proofs.lemmas.List.{append-nil}
use Rattle.std.proofs.lemmas.List.Folds.{list_all-append}
use Rattle.std.proofs.Math.ListN.{drop_of_length-le}
use Rattle.serde_json.specs.Data.{Data}
use Rattle.serde_json.specs.declared.value.Value.{Value}
use Rattle.serde_json.specs.View.{view, items_view}
use Rattle.config_model.specs.declared.fault.ReadRefusal.{ReadRefusal}
use Rattle.config_model.specs.declared.fault.ReadRefusal.TheVariants.{Doc, NoMemory}
use Rattle.config_model.specs.Paths.{item_path}
use Rattle.config_model.specs.Faults.{Fault, Fails, ◌>>=◌}
use Rattle.config_model.specs.Fields.{items_at}

-- what was read before, and what is still read
abbrev pub with_front : {A : Type 0} → List A → Result (List A) Fault → Result (List A) Fault
with_front front read = read >>= λ xs. Ok (front ++ xs)

regroup : {A : Type 0} (front : List A) (x : A) (read : Result (List A) Fault) → with_front front (read >>= λ xs. Ok (x ∷ xs)) ≡ with_front (front ++ x ∷ []) read
regroup front x (Ok xs) = ap (λ ys. Ok ys) (simp append_assoc)
regroup front x (Err f) = refl

-- the value at i is read next
next_is : (vs : List Value) (i : ℕ) (v : Value) → i < length vs → v ≡ get_or vs i v → drop i vs ≡ v ∷ drop (i + 1) vs
next_is vs i v lt e = rw add-one (drop-cons vs i v lt ∙ ap (λ w. w ∷ drop (suc i) vs) (sym e))

pub goes_on : {A : Type 0} (reads : List ℕ → Data → Result A Fault) (path : List ℕ) (front : List A) (vs : List Value) (i : ℕ) (v : Value) (x : A) (total : Result (List A) Fault)
    → i < length vs → v ≡ get_or vs i v → reads (item_path path i) (view v) ≡ Ok x
    → with_front front (items_at reads path i (items_view (drop i vs))) ≡ total
    → with_front (front ++ x ∷ []) (items_at reads path (i + 1) (items_view (drop (i + 1) vs))) ≡ total
unfolding items_at
goes_on reads path front vs i v x total lt at read so_far =
    let one : with_front front (items_at reads path i (items_view (drop i vs))) ≡ with_front (front ++ x ∷ []) (items_at reads path (i + 1) (items_view (drop (i + 1) vs))) =
    rw (next_is vs i v lt at, read) (regroup front x (items_at reads path (i + 1) (items_view (drop (i + 1) vs)))) in
    sym one ∙ so_far

pub stops : {A : Type 0} (e : ReadRefusal) (reads : List ℕ → Data → Result A Fault) (path : List ℕ) (front : List A) (vs : List Value) (i : ℕ) (v : Value) (total : Result (List A) Fault)
    → i < length vs → v ≡ get_or vs i v → Fails e (reads (item_path path i) (view v))
    → with_front front (items_at reads path i (items_view (drop i vs))) ≡ total
    → Fails e total
unfolding items_at
stops NoMemory reads path front vs i v total lt at read so_far = tt
stops (Doc f) reads path front vs i v total lt at read so_far =
    let one : with_front front (items_at reads path i (items_view (drop i vs))) ≡ Err _ = rw (next_is vs i v lt at, read) refl in
    sym so_far ∙ one

pub is_done : {A : Type 0} (reads : List ℕ → Data → Result A Fault) (path : List ℕ) (front : List A) (vs : List Value) (i : ℕ) (total : Result (List A) Fault)
    → length vs ≤ i → with_front front (items_at reads path i (items_view (drop i vs))) ≡ total → total ≡ Ok front
unfolding items_at
is_done reads path front vs i total le so_far =
    let one : with_front front (items_at reads path i (items_view (drop i vs))) ≡ Ok front = rw (drop_of_length-le vs le) (ap (λ xs. Ok xs) (append-nil front)) in
    sym so_far ∙ one

-- one more item of the form
pub form_goes_on : {A : Type 0} (has_form : A → Bool) (front : List A) (x : A) → IsTrue (list_all has_form front) → IsTrue (has_form x) → IsTrue (list_all has_form (front ++ x ∷ []))
form_goes_on has_form front x all one =
    list_all-append has_form front (x ∷ []) ∙ rw (all, one) refl
