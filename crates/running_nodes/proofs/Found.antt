-- The first of a list that passes a test, looked for one by one.
use Rattle.std.proofs.Common.{◌≡◌, ◌<◌, ◌≤◌, ◌+◌, ℕ, zero, suc, Bool, true, false, cond, if◌then◌else◌, Option, Some, None, List, [], ◌∷◌, length, find, map, get_or, drop, sym, ◌∙◌, ap, refl, arith, add-one}
use Rattle.std.specs.List.{Contains}
use Rattle.ov_types.specs.First.{same_name}
use Rattle.ov_types.proofs.FirstLemmas.{same_name_self}
use Rattle.ov_types.specs.declared.rows.NodeId.{NodeId}
use Rattle.running_nodes.specs.Seats.{index_from}

drop_at : {A : Type 0} (xs : List A) (k : ℕ) (d : A) → k < length xs → drop k xs ≡ get_or xs k d ∷ drop (suc k) xs
drop_at [] k d lt = absurd (omega arith)
drop_at (x ∷ xs) zero d lt = refl
drop_at (x ∷ xs) (suc k) d lt = drop_at xs k d (omega arith)

drop_all : {A : Type 0} (xs : List A) (k : ℕ) → length xs ≤ k → drop k xs ≡ []
drop_all [] zero h = refl
drop_all [] (suc k) h = refl
drop_all (x ∷ xs) zero h = absurd (omega arith)
drop_all (x ∷ xs) (suc k) h = drop_all xs k (omega arith)

-- ---- its place
pub here : {A : Type 0} (is : A → Bool) (xs : List A) (k : ℕ) (x : A) → k < length xs → x ≡ get_or xs k x → is x ≡ true
    → index_from k is (drop k xs) ≡ Some k
here {A} is xs k x lt at holds =
    ap (λ (ys : List A). index_from k is ys) (drop_at xs k x lt)
    ∙ ap (λ (b : Bool). if b then Some k else index_from (suc k) is (drop (suc k) xs)) (ap is (sym at) ∙ holds)

pub later : {A : Type 0} (is : A → Bool) (xs : List A) (k : ℕ) (x : A) → k < length xs → x ≡ get_or xs k x → is x ≡ false
    → index_from k is (drop k xs) ≡ index_from (k + 1) is (drop (k + 1) xs)
later {A} is xs k x lt at fails =
    rw add-one (ap (λ (ys : List A). index_from k is ys) (drop_at xs k x lt)
    ∙ ap (λ (b : Bool). if b then Some k else index_from (suc k) is (drop (suc k) xs)) (ap is (sym at) ∙ fails))

pub none_left : {A : Type 0} (is : A → Bool) (xs : List A) (k : ℕ) → length xs ≤ k → index_from k is (drop k xs) ≡ None
none_left {A} is xs k all = ap (λ (ys : List A). index_from k is ys) (drop_all xs k all)

-- it is among them
pub found_below : {A : Type 0} (is : A → Bool) (xs : List A) (k i : ℕ) → index_from k is xs ≡ Some i → i < k + length xs
found_below is [] k i e = absurd (let none : None ≡ Some i = e in cc)
found_below {A} is (x ∷ xs) k i e = by_test (is x) e (found_below is xs (suc k) i)
  where
    by_test : (b : Bool) → (if b then Some k else index_from (suc k) is xs) ≡ Some i
        → (index_from (suc k) is xs ≡ Some i → i < suc k + length xs) → i < k + length (x ∷ xs)
    by_test true h rest = let same : k ≡ i = cc in omega arith
    by_test false h rest = let later : i < suc k + length xs = rest h in omega arith

-- ---- itself
pub found_here : {A : Type 0} (is : A → Bool) (xs : List A) (k : ℕ) (x : A) → k < length xs → x ≡ get_or xs k x → is x ≡ true
    → find is (drop k xs) ≡ Some x
found_here {A} is xs k x lt at holds =
    ap (λ (ys : List A). find is ys) (drop_at xs k x lt)
    ∙ (ap (λ (b : Bool). cond b (Some (get_or xs k x)) (find is (drop (suc k) xs))) (ap is (sym at) ∙ holds) ∙ ap Some (sym at))

pub found_later : {A : Type 0} (is : A → Bool) (xs : List A) (k : ℕ) (x : A) → k < length xs → x ≡ get_or xs k x → is x ≡ false
    → find is (drop k xs) ≡ find is (drop (k + 1) xs)
found_later {A} is xs k x lt at fails =
    rw add-one (ap (λ (ys : List A). find is ys) (drop_at xs k x lt)
    ∙ ap (λ (b : Bool). cond b (Some (get_or xs k x)) (find is (drop (suc k) xs))) (ap is (sym at) ∙ fails))

pub none_found : {A : Type 0} (is : A → Bool) (xs : List A) (k : ℕ) → length xs ≤ k → find is (drop k xs) ≡ None
none_found {A} is xs k all = ap (λ (ys : List A). find is ys) (drop_all xs k all)

-- a name that is there is found
by_name : (nodes : List NodeId) (name : List ℕ) (k : ℕ) → k < length (map (λ (n : NodeId). n.name) nodes)
    → get_or (map (λ (n : NodeId). n.name) nodes) k name ≡ name
    → find (λ (n : NodeId). same_name n.name name) nodes ≡ None → ⊥
by_name [] name k lt at none = omega arith
by_name (n ∷ nodes) name zero lt at none =
    let same : same_name n.name name ≡ true = ap (λ (m : List ℕ). same_name m name) at ∙ same_name_self name in
    let some : Some n ≡ None = sym (ap (λ (b : Bool). cond b (Some n) (find (λ (n : NodeId). same_name n.name name) nodes)) same) ∙ none in
    cc
by_name (n ∷ nodes) name (suc k) lt at none =
    by_name nodes name k (omega arith) at (rest (same_name n.name name) n (find (λ (n : NodeId). same_name n.name name) nodes) none)
  where
    rest : (b : Bool) (n : NodeId) (r : Option NodeId) → cond b (Some n) r ≡ None → r ≡ None
    rest true n r h = cc
    rest false n r h = h

pub is_found : (nodes : List NodeId) (name : List ℕ) → Contains (map (λ (n : NodeId). n.name) nodes) name
    → find (λ (n : NodeId). same_name n.name name) nodes ≡ None → ⊥
is_found nodes name there none = by_name nodes name there.0 there.1 there.2 none
