-- A list of which one item after another is replaced by the same one.
use Rattle.std.proofs.Common.{◌≡◌, ◌≤◌, ◌+◌, ℕ, zero, suc, Bool, false, List, [], ◌∷◌, ◌++◌, length, get_or, map, set, take, drop, ap, refl, arith, add-one, ◌∙◌}
use Rattle.std.proofs.lemmas.List.{take-append-le, take_all}
use Rattle.running_nodes.specs.Steps.{all_of}
use Rattle.running_nodes.specs.Changes.{unbroken_outer}
use Rattle.running_nodes.specs.Halves.{Outer}

abbrev pub cleared : {A : Type 0} → A → ℕ → List A → List A
cleared b zero xs = xs
cleared b (suc i) [] = []
cleared b (suc i) (x ∷ xs) = b ∷ cleared b i xs

pub one_more : {A : Type 0} (b : A) (i : ℕ) (xs : List A) → set (cleared b i xs) i b ≡ cleared b (i + 1) xs
one_more b i xs = rw add-one (step b i xs)
  where
    step : {A : Type 0} (b : A) (i : ℕ) (xs : List A) → set (cleared b i xs) i b ≡ cleared b (suc i) xs
    step b zero [] = refl
    step b zero (x ∷ xs) = refl
    step b (suc i) [] = refl
    step {A} b (suc i) (x ∷ xs) = ap (λ (ys : List A). b ∷ ys) (step b i xs)

pub all_cleared : {A : Type 0} (b : A) (i : ℕ) (xs : List A) → length xs ≤ i → cleared b i xs ≡ all_of b xs
all_cleared b zero [] h = refl
all_cleared b zero (x ∷ xs) h = absurd (omega arith)
all_cleared b (suc i) [] h = refl
all_cleared {A} b (suc i) (x ∷ xs) h = ap (λ (ys : List A). b ∷ ys) (all_cleared b i xs (omega arith))

pub as_long : {A : Type 0} (b : A) (i : ℕ) (xs : List A) → length (cleared b i xs) ≡ length xs
as_long b zero xs = refl
as_long b (suc i) [] = refl
as_long b (suc i) (x ∷ xs) = ap suc (as_long b i xs)

-- ---- both at once
abbrev pub partly : ℕ → Outer → Outer
partly i s = record s { links = cleared [] i s.links; notices = cleared false i s.notices }

pub both_more : (s now mid next : Outer) (i : ℕ) → now ≡ partly i s → mid ≡ record now { links = set now.links i [] }
    → next ≡ record mid { notices = set mid.notices i false } → next ≡ partly (i + 1) s
both_more s now mid next i before clears sets =
    let with_links = λ (o : Outer). let p : Outer = record o { links = set o.links i [] } in p in
    let with_notices = λ (o : Outer). let p : Outer = record o { notices = set o.notices i false } in p in
    sets ∙ (ap with_notices (clears ∙ ap with_links before)
    ∙ (ap (λ (ls : List (List (List ℕ))). let p : Outer = record s { links = ls; notices = set (cleared false i s.notices) i false } in p) (one_more [] i s.links)
    ∙ ap (λ (ns : List Bool). let p : Outer = record s { links = cleared [] (i + 1) s.links; notices = ns } in p) (one_more false i s.notices)))

pub both_all : (s now : Outer) (i : ℕ) → now ≡ partly i s → length s.links ≤ i → length s.notices ≤ i
    → now ≡ record s { links = all_of [] s.links; notices = all_of false s.notices }
both_all s now i before links notices =
    before
    ∙ (ap (λ (ls : List (List (List ℕ))). let p : Outer = record s { links = ls; notices = cleared false i s.notices } in p) (all_cleared [] i s.links links)
    ∙ ap (λ (ns : List Bool). let p : Outer = record s { links = all_of [] s.links; notices = ns } in p) (all_cleared false i s.notices notices))

-- ---- the breaks alone
abbrev pub unbroken_to : ℕ → Outer → Outer
unbroken_to i s = record s { breaks = cleared [] i s.breaks }

pub breaks_more : (s now next : Outer) (i : ℕ) → now ≡ unbroken_to i s → next ≡ record now { breaks = set now.breaks i [] }
    → next ≡ unbroken_to (i + 1) s
breaks_more s now next i before drops =
    drops ∙ (ap (λ (o : Outer). let p : Outer = record o { breaks = set o.breaks i [] } in p) before
    ∙ ap (λ (bs : List (List ℕ)). let p : Outer = record s { breaks = bs } in p) (one_more [] i s.breaks))

pub breaks_all : (s now : Outer) (i : ℕ) → now ≡ unbroken_to i s → length s.breaks ≤ i → now ≡ unbroken_outer s
breaks_all s now i before all =
    before ∙ ap (λ (bs : List (List ℕ)). let p : Outer = record s { breaks = bs } in p) (all_cleared [] i s.breaks all)

-- ---- a list of which one item after another is mapped
abbrev pub mapped_to : {A : Type 0} → (A → A) → ℕ → List A → List A
mapped_to f zero xs = xs
mapped_to f (suc i) [] = []
mapped_to f (suc i) (x ∷ xs) = f x ∷ mapped_to f i xs

pub mapped_long : {A : Type 0} (f : A → A) (i : ℕ) (xs : List A) → length (mapped_to f i xs) ≡ length xs
mapped_long f zero xs = refl
mapped_long f (suc i) [] = refl
mapped_long f (suc i) (x ∷ xs) = ap suc (mapped_long f i xs)

pub mapped_more : {A : Type 0} (f : A → A) (i : ℕ) (xs : List A) (d : A)
    → set (mapped_to f i xs) i (f (get_or (mapped_to f i xs) i d)) ≡ mapped_to f (i + 1) xs
mapped_more f i xs d = rw add-one (step f i xs d)
  where
    step : {A : Type 0} (f : A → A) (i : ℕ) (xs : List A) (d : A)
        → set (mapped_to f i xs) i (f (get_or (mapped_to f i xs) i d)) ≡ mapped_to f (suc i) xs
    step f zero [] d = refl
    step f zero (x ∷ xs) d = refl
    step f (suc i) [] d = refl
    step {A} f (suc i) (x ∷ xs) d = ap (λ (ys : List A). f x ∷ ys) (step f i xs d)

pub all_mapped : {A : Type 0} (f : A → A) (i : ℕ) (xs : List A) → length xs ≤ i → mapped_to f i xs ≡ map f xs
all_mapped f zero [] h = refl
all_mapped f zero (x ∷ xs) h = absurd (omega arith)
all_mapped f (suc i) [] h = refl
all_mapped {A} f (suc i) (x ∷ xs) h = ap (λ (ys : List A). f x ∷ ys) (all_mapped f i xs (omega arith))

-- a list of which all items were written
pub all_written : {A : Type 0} (old new : List A) (len : ℕ) → len ≡ length old → length new ≡ length old
    → take len (new ++ drop (length new) old) ≡ new
all_written old new len many same =
    take-append-le len new (drop (length new) old) (omega arith) ∙ take_all len new (omega arith)
