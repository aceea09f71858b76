-- Seats and their halves, by number.
use Rattle.std.proofs.Common.{◌≡◌, ◌<◌, ℕ, zero, suc, if◌then◌else◌, Option, Some, List, [], ◌∷◌, length, get_or, set, map, ◌∙◌, ap, refl, arith}
use Rattle.std.proofs.lemmas.List.{length-map}
use Rattle.std.specs.List.{cons_option}
use Rattle.ov_types.specs.First.{same_name}
use Rattle.route_targets.specs.Forwarding.{Forwarder}
use Rattle.running_nodes.specs.MachineModel.Setup.{Name}
use Rattle.running_nodes.specs.Seats.{Seat, index_from, name_of, nobody}
use Rattle.running_nodes.specs.Steps.{all_of, forwarder_of, forwarders_of, unbroken}
use Rattle.running_nodes.specs.Changes.{forwarders, unbroken_outer}
use Rattle.running_nodes.specs.Halves.{AreAllHalves, AreHalves, Inner, Outer, inner, joined, outer, whole}

-- ---- lengths
pub as_many : (ns : List Inner) (os : List Outer) → AreAllHalves ns os → length ns ≡ length os
as_many [] [] h = refl
as_many [] (o ∷ os) h = absurd h
as_many (n ∷ ns) [] h = absurd h
as_many (n ∷ ns) (o ∷ os) h = ap suc (as_many ns os h.1)

pub as_many_seats : (ns : List Inner) (os : List Outer) → AreAllHalves ns os → length (joined ns os) ≡ length os
as_many_seats [] [] h = refl
as_many_seats [] (o ∷ os) h = absurd h
as_many_seats (n ∷ ns) [] h = absurd h
as_many_seats (n ∷ ns) (o ∷ os) h = ap suc (as_many_seats ns os h.1)

-- ---- one seat
pub seat_at : (ns : List Inner) (os : List Outer) (k : ℕ) → AreAllHalves ns os → k < length os
    → get_or (joined ns os) k nobody ≡ whole (inner ns k) (outer os k)
seat_at [] [] k h lt = absurd (omega arith)
seat_at [] (o ∷ os) k h lt = absurd h
seat_at (n ∷ ns) [] k h lt = absurd h
seat_at (n ∷ ns) (o ∷ os) zero h lt = refl
seat_at (n ∷ ns) (o ∷ os) (suc k) h lt = seat_at ns os k h.1 (omega arith)

pub halves_at : (ns : List Inner) (os : List Outer) (k : ℕ) → AreAllHalves ns os → k < length os
    → AreHalves (inner ns k) (outer os k)
halves_at [] [] k h lt = absurd (omega arith)
halves_at [] (o ∷ os) k h lt = absurd h
halves_at (n ∷ ns) [] k h lt = absurd h
halves_at (n ∷ ns) (o ∷ os) zero h lt = h.0
halves_at (n ∷ ns) (o ∷ os) (suc k) h lt = halves_at ns os k h.1 (omega arith)

-- an item that is there does not depend on what else would stand for it
pub same_at : {A : Type 0} (xs : List A) (k : ℕ) (d e : A) → k < length xs → get_or xs k d ≡ get_or xs k e
same_at [] k d e lt = absurd (omega arith)
same_at (x ∷ xs) zero d e lt = refl
same_at (x ∷ xs) (suc k) d e lt = same_at xs k d e (omega arith)

-- ---- one seat in place of another
pub joined_set : (ns : List Inner) (os : List Outer) (k : ℕ) (n : Inner) (o : Outer)
    → set (joined ns os) k (whole n o) ≡ joined (set ns k n) (set os k o)
joined_set [] os k n o = refl
joined_set (m ∷ ns) [] zero n o = refl
joined_set (m ∷ ns) [] (suc k) n o = refl
joined_set (m ∷ ns) (p ∷ os) zero n o = refl
joined_set (m ∷ ns) (p ∷ os) (suc k) n o = ap (λ (seats : List Seat). whole m p ∷ seats) (joined_set ns os k n o)

pub halves_set : (ns : List Inner) (os : List Outer) (k : ℕ) (n : Inner) (o : Outer) → AreAllHalves ns os → AreHalves n o
    → AreAllHalves (set ns k n) (set os k o)
halves_set [] [] k n o h new = tt
halves_set [] (p ∷ os) k n o h new = absurd h
halves_set (m ∷ ns) [] k n o h new = absurd h
halves_set (m ∷ ns) (p ∷ os) zero n o h new = (new, h.1)
halves_set (m ∷ ns) (p ∷ os) (suc k) n o h new = (h.0, halves_set ns os k n o h.1 new)

pub set_itself : {A : Type 0} (xs : List A) (k : ℕ) (d : A) → set xs k (get_or xs k d) ≡ xs
set_itself [] k d = refl
set_itself (x ∷ xs) zero d = refl
set_itself {A} (x ∷ xs) (suc k) d = ap (λ (ys : List A). x ∷ ys) (set_itself xs k d)

-- ---- no send is to fail
pub halves_unbroken : (ns : List Inner) (os : List Outer) → AreAllHalves ns os → AreAllHalves ns (map unbroken_outer os)
halves_unbroken [] [] h = tt
halves_unbroken [] (o ∷ os) h = absurd h
halves_unbroken (n ∷ ns) [] h = absurd h
halves_unbroken (n ∷ ns) (o ∷ os) h =
    let was = h.0 in
    let none : length (all_of [] o.breaks) ≡ length o.others = length-map o.breaks (λ _. []) ∙ was.even.breaks in (
      record {
        name = was.name;
        others = was.others;
        posts = was.posts;
        kept = was.kept;
        even = record { links = was.even.links; breaks = none; notices = was.even.notices; few = was.even.few };
      },
      halves_unbroken ns os h.1,
    )

pub joined_unbroken : (ns : List Inner) (os : List Outer) → joined ns (map unbroken_outer os) ≡ map unbroken (joined ns os)
joined_unbroken [] os = refl
joined_unbroken (n ∷ ns) [] = refl
joined_unbroken (n ∷ ns) (o ∷ os) = ap (λ (seats : List Seat). unbroken (whole n o) ∷ seats) (joined_unbroken ns os)

-- ---- by name
pub named_at : (ns : List Inner) (os : List Outer) (k : ℕ) (name : Name) → AreAllHalves ns os
    → index_from k (λ (o : Outer). same_name o.name name) os ≡ index_from k (λ (n : Seat). same_name (name_of n.who) name) (joined ns os)
named_at [] [] k name h = refl
named_at [] (o ∷ os) k name h = absurd h
named_at (n ∷ ns) [] k name h = absurd h
named_at (n ∷ ns) (o ∷ os) k name h =
    ap (λ (m : Name). if same_name m name then Some k else index_from (suc k) (λ (o : Outer). same_name o.name name) os) h.0.name
    ∙ ap (λ (r : Option ℕ). if same_name (name_of n.who) name then Some k else r) (named_at ns os (suc k) name h.1)

-- ---- what agents forward by
pub forwarded_by : (ns : List Inner) (os : List Outer) → AreAllHalves ns os → forwarders_of (joined ns os) ≡ forwarders ns
forwarded_by [] [] h = refl
forwarded_by [] (o ∷ os) h = absurd h
forwarded_by (n ∷ ns) [] h = absurd h
forwarded_by (n ∷ ns) (o ∷ os) h =
    ap (λ (fs : List Forwarder). cons_option (forwarder_of (whole n o)) fs) (forwarded_by ns os h.1)
