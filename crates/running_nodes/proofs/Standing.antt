-- The seats of all nodes, where one of them is looked at or changed.
use Rattle.std.proofs.Common.{◌≡◌, ◌<◌, ℕ, Bool, Result, Ok, Err, IfOk, Option, List, length, get_or, set, sym, ◌∙◌, ap, subst, arith}
use Rattle.ov_link.specs.FailingState.{FailingState}
use Rattle.ov_link.specs.declared.step.Input.{Input}
use Rattle.config_check.specs.Checked.{Checked}
use Rattle.node_core.specs.Keeping.{AreSwept}
use Rattle.running_nodes.specs.MachineModel.Setup.{Name}
use Rattle.running_nodes.specs.Seats.{Seat, Configuring, nobody, others_of, seat}
use Rattle.running_nodes.specs.Steps.{Configures, IsStepped, Passes, Takes, as_it_is, with_seat}
use Rattle.running_nodes.specs.Changes.{ChangesOne, PassesOver, SetsOver, TakesOver}
use Rattle.running_nodes.specs.Halves.{AreAllHalves, AreHalves, Inner, IsEven, Outer, inner, joined, no_inner, no_outer, outer, whole}
use Rattle.running_nodes.proofs.Links.{edge_of}
use Rattle.running_nodes.proofs.Halves.{as_many, as_many_seats, halves_at, halves_set, joined_set, same_at, seat_at, set_itself}

-- ---- one seat of them, at place k, which is j by another count
module _ (ns : List Inner) (os : List Outer) (h : AreAllHalves ns os) (j k : ℕ) (same : j ≡ k) (below : k < length os) where
  pub outer_is : (e : Outer) → e ≡ get_or os j e → outer os k ≡ e
  outer_is e at = same_at os k no_outer e below ∙ (ap (λ (i : ℕ). get_or os i e) (sym same) ∙ sym at)

  pub whole_is : (e : Outer) → e ≡ get_or os j e → seat (joined ns os) k ≡ whole (inner ns k) e
  whole_is e at = seat_at ns os k h below ∙ ap (λ (o : Outer). whole (inner ns k) o) (outer_is e at)

  pub halves_are : (e : Outer) → e ≡ get_or os j e → AreHalves (inner ns k) e
  halves_are e at = subst (λ (o : Outer). AreHalves (inner ns k) o) (outer_is e at) (halves_at ns os k h below)

  pub posts_are : length (seat (joined ns os) k).posts ≡ length (others_of (inner ns k).who)
  posts_are = ap (λ (n : Seat). length n.posts) (seat_at ns os k h below) ∙ (halves_at ns os k h below).posts

  pub links_are : (e : Outer) → e ≡ get_or os j e → length e.links ≡ length (others_of (inner ns k).who)
  links_are e at = (halves_are e at).even.links ∙ ap length (halves_are e at).others

  pub others_are : (e : Outer) → e ≡ get_or os j e → length (seat (joined ns os) k).posts ≡ length e.others
  others_are e at = posts_are ∙ ap length (sym (halves_are e at).others)

  -- an edge in place of another
  pub edge_changed : (o' : Outer) → joined ns (set os j o') ≡ set (joined ns os) k (whole (inner ns k) o')
  edge_changed o' =
      ap (λ (i : ℕ). joined ns (set os i o')) same
      ∙ (ap (λ (ms : List Inner). joined ms (set os k o')) (sym (set_itself ns k no_inner)) ∙ sym (joined_set ns os k (inner ns k) o'))

  pub edge_kept : (e o' : Outer) → e ≡ get_or os j e → o'.name ≡ e.name → o'.others ≡ e.others → IsEven o'
      → AreAllHalves ns (set os j o')
  edge_kept e o' at name others even =
      let was = halves_are e at in
      let new : AreHalves (inner ns k) o' = record { name = name ∙ was.name; others = others ∙ was.others; posts = was.posts; kept = was.kept; even = even } in
      subst (λ (i : ℕ). AreAllHalves ns (set os i o')) (sym same)
      (subst (λ (ms : List Inner). AreAllHalves ms (set os k o')) (set_itself ns k no_inner) (halves_set ns os k (inner ns k) o' h new))

  -- both halves in place of others
  module _ (ns' : List Inner) (e o' : Outer) (at : e ≡ get_or os j e) where
    pub seat_changed : ns' ≡ set ns k (inner ns' k) → joined ns' (set os j o') ≡ set (joined ns os) k (whole (inner ns' k) o')
    seat_changed one =
        ap (λ (i : ℕ). joined ns' (set os i o')) same
        ∙ (ap (λ (ms : List Inner). joined ms (set os k o')) one ∙ sym (joined_set ns os k (inner ns' k) o'))

    pub seat_kept : ChangesOne k ns ns' → o'.name ≡ e.name → o'.others ≡ e.others → IsEven o' → AreAllHalves ns' (set os j o')
    seat_kept changes name others even =
        let was = halves_are e at in
        let new : AreHalves (inner ns' k) o' =
        record {
          name = name ∙ (was.name ∙ sym changes.name);
          others = others ∙ (was.others ∙ sym changes.others);
          posts = changes.long ∙ (was.posts ∙ ap length (sym changes.others));
          kept = changes.kept ∙ (was.kept ∙ ap length (sym changes.others));
          even = even;
        } in
        subst (λ (i : ℕ). AreAllHalves ns' (set os i o')) (sym same)
        (subst (λ (ms : List Inner). AreAllHalves ms (set os k o')) (sym changes.one) (halves_set ns os k (inner ns' k) o' h new))

  -- ---- a step over the links of the edge
  module _ (ns' : List Inner) (name : Name) (others : List (Option Name)) (notices : List Bool) (ls ls' : List FailingState) (e : Outer)
      (at : e ≡ get_or os j e) (view : edge_of name others notices ls ≡ e) where
    abbrev later : Outer
    later = edge_of name others notices ls'

    pub takes_at : {T E : Type 0} (r : Result T E) (input : Input) → ns' ≡ set ns k (inner ns' k)
        → IfOk r (λ _. TakesOver ls ls' (inner ns k) (inner ns' k) input)
        → IfOk r (λ _. (n' : Seat) × Takes (seat (joined ns os) k) n' input × (joined ns' (set os j later) ≡ with_seat k n' (joined ns os)))
    takes_at (Err x) input one takes = tt
    takes_at (Ok x) input one takes = (
      whole (inner ns' k) later,
      subst (λ (n : Seat). Takes n (whole (inner ns' k) later) input) (sym (whole_is e at))
          (subst (λ (o : Outer). Takes (whole (inner ns k) o) (whole (inner ns' k) later) input) view (takes notices)),
      seat_changed ns' e later at one,
    )

    pub passes_at : {T E : Type 0} (r : Result T E) → ns' ≡ set ns k (inner ns' k)
        → IfOk r (λ _. PassesOver ls ls' (inner ns k) (inner ns' k))
        → IfOk r (λ _. (n' : Seat) × Passes (seat (joined ns os) k) n' × (joined ns' (set os j later) ≡ with_seat k n' (joined ns os)))
    passes_at (Err x) one passes = tt
    passes_at (Ok x) one passes = (
      whole (inner ns' k) later,
      subst (λ (n : Seat). Passes n (whole (inner ns' k) later)) (sym (whole_is e at))
          (subst (λ (o : Outer). Passes (whole (inner ns k) o) (whole (inner ns' k) later)) view (passes notices)),
      seat_changed ns' e later at one,
    )

    sets_made : (y : Checked) → ns' ≡ set ns k (inner ns' k) → k ≡ 0 → SetsOver ls ls' (inner ns k) (inner ns' k) y
        → Configures (joined ns os) y (joined ns' (set os j later))
    sets_made y one first sets = record {
      node = whole (inner ns' k) later;
      stepped = subst (λ (i : ℕ). IsStepped (record (seat (joined ns os) i) { who = Configuring y }) (whole (inner ns' k) later) 0 (as_it_is (seat (joined ns os) i))) first
          (subst (λ (n : Seat). IsStepped (record n { who = Configuring y }) (whole (inner ns' k) later) 0 (as_it_is n)) (sym (whole_is e at))
          (subst (λ (o : Outer). IsStepped (record (whole (inner ns k) o) { who = Configuring y }) (whole (inner ns' k) later) 0 (as_it_is (whole (inner ns k) o))) view (sets.0 notices)));
      swept = subst (λ (i : ℕ). AreSwept (inner ns' k).posts (seat (joined ns os) i).kept (inner ns' k).kept) first
          (subst (λ (n : Seat). AreSwept (inner ns' k).posts n.kept (inner ns' k).kept) (sym (whole_is e at)) sets.1);
      is = subst (λ (i : ℕ). joined ns' (set os j later) ≡ with_seat i (whole (inner ns' k) later) (joined ns os)) first (seat_changed ns' e later at one);
    }

    pub sets_at : {T E : Type 0} (r : Result T E) (y : Checked) → ns' ≡ set ns k (inner ns' k) → k ≡ 0
        → IfOk r (λ _. SetsOver ls ls' (inner ns k) (inner ns' k) y)
        → IfOk r (λ _. Configures (joined ns os) y (joined ns' (set os j later)))
    sets_at (Err x) y one first sets = tt
    sets_at (Ok x) y one first sets = sets_made y one first sets

-- ---- of all that stands
pub below_all : (ns : List Inner) (os : List Outer) (seats : List Seat) (k : ℕ) → AreAllHalves ns os → joined ns os ≡ seats
    → k < length seats → k < length os
below_all ns os seats k h view below =
    let many : length (joined ns os) ≡ length os = as_many_seats ns os h in
    let same : length (joined ns os) ≡ length seats = ap length view in
    omega arith

pub below_inner : (ns : List Inner) (os : List Outer) (k : ℕ) → AreAllHalves ns os → k < length os → k < length ns
below_inner ns os k h below = let many : length ns ≡ length os = as_many ns os h in omega arith

pub even_links : (e : Outer) (ls : List (List (List ℕ))) → IsEven e → length ls ≡ length e.links → IsEven (record e { links = ls })
even_links e ls even long = record { links = long ∙ even.links; breaks = even.breaks; notices = even.notices; few = even.few }

pub even_breaks : (e : Outer) (bs : List (List ℕ)) → IsEven e → length bs ≡ length e.breaks → IsEven (record e { breaks = bs })
even_breaks e bs even long = record { links = even.links; breaks = long ∙ even.breaks; notices = even.notices; few = even.few }

pub even_notices : (e : Outer) (ns : List Bool) → IsEven e → length ns ≡ length e.notices → IsEven (record e { notices = ns })
even_notices e ns even long = record { links = even.links; breaks = even.breaks; notices = long ∙ even.notices; few = even.few }

-- one edge of them in place of another
module _ (ns : List Inner) (os : List Outer) (h : AreAllHalves ns os) (seats : List Seat) (view : joined ns os ≡ seats) (j k : ℕ)
    (same : j ≡ k) (there : k < length seats) where
  below : k < length os
  below = below_all ns os seats k h view there

  pub edge_there : j < length os
  edge_there = let lt : k < length os = below in omega arith

  module _ (e : Outer) (at : e ≡ get_or os j e) where
    pub sessions_are : length (seat seats k).posts ≡ length e.others
    sessions_are =
        ap (λ (ss : List Seat). length (seat ss k).posts) (sym view) ∙ others_are ns os h j k same below e at

    pub halves_with : (o' : Outer) → o'.name ≡ e.name → o'.others ≡ e.others → IsEven o' → AreAllHalves ns (set os j o')
    halves_with o' name others even = edge_kept ns os h j k same below e o' at name others even

    pub even_there : IsEven e
    even_there = (halves_are ns os h j k same below e at).even

    -- what is at the end of a session there
    pub seat_there : seat seats k ≡ whole (inner ns k) e
    seat_there = ap (λ (ss : List Seat). seat ss k) (sym view) ∙ whole_is ns os h j k same below e at

    pub seats_with : (f : Seat → Seat) (o' : Outer) → whole (inner ns k) o' ≡ f (whole (inner ns k) e)
        → joined ns (set os j o') ≡ with_seat k (f (seat seats k)) seats
    seats_with f o' is =
        edge_changed ns os h j k same below o'
        ∙ (ap (λ (n : Seat). set (joined ns os) k n) (is ∙ ap f (sym seat_there))
        ∙ ap (λ (ss : List Seat). set ss k (f (seat seats k))) view)

    pub seats_same : (o' : Outer) → o' ≡ e → joined ns (set os j o') ≡ seats
    seats_same o' is =
        seats_with (λ (n : Seat). n) o' (ap (λ (o : Outer). whole (inner ns k) o) is) ∙ set_itself seats k nobody
