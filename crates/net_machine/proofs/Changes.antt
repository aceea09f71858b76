-- What changes of single places keep.
use Rattle.std.specs.Prelude.{◌≡◌, ◌<◌, ◌+◌, ℕ, zero, suc, List, [], ◌∷◌, length, map, Bool, true, false, cond}
use Rattle.std.specs.declared.option.Option.{Option}
use Rattle.std.specs.declared.option.Option.TheVariants.{Some, None}
use Rattle.std.specs.Option.{IfSome}
use Rattle.std.proofs.Common.{refl, sym, ◌∙◌, ap, arith, subst, set}
use Rattle.std.proofs.lemmas.List.{length-set, length-map}
use Rattle.ov_link.specs.declared.step.Input.{Input}
use Rattle.node_core.specs.Whole.{session_of}
use Rattle.node_model.specs.Step.{nothing}
use Rattle.running_nodes.specs.Seats.{Seat, far_of, is_down_at, live_at, name_of, others_of, seat}
use Rattle.running_nodes.specs.Stands.{IsLong}
use Rattle.running_nodes.specs.Steps.{Takes, cleared, cleared_at, cleared_from, emptied, told_of_loss, unbroken}
use Rattle.running_nodes.specs.Steps.{with_link, with_notice, with_seat}
use Rattle.running_nodes.specs.declared.place.SessionPlace.{SessionPlace}
use Rattle.net_machine.specs.Connections.{Opens}
use Rattle.net_machine.specs.Seating.{AreLong, Keeps}
use Rattle.net_machine.proofs.Kept.{far_kept, keeps_all, keeps_both, with_keeps}
use Rattle.net_machine.proofs.Seating.{far_is_seated}

pub link_keeps : (seats : List Seat) (p : SessionPlace) (messages : List (List ℕ)) → AreLong seats → p.node < length seats
    → Keeps seats (with_link p messages seats)
link_keeps seats p messages long within =
    let n = seat seats p.node in
    let is = long p.node within in
    with_keeps seats p.node (record n { links = set n.links p.session messages }) within long refl refl refl
    (record {
      posts = is.posts;
      kept = is.kept;
      links = length-set n.links p.session messages ∙ is.links;
      breaks = is.breaks;
      notices = is.notices;
    })

pub notice_keeps : (seats : List Seat) (p : SessionPlace) (waits : Bool) → AreLong seats → p.node < length seats
    → Keeps seats (with_notice p waits seats)
notice_keeps seats p waits long within =
    let n = seat seats p.node in
    let is = long p.node within in
    with_keeps seats p.node (record n { notices = set n.notices p.session waits }) within long refl refl refl
    (record {
      posts = is.posts;
      kept = is.kept;
      links = is.links;
      breaks = is.breaks;
      notices = length-set n.notices p.session waits ∙ is.notices;
    })

pub emptied_keeps : (seats : List Seat) (k : ℕ) → AreLong seats → k < length seats
    → Keeps seats (with_seat k (emptied (seat seats k)) seats)
emptied_keeps seats k long within =
    let n = seat seats k in
    let is = long k within in
    with_keeps seats k (emptied n) within long refl refl (length-map n.posts (λ _. nothing))
    (record {
      posts = length-map n.posts (λ _. nothing) ∙ is.posts;
      kept = length-map n.kept (λ _. []) ∙ is.kept;
      links = length-map n.links (λ _. []) ∙ is.links;
      breaks = is.breaks;
      notices = length-map n.notices (λ _. false) ∙ is.notices;
    })

-- ---- no send is to fail any more
unbroken_at : (seats : List Seat) (j : ℕ) → seat (map unbroken seats) j ≡ unbroken (seat seats j)
unbroken_at [] j = refl
unbroken_at (n ∷ seats) zero = refl
unbroken_at (n ∷ seats) (suc j) = unbroken_at seats j

unbroken_long : (n : Seat) → IsLong n → IsLong (unbroken n)
unbroken_long n is = record {
  posts = is.posts;
  kept = is.kept;
  links = is.links;
  breaks = length-map n.breaks (λ _. []) ∙ is.breaks;
  notices = is.notices;
}

pub unbroken_keeps : (seats : List Seat) → AreLong seats → Keeps seats (map unbroken seats)
unbroken_keeps seats long = record {
  count = length-map seats unbroken;
  name = λ j. ap (λ (n : Seat). name_of n.who) (unbroken_at seats j);
  others = λ j. ap (λ (n : Seat). others_of n.who) (unbroken_at seats j);
  posts = λ j. ap (λ (n : Seat). length n.posts) (unbroken_at seats j);
  long = λ j below.
      subst IsLong (sym (unbroken_at seats j))
      (unbroken_long (seat seats j) (long j (subst (λ m. j < m) (length-map seats unbroken) below)));
}

-- ---- a node takes an input, and its ends are cleared
pub takes_keeps : (seats : List Seat) (k : ℕ) (n : Seat) (input : Input) → AreLong seats → k < length seats
    → Takes (seat seats k) n input → Keeps seats (with_seat k n seats)
takes_keeps seats k n input long within h =
    let s = h.stepped in
    let is = long k within in
    let others : others_of n.who ≡ others_of (seat seats k).who = ap others_of s.who in
    with_keeps seats k n within long (ap name_of s.who) others s.posts_long
    (record {
      posts = s.posts_long ∙ is.posts ∙ sym (ap (λ xs. length xs) others);
      kept = h.swept.long ∙ length-set (seat seats k).kept (session_of input) h.left ∙ is.kept
          ∙ sym (ap (λ xs. length xs) others);
      links = s.links_long ∙ is.links ∙ sym (ap (λ xs. length xs) others);
      breaks = s.breaks_long ∙ is.breaks ∙ sym (ap (λ xs. length xs) others);
      notices = ap (λ xs. length xs) s.notices ∙ is.notices ∙ sym (ap (λ xs. length xs) others);
    })

told_keeps : (seats : List Seat) (o : Option SessionPlace) → AreLong seats → IfSome o (λ q. q.node < length seats)
    → Keeps seats (told_of_loss seats o)
told_keeps seats None long within = keeps_all seats long
told_keeps seats (Some q) long within =
    let one = notice_keeps seats q (live_at seats q) long within in
    let there : q.node < length (with_notice q (live_at seats q) seats) = let c = one.count in omega (arith, within, c) in
    keeps_both seats (with_notice q (live_at seats q) seats) (told_of_loss seats (Some q)) one
    (link_keeps (with_notice q (live_at seats q) seats) q [] one.long there)

far_within : (seats : List Seat) (p : SessionPlace) (o : Option SessionPlace) → AreLong seats → far_of seats p ≡ o
    → IfSome o (λ q. q.node < length seats)
far_within seats p None long is = tt
far_within seats p (Some q) long is = (far_is_seated seats p q long is).node

-- one end, of a place that there is
closed_keeps : (seats : List Seat) (p : SessionPlace) → AreLong seats → p.node < length seats
    → Keeps seats (told_of_loss (with_notice p false (with_link p [] seats)) (far_of seats p))
closed_keeps seats p long within =
    let one = link_keeps seats p [] long within in
    let s1 = with_link p [] seats in
    let there1 : p.node < length s1 = let c = one.count in omega (arith, within, c) in
    let two = notice_keeps s1 p false one.long there1 in
    let s2 = with_notice p false s1 in
    let both = keeps_both seats s1 s2 one two in
    let far : IfSome (far_of seats p) (λ q. q.node < length s2) =
    subst (λ o. IfSome o (λ q. q.node < length s2)) (far_kept seats s2 p both)
    (far_within s2 p (far_of s2 p) both.long refl) in
    keeps_both seats s2 (told_of_loss s2 (far_of seats p)) both (told_keeps s2 (far_of seats p) both.long far)

pub one_cleared : (seats : List Seat) (p : SessionPlace) → AreLong seats → p.node < length seats → Keeps seats (cleared_at seats p)
one_cleared seats p long within =
    elim (live_at seats p) as (λ live. Keeps seats (cond live (cond (is_down_at seats p) (with_link p [] seats) seats)
    (told_of_loss (with_notice p false (with_link p [] seats)) (far_of seats p)))) [
      | true ↦ elim (is_down_at seats p) as (λ down. Keeps seats (cond down (with_link p [] seats) seats)) [
        | true ↦ link_keeps seats p [] long within
        | false ↦ keeps_all seats long
      ]
      | false ↦ closed_keeps seats p long within
    ]

cleared_from_keeps : (n k i : ℕ) (seats : List Seat) → AreLong seats → k < length seats
    → Keeps seats (cleared_from n k i seats)
cleared_from_keeps zero k i seats long within = keeps_all seats long
cleared_from_keeps (suc n) k i seats long within =
    let p : SessionPlace = record { node = k; session = i } in
    let one = one_cleared seats p long within in
    let there : k < length (cleared_at seats p) = let c = one.count in omega (arith, within, c) in
    keeps_both seats (cleared_at seats p) (cleared_from n k (i + 1) (cleared_at seats p)) one
    (cleared_from_keeps n k (i + 1) (cleared_at seats p) one.long there)

pub cleared_keeps : (seats : List Seat) (k : ℕ) → AreLong seats → k < length seats → Keeps seats (cleared seats k)
cleared_keeps seats k long within = cleared_from_keeps (length (seat seats k).posts) k 0 seats long within

pub opens_keeps : (seats : List Seat) (p : SessionPlace) (after : List Seat) → AreLong seats → p.node < length seats
    → Opens seats p after → Keeps seats after
opens_keeps seats p after long within h =
    subst (Keeps seats) (sym h.is) (takes_keeps seats p.node h.node _ long within h.takes)
