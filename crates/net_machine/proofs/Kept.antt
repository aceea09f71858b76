-- What keeps nodes and sessions keeps where they are found.
use Rattle.std.specs.Prelude.{◌≡◌, ◌≢◌, ◌<◌, ℕ, suc, List, [], ◌∷◌, length, Bool, cond, option_and_then}
use Rattle.std.specs.declared.option.Option.{Option}
use Rattle.std.specs.declared.option.Option.TheVariants.{Some, None}
use Rattle.std.specs.List.{All, cons_option}
use Rattle.std.specs.Option.{option_map}
use Rattle.std.proofs.Common.{refl, sym, ◌∙◌, ap, subst, arith, inl, inr, get_or}
use Rattle.std.proofs.lemmas.Bool.{cases_eq}
use Rattle.std.proofs.lemmas.List.{length-set, get_or-set_same, get_or-set_other, set-set}
use Rattle.ov_types.specs.First.{same_name}
use Rattle.running_nodes.specs.MachineModel.Setup.{Name}
use Rattle.running_nodes.specs.MachineModel.Session.{Session}
use Rattle.running_nodes.specs.Seats.{Seat, far_of, index_from, is_name, name_of, nobody, other, others_of, place_at, place_of, seat}
use Rattle.running_nodes.specs.Seats.{seat_named}
use Rattle.running_nodes.specs.Stands.{IsLong}
use Rattle.running_nodes.specs.Steps.{with_seat}
use Rattle.running_nodes.specs.declared.place.SessionPlace.{SessionPlace}
use Rattle.net_machine.specs.declared.ends.SessionEnds.{SessionEnds}
use Rattle.net_machine.specs.Seating.{AreLong, AreSeated, HasOther, IsSeated, Keeps, ends_at, ends_from, ends_of, order_among}

-- ---- one seat is changed
pub with_here : (seats : List Seat) (k : ℕ) (n : Seat) → k < length seats → seat (with_seat k n seats) k ≡ n
with_here seats k n h = get_or-set_same seats k n nobody h

pub with_there : (seats : List Seat) (k j : ℕ) (n : Seat) → j ≢ k → seat (with_seat k n seats) j ≡ seat seats j
with_there seats k j n h = get_or-set_other seats k j n nobody h

pub with_twice : (seats : List Seat) (k : ℕ) (n m : Seat) → with_seat k m (with_seat k n seats) ≡ with_seat k m seats
with_twice seats k n m = set-set seats k n m

pub with_count : (seats : List Seat) (k : ℕ) (n : Seat) → length (with_seat k n seats) ≡ length seats
with_count seats k n = length-set seats k n

-- what holds of both the changed seat and the one that was there
pub same_at : {B : Type 0} (f : Seat → B) (seats : List Seat) (k : ℕ) (n : Seat) → k < length seats → f n ≡ f (seat seats k)
    → (j : ℕ) → f (seat (with_seat k n seats) j) ≡ f (seat seats j)
same_at f seats k n within e j =
    elim (cases_eq j k) as (λ _. f (seat (with_seat k n seats) j) ≡ f (seat seats j)) [
      | inl is ↦ (λ i. f (seat (with_seat k n seats) (is i))) ∙ ap f (with_here seats k n within) ∙ e
          ∙ (λ i. f (seat seats (sym is i)))
      | inr off ↦ ap f (with_there seats k j n off)
    ]

pub with_keeps : (seats : List Seat) (k : ℕ) (n : Seat) → k < length seats → AreLong seats
    → name_of n.who ≡ name_of (seat seats k).who → others_of n.who ≡ others_of (seat seats k).who
    → length n.posts ≡ length (seat seats k).posts → IsLong n → Keeps seats (with_seat k n seats)
with_keeps seats k n within long name others posts is =
    record {
      count = with_count seats k n;
      name = same_at (λ (m : Seat). name_of m.who) seats k n within name;
      others = same_at (λ (m : Seat). others_of m.who) seats k n within others;
      posts = same_at (λ (m : Seat). length m.posts) seats k n within posts;
      long = λ j below. elim (cases_eq j k) as (λ _. IsLong (seat (with_seat k n seats) j)) [
        | inl at ↦ subst IsLong (sym (with_here seats k n within) ∙ (λ i. seat (with_seat k n seats) (sym at i))) is
        | inr off ↦ subst IsLong (sym (with_there seats k j n off))
            (long j (let c = with_count seats k n in omega (arith, below, c)))
      ];
    }

-- ---- in turn
pub keeps_all : (seats : List Seat) → AreLong seats → Keeps seats seats
keeps_all seats long = record { count = refl; name = λ k. refl; others = λ k. refl; posts = λ k. refl; long = long }

pub keeps_both : (a b c : List Seat) → Keeps a b → Keeps b c → Keeps a c
keeps_both a b c h k = record {
  count = k.count ∙ h.count;
  name = λ j. k.name j ∙ h.name j;
  others = λ j. k.others j ∙ h.others j;
  posts = λ j. k.posts j ∙ h.posts j;
  long = k.long;
}

-- ---- places stay
pub seated_kept : (seats after : List Seat) (p : SessionPlace) → Keeps seats after → IsSeated seats p → IsSeated after p
seated_kept seats after p h is = record {
  node = (let c = h.count in omega (arith, c, is.node));
  session = (let c = h.posts p.node in omega (arith, c, is.session));
}

pub other_is_kept : (seats after : List Seat) (p : SessionPlace) → Keeps seats after
    → other (seat after p.node) p.session ≡ other (seat seats p.node) p.session
other_is_kept seats after p h = ap (λ (os : List (Option Name)). get_or os p.session None) (h.others p.node)

pub other_kept : (seats after : List Seat) (p : SessionPlace) → Keeps seats after → HasOther seats p → HasOther after p
other_kept seats after p h is = (is.0, other_is_kept seats after p h ∙ is.1)

pub ends_kept : (seats after : List Seat) (e : SessionEnds) → Keeps seats after → AreSeated seats e → AreSeated after e
ends_kept seats after e h is = record {
  near = seated_kept seats after e.near h is.near;
  far = seated_kept seats after e.far h is.far;
  near_other = other_kept seats after e.near h is.near_other;
  far_other = other_kept seats after e.far h is.far_other;
}

pub all_kept : (seats after : List Seat) (order : List SessionEnds) → Keeps seats after → All (AreSeated seats) order
    → All (AreSeated after) order
all_kept seats after order h all = λ k d below. ends_kept seats after (get_or order k d) h (all k d below)

-- ---- and are found as before
index_same : (is : Seat → Bool) (ms ns : List Seat) (i : ℕ) → length ms ≡ length ns
    → ((k : ℕ) → is (get_or ms k nobody) ≡ is (get_or ns k nobody)) → index_from i is ms ≡ index_from i is ns
index_same is [] [] i l h = refl
index_same is [] (n ∷ ns) i l h = absurd (omega (arith, l))
index_same is (m ∷ ms) [] i l h = absurd (omega (arith, l))
index_same is (m ∷ ms) (n ∷ ns) i l h =
    (λ j. cond (h 0 j) (Some i) (index_from (suc i) is ms))
    ∙ ap (cond (is n) (Some i)) (index_same is ms ns (suc i) (omega (arith, l)) (λ k. h (suc k)))

pub named_kept : (seats after : List Seat) (name : Name) → Keeps seats after → seat_named after name ≡ seat_named seats name
named_kept seats after name h =
    index_same (λ (n : Seat). same_name (name_of n.who) name) after seats 0 h.count
    (λ k. ap (λ (m : Name). same_name m name) (h.name k))

at_kept : (seats after : List Seat) (b : Name) (o : Option ℕ) → Keeps seats after → place_at after b o ≡ place_at seats b o
at_kept seats after b None h = refl
at_kept seats after b (Some k) h =
    ap (λ (others : List (Option Name)). option_map (λ (i : ℕ). record { node = k; session = i })
    (index_from 0 (is_name b) others)) (h.others k)

pub place_kept : (seats after : List Seat) (a b : Name) → Keeps seats after → place_of after a b ≡ place_of seats a b
place_kept seats after a b h = ap (place_at after b) (named_kept seats after a h) ∙ at_kept seats after b (seat_named seats a) h

far_from_kept : (seats after : List Seat) (name : Name) (o : Option Name) → Keeps seats after
    → option_and_then (λ b. place_of after b name) o ≡ option_and_then (λ b. place_of seats b name) o
far_from_kept seats after name None h = refl
far_from_kept seats after name (Some b) h = place_kept seats after b name h

pub far_kept : (seats after : List Seat) (p : SessionPlace) → Keeps seats after → far_of after p ≡ far_of seats p
far_kept seats after p h =
    (λ i. option_and_then (λ b. place_of after b (h.name p.node i)) (other_is_kept seats after p h i))
    ∙ far_from_kept seats after (name_of (seat seats p.node).who) (other (seat seats p.node) p.session) h

ends_at_kept : (seats after : List Seat) (o : Option SessionPlace) → Keeps seats after → ends_at after o ≡ ends_at seats o
ends_at_kept seats after None h = refl
ends_at_kept seats after (Some p) h = ap (ends_from p) (far_kept seats after p h)

pub ends_of_kept : (seats after : List Seat) (a b : Name) → Keeps seats after → ends_of after a b ≡ ends_of seats a b
ends_of_kept seats after a b h =
    ap (ends_at after) (place_kept seats after a b h) ∙ ends_at_kept seats after (place_of seats a b) h

pub among_kept : (seats after : List Seat) (ss : List Session) → Keeps seats after → order_among after ss ≡ order_among seats ss
among_kept seats after [] h = refl
among_kept seats after (s ∷ ss) h =
    (λ i. cons_option (ends_of_kept seats after s.near.name s.far.name h i) (among_kept seats after ss h i))
