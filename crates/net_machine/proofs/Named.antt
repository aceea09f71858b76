-- The ends that are found for two names are those of these names.
use Rattle.std.specs.Prelude.{◌≡◌, ◌&&◌, ◌==◌, ℕ, List, [], ◌∷◌, Bool, true, false, cond}
use Rattle.std.specs.declared.option.Option.{Option}
use Rattle.std.specs.declared.option.Option.TheVariants.{Some, None}
use Rattle.std.specs.Cmp.Lexicographic.{bytes_decides}
use Rattle.std.specs.List.{AllByRecursion, cons_option}
use Rattle.std.proofs.Common.{refl, sym, ◌∙◌, ap, subst, arith}
use Rattle.std.proofs.lemmas.Bool.{and_parts}
use Rattle.std.proofs.lemmas.Bool.Decides.{nat_tests}
use Rattle.std.proofs.lemmas.Option.{same_Some}
use Rattle.ov_types.specs.First.{same_name}
use Rattle.running_nodes.specs.MachineModel.Setup.{Name}
use Rattle.running_nodes.specs.MachineModel.Session.{Session}
use Rattle.running_nodes.specs.MachineModel.Network.{MachineState}
use Rattle.running_nodes.specs.MachineModel.Steps.{joins}
use Rattle.running_nodes.specs.MachineModel.Events as events
use Rattle.running_nodes.proofs.MachineModel.Twins.{itself}
use Rattle.running_nodes.specs.Seats.{Seat, far_of, place_of}
use Rattle.running_nodes.specs.declared.place.SessionPlace.{SessionPlace}
use Rattle.net_machine.specs.declared.ends.SessionEnds.{SessionEnds}
use Rattle.net_machine.specs.Seating.{ends_at, ends_from, ends_of, is_earlier, order_among, same_ends, same_place, turned}
use Rattle.net_machine.proofs.Facts.{At, Facts, IsStood}
use Rattle.net_machine.proofs.Seating.{AreNamed, place_names}

from_names : (seats : List Seat) (a b : Name) (p : SessionPlace) (o : Option SessionPlace) (e : SessionEnds) → AreNamed seats a b p
    → ends_from p o ≡ Some e → AreNamed seats a b e.near
from_names seats a b p None e n found = cc
from_names seats a b p (Some q) e n found =
    let is : record { near = p; far = q } ≡ e = cc in
    subst (λ (e : SessionEnds). AreNamed seats a b e.near) is n

pub ends_names : (seats : List Seat) (a b : Name) (e : SessionEnds) → ends_of seats a b ≡ Some e
    → AreNamed seats a b e.near
ends_names seats a b e h =
    elim (place_of seats a b) as (λ o. place_of seats a b ≡ o → ends_at seats o ≡ Some e → AreNamed seats a b e.near) [
      | None ↦ λ at found. cc
      | Some p ↦ λ at found. from_names seats a b p (far_of seats p) e (place_names seats a b p at) found
    ] refl h

-- ---- the same ends are those of the same names
same_nat : (m n : ℕ) → (m == n) ≡ true → m ≡ n
same_nat m n h = grind (arith, nat_tests, h)

nat_itself : (n : ℕ) → (n == n) ≡ true
nat_itself n = grind (arith, nat_tests)

place_is : (p q : SessionPlace) → same_place p q ≡ true → p ≡ q
place_is p q h =
    let both = and_parts (p.node == q.node) (p.session == q.session) h in
    (λ i. record { node = same_nat p.node q.node both.0 i; session = same_nat p.session q.session both.1 i })

pub ends_are : (d e : SessionEnds) → same_ends d e ≡ true → d ≡ e
ends_are d e h =
    let both = and_parts (same_place d.near e.near) (same_place d.far e.far) h in
    (λ i. record { near = place_is d.near e.near both.0 i; far = place_is d.far e.far both.1 i })

place_itself : (p : SessionPlace) → same_place p p ≡ true
place_itself p = (λ i. nat_itself p.node i && (p.session == p.session)) ∙ nat_itself p.session

pub ends_itself : (e : SessionEnds) → same_ends e e ≡ true
ends_itself e = (λ i. place_itself e.near i && same_place e.far e.far) ∙ place_itself e.far

both_true : (b c : Bool) → (b ≡ true → c ≡ true) → (c ≡ true → b ≡ true) → b ≡ c
both_true true true f g = refl
both_true true false f g = sym (f refl)
both_true false true f g = g refl
both_true false false f g = refl

-- the ends of a session are those of two names where it joins them
pub joins_is : (seats : List Seat) (a b : Name) (e : SessionEnds) (s : Session) (d : SessionEnds)
    → ends_of seats a b ≡ Some e → ends_of seats s.near.name s.far.name ≡ Some d → same_ends d e ≡ joins a b s
joins_is seats a b e s d is at =
    both_true (same_ends d e) (joins a b s)
    (λ same.
    let one = ends_are d e same in
    let here = ends_names seats a b e is in
    let there = subst (λ (e : SessionEnds). AreNamed seats s.near.name s.far.name e.near) one
    (ends_names seats s.near.name s.far.name d at) in
    let far : s.far.name ≡ b = same_Some s.far.name b (sym there.there ∙ here.there) in
    (λ i. same_name ((sym there.here ∙ here.here) i) a && same_name (far i) b)
    ∙ (λ i. itself a i && same_name b b) ∙ itself b)
    (λ join.
    let names = and_parts (same_name s.near.name a) (same_name s.far.name b) join in
    let near = (bytes_decides s.near.name a).0 names.0 in
    let far = (bytes_decides s.far.name b).0 names.1 in
    let one : d ≡ e = same_Some d e (sym at ∙ (λ i. ends_of seats (near i) (far i)) ∙ is) in
    ap (λ c. same_ends c e) one ∙ ends_itself e)

module _ (M : MachineState → Type 0) (f : Facts M) where
  earlier_among : (seats : List Seat) (w : MachineState) (a b : Name) (e : SessionEnds) (ss : List Session)
      → ends_of seats a b ≡ Some e → ends_of seats b a ≡ Some (turned e) → AllByRecursion (IsStood seats w) ss
      → is_earlier (order_among seats ss) e ≡ events.is_earlier ss a b
  earlier_among seats w a b e [] is back all = refl
  earlier_among seats w a b e (s ∷ ss) is back all =
      ap (λ o. is_earlier (cons_option o (order_among seats ss)) e) all.0.are
      ∙ (λ i. cond (joins_is seats a b e s all.0.ends is all.0.are i) true
      (cond (joins_is seats b a (turned e) s all.0.ends back all.0.are i) false
      (earlier_among seats w a b e ss is back all.1 i)))

  pub earlier_is : (seats : List Seat) (w : MachineState) (a b : Name) (e : SessionEnds) (order : List SessionEnds) → At M seats w
      → ends_of seats a b ≡ Some e → order ≡ order_among seats w.sessions
      → is_earlier order e ≡ events.is_earlier w.sessions a b
  earlier_is seats w a b e order h is ordered =
      ap (λ es. is_earlier es e) ordered
      ∙ earlier_among seats w a b e w.sessions is (f.turns seats w a b e h.moment h.stands is)
      (f.stood seats w h.moment h.stands)
