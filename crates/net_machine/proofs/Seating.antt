-- The places of nodes and of sessions that are found are places that there are.
use Rattle.std.specs.Prelude.{◌≡◌, ◌+◌, ◌<◌, ◌≤◌, ℕ, zero, suc, List, [], ◌∷◌, length, Bool, true, false, cond}
use Rattle.std.specs.Prelude.{option_and_then}
use Rattle.std.specs.declared.option.Option.{Option}
use Rattle.std.specs.declared.option.Option.TheVariants.{Some, None}
use Rattle.std.specs.Cmp.Lexicographic.{bytes_decides}
use Rattle.std.specs.Option.{option_map}
use Rattle.std.proofs.Common.{refl, sym, ap, subst, arith, get_or}
use Rattle.std.proofs.lemmas.Bool.{true≢false}
use Rattle.std.proofs.lemmas.Option.{same_Some}
use Rattle.ov_types.specs.First.{same_name}
use Rattle.running_nodes.specs.MachineModel.Setup.{Name}
use Rattle.running_nodes.specs.Seats.{Seat, far_of, index_from, is_name, name_of, nobody, other, others_of, place_at, place_of}
use Rattle.running_nodes.specs.Seats.{seat, seat_named, session_with}
use Rattle.running_nodes.specs.declared.place.SessionPlace.{SessionPlace}
use Rattle.net_machine.specs.Seating.{AreLong, AreSeated, HasOther, IsSeated}

-- what is found stands in the list
pub index_within : {A : Type 0} → (is : A → Bool) (xs : List A) (i k : ℕ) → index_from i is xs ≡ Some k
    → (i ≤ k) × (k < i + length xs)
index_within is [] i k e = cc
index_within is (a ∷ xs) i k e =
    elim (is a) as (λ b. cond b (Some i) (index_from (suc i) is xs) ≡ Some k → (i ≤ k) × (k < i + suc (length xs))) [
      | true ↦ λ found. let same : i ≡ k = same_Some i k found in (omega arith, omega arith)
      | false ↦ λ found. let h = index_within is xs (suc i) k found in (omega (arith, h.0), omega (arith, h.1))
    ] e

pub named_within : (seats : List Seat) (name : Name) (k : ℕ) → seat_named seats name ≡ Some k → k < length seats
named_within seats name k e =
    let h = index_within (λ (n : Seat). same_name (name_of n.who) name) seats 0 k e in omega (arith, h.1)

-- what is found passes the test
found_passes : {A : Type 0} → (is : A → Bool) (xs : List A) (i k j : ℕ) (d : A) → index_from i is xs ≡ Some k
    → k ≡ i + j → is (get_or xs j d) ≡ true
found_passes is [] i k j d e at = cc
found_passes is (x ∷ xs) i k j d e at =
    elim (is x) as (λ b. is x ≡ b → cond b (Some i) (index_from (suc i) is xs) ≡ Some k → is (get_or (x ∷ xs) j d) ≡ true) [
      | true ↦ λ t found. first j (same_Some i k found) at t
      | false ↦ λ f found. later j (index_within is xs (suc i) k found).0 at
          (λ m. found_passes is xs (suc i) k m d found)
    ] refl e
  where
    first : (j : ℕ) → i ≡ k → k ≡ i + j → is x ≡ true → is (get_or (x ∷ xs) j d) ≡ true
    first zero s a t = t
    first (suc j) s a t = absurd (omega (arith, s, a))

    later : (j : ℕ) → suc i ≤ k → k ≡ i + j → ((m : ℕ) → k ≡ suc i + m → is (get_or xs m d) ≡ true)
        → is (get_or (x ∷ xs) j d) ≡ true
    later zero s a r = absurd (omega (arith, s, a))
    later (suc j) s a r = r j (omega (arith, a))

pub named_so : (seats : List Seat) (a : Name) (k : ℕ) → seat_named seats a ≡ Some k → name_of (seat seats k).who ≡ a
named_so seats a k e =
    (bytes_decides (name_of (seat seats k).who) a).0
    (found_passes (λ (n : Seat). same_name (name_of n.who) a) seats 0 k k nobody e (omega arith))

-- somebody who has the name
is_there : (b : Name) (o : Option Name) → is_name b o ≡ true → o ≡ Some b
is_there b None h = absurd (true≢false (sym h))
is_there b (Some m) h = ap (λ (n : Name). Some n) ((bytes_decides m b).0 h)

-- the names at the near end
pub record AreNamed (seats : List Seat) (a b : Name) (p : SessionPlace) : Type 0 where
  pub here : name_of (seat seats p.node).who ≡ a
  pub there : other (seat seats p.node) p.session ≡ Some b

with_so : (seats : List Seat) (a b : Name) (k : ℕ) (o : Option ℕ) (p : SessionPlace) → seat_named seats a ≡ Some k
    → session_with (seat seats k) b ≡ o → option_map (λ i. record { node = k; session = i }) o ≡ Some p
    → AreNamed seats a b p
with_so seats a b k None p named at e = cc
with_so seats a b k (Some i) p named at e =
    let is : record { node = k; session = i } ≡ p = cc in
    subst (AreNamed seats a b) is (record {
      here = named_so seats a k named;
      there = is_there b (other (seat seats k) i)
          (found_passes (is_name b) (others_of (seat seats k).who) 0 i i None at (omega arith));
    })

pub place_names : (seats : List Seat) (a b : Name) (p : SessionPlace) → place_of seats a b ≡ Some p → AreNamed seats a b p
place_names seats a b p e =
    elim (seat_named seats a) as (λ o. seat_named seats a ≡ o → place_at seats b o ≡ Some p → AreNamed seats a b p) [
      | None ↦ λ at found. cc
      | Some k ↦ λ at found. with_so seats a b k (session_with (seat seats k) b) p at refl found
    ] refl e

session_within : (seats : List Seat) (b : Name) (k : ℕ) (o : Option ℕ) (p : SessionPlace) → AreLong seats → k < length seats
    → session_with (seat seats k) b ≡ o → place_at seats b (Some k) ≡ Some p → IsSeated seats p
session_within seats b k None p long within at e = cc
session_within seats b k (Some i) p long within at e =
    let h = index_within (is_name b) (others_of (seat seats k).who) 0 i at in
    let is : record { node = k; session = i } ≡ p = cc in
    let fits : i < length (seat seats k).posts = omega (arith, h.1, (long k within).posts) in
    subst (IsSeated seats) is (record { node = within; session = fits })

pub place_is_seated : (seats : List Seat) (a b : Name) (p : SessionPlace) → AreLong seats → place_of seats a b ≡ Some p
    → IsSeated seats p
place_is_seated seats a b p long e =
    elim (seat_named seats a) as (λ o. seat_named seats a ≡ o → place_at seats b o ≡ Some p → IsSeated seats p) [
      | None ↦ λ at found. cc
      | Some k ↦ λ at found. session_within seats b k (session_with (seat seats k) b) p long (named_within seats a k at)
          refl found
    ] refl e

-- ---- the other end
far_within : (seats : List Seat) (name : Name) (o : Option Name) (q : SessionPlace) → AreLong seats
    → option_and_then (λ b. place_of seats b name) o ≡ Some q → IsSeated seats q
far_within seats name None q long e = cc
far_within seats name (Some b) q long e = place_is_seated seats b name q long e

far_named : (seats : List Seat) (name : Name) (o : Option Name) (q : SessionPlace)
    → option_and_then (λ b. place_of seats b name) o ≡ Some q → HasOther seats q
far_named seats name None q e = cc
far_named seats name (Some b) q e = (name, (place_names seats b name q e).there)

pub far_is_seated : (seats : List Seat) (p q : SessionPlace) → AreLong seats → far_of seats p ≡ Some q → IsSeated seats q
far_is_seated seats p q long e =
    far_within seats (name_of (seat seats p.node).who) (other (seat seats p.node) p.session) q long e

pub ends_are_seated : (seats : List Seat) (a b : Name) (p q : SessionPlace) → AreLong seats → place_of seats a b ≡ Some p
    → far_of seats p ≡ Some q → AreSeated seats (record { near = p; far = q })
ends_are_seated seats a b p q long e f = record {
  near = place_is_seated seats a b p long e;
  far = far_is_seated seats p q long f;
  near_other = (b, (place_names seats a b p e).there);
  far_other = far_named seats (name_of (seat seats p.node).who) (other (seat seats p.node) p.session) q f;
}
