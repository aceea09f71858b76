-- The seat of a session among the agents.
use Rattle.std.specs.Prelude.{◌≡◌, ◌==◌, ℕ, zero, suc, ◌+◌, ◌<◌, ◌≤◌, List, [], ◌∷◌, drop, length, false, cond, nat_lt}
use Rattle.std.proofs.lemmas.Option.{slice_get_within, slice_get_read, same_Some}
use Rattle.std.proofs.lemmas.Bool.Decides.{nat_tests}
use Rattle.std.proofs.Math.Seq.{drop-cons}
use Rattle.std.proofs.Common.{refl, sym, ◌∙◌, ap, arith, get_or}
use Rattle.vpn_holdings.specs.declared.holdings.Agent.{Agent}
use Rattle.vpn_holdings.specs.Seats.{seat_of, IsTaken, IsFree}

-- so many agents stand before place k, and the seat is not among them
pub record IsPast (agents : List Agent) (session k : ℕ) : Type 0 where
  pub seat : seat_of agents session ≡ k + seat_of (drop k agents) session

not_below : (m n : ℕ) → n ≤ m → nat_lt m n ≡ false
not_below m n h = grind (arith, nat_tests)

unequal : (m n : ℕ) → n < m → (m == n) ≡ false
unequal m n h = grind (arith, nat_tests)

add_none : (k : ℕ) → k + 0 ≡ k
add_none k = omega arith

module _ (agents : List Agent) (session k : ℕ) (p : IsPast agents session k) where
  seat_here : (a : Agent) → k < length agents → a ≡ get_or agents k a → session ≤ a.session → seat_of agents session ≡ k
  seat_here a lt e h =
      p.seat ∙ ap (λ (l : List Agent). k + seat_of l session) (drop-cons agents k a lt ∙ ap (λ (b : Agent). b ∷ drop (suc k) agents) (sym e))
      ∙ ap (λ t. k + cond t (suc (seat_of (drop (suc k) agents) session)) 0) (not_below a.session session h) ∙ add_none k

  pub taken : (a : Agent) → k < length agents → a ≡ get_or agents k a → a.session ≡ session → IsTaken agents session k
  taken a lt e h = record {
    seat = seat_here a lt e (let le : session ≤ a.session = omega (arith, h) in le);
    agent = a;
    stands = slice_get_read agents (length agents) k a refl lt e;
    session_is = h;
  }

  pub free : (a : Agent) → k < length agents → a ≡ get_or agents k a → session < a.session → IsFree agents session k
  free a lt e h = record {
    seat = seat_here a lt e (let le : session ≤ a.session = omega (arith, h) in le);
    within = omega (arith, lt);
    unlike = λ b is. ap (λ (x : Agent). x.session == session) (same_Some b a (sym is ∙ slice_get_read agents (length agents) k a refl lt e)) ∙ unequal a.session session h;
  }

dropped_all : (agents : List Agent) (k : ℕ) → length agents ≤ k → drop k agents ≡ []
dropped_all [] zero h = refl
dropped_all [] (suc k) h = refl
dropped_all (a ∷ agents) zero h = absurd (omega (arith, h))
dropped_all (a ∷ agents) (suc k) h = dropped_all agents k (omega (arith, h))

pub free_end : (agents : List Agent) (session k : ℕ) → IsPast agents session k → k ≤ length agents → length agents ≤ k → IsFree agents session (length agents)
free_end agents session k p at_most h = record {
  seat = p.seat ∙ ap (λ (l : List Agent). k + seat_of l session) (dropped_all agents k h) ∙ (let e : k + 0 ≡ length agents = omega (arith, at_most, h) in e);
  within = omega arith;
  unlike = λ b is. absurd (let lt = slice_get_within agents (length agents) b is in omega (arith, lt));
}
