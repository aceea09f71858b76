-- Settling stops: where nothing is in flight, or after as many rounds as it may do.
use Rattle.std.specs.Prelude.{◌≡◌, ◌⊎◌, ℕ, zero, suc, ◌+◌, ◌≤◌, true, false, cond}
use Rattle.std.proofs.Common.{refl, inl, inr, arith}
use Rattle.machine_model.specs.Setup.{longest}
use Rattle.machine_model.specs.Network.{MachineState}
use Rattle.machine_model.specs.Steps.{is_quiet, round, rounds_from, resumed, settle}

at_most : (n done : ℕ) (w : MachineState) → (rounds_from n done w).0 ≤ n + done
at_most zero done w = omega arith
at_most (suc n) done w =
    elim (is_quiet w) as (λ q. (cond q (done, w) (rounds_from n (done + 1) (round w))).0 ≤ suc n + done) [
      | true ↦ omega arith
      | false ↦ more (rounds_from n (done + 1) (round w)).0 (at_most n (done + 1) (round w))
    ]
  where
    more : (m : ℕ) → m ≤ n + (done + 1) → m ≤ suc n + done
    more m h = omega (arith, h)

quiet_or_all : (n done : ℕ) (w : MachineState) → (is_quiet (rounds_from n done w).1 ≡ true) ⊎ ((rounds_from n done w).0 ≡ n + done)
quiet_or_all zero done w = inr (omega arith)
quiet_or_all (suc n) done w =
    elim (is_quiet w) as (λ q. is_quiet w ≡ q → (is_quiet (cond q (done, w) (rounds_from n (done + 1) (round w))).1 ≡ true) ⊎ ((cond q (done, w) (rounds_from n (done + 1) (round w))).0 ≡ suc n + done)) [
      | true ↦ λ q. inl q
      | false ↦ λ _. elim (quiet_or_all n (done + 1) (round w)) as (λ _. (is_quiet (rounds_from n (done + 1) (round w)).1 ≡ true) ⊎ ((rounds_from n (done + 1) (round w)).0 ≡ suc n + done)) [
        | inl q ↦ inl q
        | inr e ↦ inr (more (rounds_from n (done + 1) (round w)).0 e)
      ]
    ] refl
  where
    more : (m : ℕ) → m ≡ n + (done + 1) → m ≡ suc n + done
    more m e = omega (arith, e)

pub settle_at_most : (w : MachineState) → (settle w).0 ≤ longest w.setup + 6
unfolding settle
settle_at_most w = six (longest w.setup) (rounds_from (longest w.setup + 5) 1 (resumed w)).0 (at_most (longest w.setup + 5) 1 (resumed w))
  where
    six : (k m : ℕ) → m ≤ (k + 5) + 1 → m ≤ k + 6
    six k m h = omega (arith, h)

pub settle_quiet : (w : MachineState) → (is_quiet (settle w).1 ≡ true) ⊎ ((settle w).0 ≡ longest w.setup + 6)
unfolding settle
settle_quiet w =
    elim (quiet_or_all (longest w.setup + 5) 1 (resumed w)) as (λ _. (is_quiet (rounds_from (longest w.setup + 5) 1 (resumed w)).1 ≡ true) ⊎ ((rounds_from (longest w.setup + 5) 1 (resumed w)).0 ≡ longest w.setup + 6)) [
      | inl q ↦ inl q
      | inr e ↦ inr (six (longest w.setup) (rounds_from (longest w.setup + 5) 1 (resumed w)).0 e)
    ]
  where
    six : (k m : ℕ) → m ≡ (k + 5) + 1 → m ≡ k + 6
    six k m e = omega (arith, e)
