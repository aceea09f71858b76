-- The circuits on the way of a chain have numbers of circuits, and each leads to the instance one place nearer.
use Rattle.std.specs.Prelude.{◌≡◌, ℕ, suc, ◌+◌, ◌*◌, ◌-◌, ◌<◌, ◌≤◌, true, false, cond}
use Rattle.std.proofs.Common.{arith}
use Rattle.std.proofs.lemmas.Grind.{common_steps}
use Rattle.node_model.specs.Reaching.{Side, hop_at, circuit_at}
use Rattle.node_model.specs.Uses.{hop}
use Rattle.route_targets.specs.Numbers.{left_circuit_of, right_circuit_of}
use Rattle.rt_constrain.specs.Needs.{instance_across, is_circuit}

-- of the left circuit of service j
left_number : (u j : ℕ) → u ≤ 3071 → 1 ≤ j → j ≤ 15 → is_circuit (left_circuit_of u j) ≡ true
left_number u j a b c = grind (arith, common_steps)

right_number : (u j : ℕ) → u ≤ 3071 → 1 ≤ j → j ≤ 15 → is_circuit (right_circuit_of u j) ≡ true
right_number u j a b c = grind (arith, common_steps)

left_across : (u j : ℕ) → 1 ≤ j → (instance_across (left_circuit_of u j)).0 ≡ 16384 + 16 * u + j
left_across u j h = grind (arith, common_steps)

right_across : (u j : ℕ) → (instance_across (right_circuit_of u (suc j))).0 ≡ 16384 + 16 * u + j
right_across u j = grind (arith, common_steps)

-- ---- on a side
module _ (s : Side) (d : ℕ) where
  pub numbered_at : s.chain.number ≤ 3071 → s.chain.services ≤ 15 → d < s.chain.services → is_circuit (circuit_at s (suc d)) ≡ true
  numbered_at a b w =
      elim s.is_right as (λ r. is_circuit (cond r (left_circuit_of s.chain.number (s.chain.services - suc d + 1)) (right_circuit_of s.chain.number (suc d))) ≡ true) [
        | true ↦ left_number s.chain.number (s.chain.services - suc d + 1) a (omega arith) (omega (arith, b, w))
        | false ↦ right_number s.chain.number (suc d) a (omega arith) (omega (arith, b, w))
      ]

  pub across_at : d < s.chain.services → instance_across (circuit_at s (suc d)) ≡ hop_at s d
  across_at w =
      elim s.is_right as (λ r. instance_across (cond r (left_circuit_of s.chain.number (s.chain.services - suc d + 1)) (right_circuit_of s.chain.number (suc d)))
      ≡ hop s.chain (cond r (s.chain.services - d) d)) [
        | true ↦ λ i. record { 0 = rightwards (s.chain.number) (s.chain.services) d w i }
        | false ↦ λ i. record { 0 = right_across s.chain.number d i }
      ]
    where
      rightwards : (u k d : ℕ) → d < k → (instance_across (left_circuit_of u (k - suc d + 1))).0 ≡ 16384 + 16 * u + (k - d)
      rightwards u k d w = grind (arith, left_across u (k - suc d + 1) (omega arith))
