-- A circuit lies in one use with its other side.
use Rattle.std.specs.Prelude.{cond, true, ℕ, ◌%◌, ◌*◌, ◌+◌, ◌-◌, ◌/◌, ◌≡◌, ◌≤◌}
use Rattle.std.proofs.Common.{ap, arith, sym, ◌∙◌}
use Rattle.std.proofs.lemmas.Bool.{eq-eqb, ne_eqb}
use Rattle.ov_types.specs.declared.numbers.InstanceId.{InstanceId}
use Rattle.route_targets.specs.Numbers.{circuit_instance_of, hop_instance_of, other_side_of}
use Rattle.node_laws.specs.NodeModel.Uses.{is_hop, use_of}
use Rattle.node_laws.proofs.NodeModel.Objects.{is_hop-hop, use_of-hop}
use Rattle.machine_laws.specs.Tied.{IsInUse}

-- ---- the other side of a circuit
pub other_of_left : (i n : ℕ) → n ≡ 2 * i + 1 → circuit_instance_of (other_side_of n) ≡ record { 0 = i + 1 }
other_of_left i n e = λ k. record { 0 = number i n e k }
  where
    odd : (i n : ℕ) → n ≡ 2 * i + 1 → n % 2 ≡ 0 → ⊥
    odd i n e z = omega (arith, e, z)

    half : (i n : ℕ) → n ≡ 2 * i + 1 → (n + 1) / 2 ≡ i + 1
    half i n e = omega (arith, e)

    number : (i n : ℕ) → n ≡ 2 * i + 1 → (circuit_instance_of (other_side_of n)).0 ≡ i + 1
    number i n e = ap (λ b. cond b (n - 1) (n + 1) / 2) (ne_eqb (n % 2) 0 (odd i n e)) ∙ half i n e

pub other_of_right : (i n : ℕ) → n ≡ 2 * (i + 1) → circuit_instance_of (other_side_of n) ≡ record { 0 = i }
other_of_right i n e = λ k. record { 0 = number i n e k }
  where
    even : (i n : ℕ) → n ≡ 2 * (i + 1) → n % 2 ≡ 0
    even i n e = omega (arith, e)

    half : (i n : ℕ) → n ≡ 2 * (i + 1) → (n - 1) / 2 ≡ i
    half i n e = omega (arith, e)

    number : (i n : ℕ) → n ≡ 2 * (i + 1) → (circuit_instance_of (other_side_of n)).0 ≡ i
    number i n e = ap (λ b. cond b (n - 1) (n + 1) / 2) (eq-eqb (n % 2) 0 (even i n e)) ∙ half i n e

pub next_hop : (u j : ℕ) → ◌≡◌ {A = InstanceId} (record { 0 = 16384 + 16 * u + j + 1 }) (hop_instance_of u (j + 1))
next_hop u j = λ k. record { 0 = same u j k }
  where
    same : (u j : ℕ) → 16384 + 16 * u + j + 1 ≡ 16384 + 16 * u + (j + 1)
    same u j = omega arith

-- a circuit that lies with its other side at places of one use
pub sides_in : (u j k n : ℕ) → j ≤ 15 → k ≤ 15 → circuit_instance_of n ≡ hop_instance_of u j → circuit_instance_of (other_side_of n) ≡ hop_instance_of u k
    → (is_hop (circuit_instance_of n) ≡ true) × IsInUse (use_of (circuit_instance_of n)) (other_side_of n)
sides_in u j k n few more here there = (
  ap is_hop here ∙ is_hop-hop u j,
  (ap is_hop there ∙ is_hop-hop u k, ap use_of there ∙ use_of-hop u k more ∙ sym (use_of-hop u j few) ∙ ap use_of (sym here)),
)
