-- Instances, circuits and what places import.
use Rattle.std.specs.Prelude.{Bool, cond, false, not, true, ℕ, ◌+◌, ◌-◌, ◌/◌, ◌<◌, ◌≡◌, ◌≤◌, ◌⊎◌}
use Rattle.std.proofs.Common.{ap, arith, inl, inr, refl, ◌*◌}
use Rattle.std.proofs.lemmas.Bool.{eq-eqb, eqb-true}
use Rattle.ov_types.specs.declared.numbers.InstanceId.{InstanceId}
use Rattle.route_targets.specs.Numbers.{circuit_instance_of, left_circuit_of, right_circuit_of}
use Rattle.node_laws.specs.NodeModel.Maps.{Map}
use Rattle.node_laws.specs.NodeModel.Members.{Member}
use Rattle.node_laws.specs.NodeModel.Ranks.{AreOrdered}
use Rattle.node_laws.specs.NodeModel.Reaching.{Side, circuit_at, hop_at, network, sides}
use Rattle.node_laws.specs.NodeModel.Uses.{hop, imports, uses}
use Rattle.node_laws.proofs.NodeModel.Objects.{side_use}
use Rattle.node_laws.proofs.NodeModel.Spelled.{import_is}
use Rattle.node_laws.proofs.NodeModel.Unknown.{le_trans, place_at, place_at-within}
use Rattle.machine_laws.specs.Compiled.{same_instance}
use Rattle.machine_laws.specs.Sound.{other}

-- ---- numbers tell their parts
pub instance_is : (i j : InstanceId) → same_instance i j ≡ true → i ≡ j
instance_is i j e = λ k. record { 0 = eqb-true i.0 j.0 e k }

pub instance_same : (i j : InstanceId) → i ≡ j → same_instance i j ≡ true
instance_same i j e = eq-eqb i.0 j.0 (ap (λ (x : InstanceId). x.0) e)

-- the circuit at a place of a side is in the instance there
pub circuit_at-instance : (s : Side) (d : ℕ) → circuit_instance_of (circuit_at s d) ≡ hop_at s d
circuit_at-instance s d =
    elim s.is_right as (λ b. circuit_instance_of (cond b (left_circuit_of s.chain.number (s.chain.services - d + 1)) (right_circuit_of s.chain.number d)) ≡ hop s.chain (cond b (s.chain.services - d) d)) [
      | true ↦ λ i. record { 0 = left s.chain.number (s.chain.services - d) i }
      | false ↦ λ i. record { 0 = right s.chain.number d i }
    ]
  where
    left : (u j : ℕ) → (2 * (16384 + 16 * u + (j + 1 - 1)) + 1) / 2 ≡ 16384 + 16 * u + j
    left u j = omega arith

    right : (u j : ℕ) → (2 * (16384 + 16 * u + j)) / 2 ≡ 16384 + 16 * u + j
    right u j = omega arith

pub hop_not_network : (s : Side) (d : ℕ) (n : InstanceId) → n.0 < 16384 → hop_at s d ≡ n → ⊥
hop_not_network s d n h e = apart s.chain.number (place_at s d) n.0 h (ap (λ (x : InstanceId). x.0) e)
  where
    apart : (u j n : ℕ) → n < 16384 → 16384 + 16 * u + j ≡ n → ⊥
    apart u j n h e = omega (arith, h, e)

-- ---- places of held sides
module _ (feed : Map) (s : Side) (d : ℕ) (ordered : AreOrdered feed) (m : Member s (sides feed)) (h : d ≤ s.chain.services) where
  held : Member s.chain (uses feed)
  held = side_use feed s m

  pub place_short : place_at s d ≤ 15
  place_short = le_trans (place_at s d) s.chain.services 15 (place_at-within s d h) (ordered.short s.chain held)

  pub imports_itself : Member (hop_at s d) (imports feed (hop_at s d))
  imports_itself = (import_is feed s.chain (place_at s d) (hop_at s d) held place_short (place_at-within s d h)).1 (inl refl)

  -- what a place may import: itself, and at either end the network there
  pub imported_at : (n : InstanceId) → Member n (imports feed (hop_at s d)) → (n ≡ hop_at s d) ⊎ (((d ≡ 0) × (n ≡ network s)) ⊎ ((d ≡ s.chain.services) × (n ≡ network (other s))))
  imported_at n i =
      elim ((import_is feed s.chain (place_at s d) n held place_short (place_at-within s d h)).0 i) as (λ _. (n ≡ hop_at s d) ⊎ (((d ≡ 0) × (n ≡ network s)) ⊎ ((d ≡ s.chain.services) × (n ≡ network (other s))))) [
        | inl e ↦ inl e
        | inr r ↦ inr (elim r as (λ _. ((d ≡ 0) × (n ≡ network s)) ⊎ ((d ≡ s.chain.services) × (n ≡ network (other s)))) [
          | inl l ↦ of_left s.is_right l.0 l.1
          | inr l ↦ of_right s.is_right l.0 l.1
        ])
      ]
    where
      full : (d k : ℕ) → d ≤ k → k - d ≡ 0 → d ≡ k
      full d k h e = omega arith

      none : (d k : ℕ) → d ≤ k → k - d ≡ k → d ≡ 0
      none d k h e = omega arith

      of_left : (b : Bool) → cond b (s.chain.services - d) d ≡ 0 → n ≡ s.chain.left → ((d ≡ 0) × (n ≡ cond b s.chain.right s.chain.left)) ⊎ ((d ≡ s.chain.services) × (n ≡ cond (not b) s.chain.right s.chain.left))
      of_left true e f = inr (full d s.chain.services h e, f)
      of_left false e f = inl (e, f)

      of_right : (b : Bool) → cond b (s.chain.services - d) d ≡ s.chain.services → n ≡ s.chain.right → ((d ≡ 0) × (n ≡ cond b s.chain.right s.chain.left)) ⊎ ((d ≡ s.chain.services) × (n ≡ cond (not b) s.chain.right s.chain.left))
      of_right true e f = inl (none d s.chain.services h e, f)
      of_right false e f = inr (e, f)

-- at its end a chain imports the side's network
pub imports_end : (feed : Map) (s : Side) → AreOrdered feed → Member s (sides feed) → Member (network s) (imports feed (hop_at s 0))
imports_end feed s ordered m =
    (import_is feed s.chain (place_at s 0) (network s) (side_use feed s m) (place_short feed s 0 ordered m (zero_le s.chain.services)) (place_at-within s 0 (zero_le s.chain.services))).1 (inr (here s.is_right))
  where
    zero_le : (k : ℕ) → 0 ≤ k
    zero_le k = omega arith

    less_zero : (k : ℕ) → k - 0 ≡ k
    less_zero k = omega arith

    here : (b : Bool) → ((cond b (s.chain.services - 0) 0 ≡ 0) × (cond b s.chain.right s.chain.left ≡ s.chain.left)) ⊎ ((cond b (s.chain.services - 0) 0 ≡ s.chain.services) × (cond b s.chain.right s.chain.left ≡ s.chain.right))
    here true = inr (less_zero s.chain.services, refl)
    here false = inl (refl, refl)
