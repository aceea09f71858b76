-- A table has one row for each prefix.
use Rattle.std.specs.Prelude.{Bool, cond, false, suc, true, ℕ, ◌-◌, ◌<◌, ◌≡◌, ◌≤◌, ◌⊎◌}
use Rattle.std.proofs.Common.{ap, arith, inl, inr, subst, sym, ◌∙◌}
use Rattle.std.proofs.lemmas.Bool.{true≢false}
use Rattle.ov_types.specs.Prefix.{Block, is_inside}
use Rattle.ov_types.specs.declared.numbers.InstanceId.{InstanceId}
use Rattle.ov_types.specs.declared.rows.TableRow.{TableRow}
use Rattle.node_laws.specs.NodeModel.Keys.{at}
use Rattle.node_laws.specs.NodeModel.Maps.{Map}
use Rattle.node_laws.specs.NodeModel.Members.{Member}
use Rattle.node_laws.specs.NodeModel.Reaching.{Side, circuit_at, hop_at, sides, subnets}
use Rattle.node_laws.specs.NodeModel.Uses.{imports, place_of}
use Rattle.node_laws.proofs.NodeModel.Objects.{place_of-hop}
use Rattle.node_laws.proofs.NodeModel.Places.{inside_itself, sides_apart}
use Rattle.node_laws.proofs.NodeModel.Unknown.{place_at}
use Rattle.machine_laws.specs.Compiled.{circuit_prefix, row_of}
use Rattle.machine_laws.specs.Sound.{HasOneRow, IsSound}
use Rattle.machine_laws.proofs.Numbers.{imported_at, imports_itself, place_short}
use Rattle.machine_laws.proofs.TableRows.{HostRow, SubnetRow, row_kind}
use Rattle.machine_laws.proofs.Up.{same_chain, same_side}

module _ (feed : Map) (sound : IsSound feed) (i : InstanceId) (p : Block) where
  -- a host route is none of a subnet
  host_not_subnet : (a b : TableRow) → HostRow feed i p a → SubnetRow feed i p b → ⊥
  host_not_subnet a b h s =
      let side = s.side in
      let within : is_inside h.to.prefix p ≡ true = ap (λ x. is_inside x p) h.prefix ∙ inside_itself p in
      elim (imported_at feed side (suc s.d) sound.ordered s.of_use s.within h.to.instance (subst (λ (i : InstanceId). Member h.to.instance (imports feed i)) (sym s.at) h.imported)) as (λ _. ⊥) [
        | inl e ↦ true≢false (sym within ∙ sound.circuits_apart side p h.to (suc s.d) s.within s.of_use s.subnet h.attached e)
        | inr r ↦ elim r as (λ _. ⊥) [
          | inl e ↦ none s.d e.0
          | inr e ↦ true≢false (sym within ∙ sound.ports_apart side p h.to s.of_use s.subnet h.attached e.1)
        ]
      ]
    where
      none : (d : ℕ) → suc d ≡ 0 → ⊥
      none d e = cc

  -- of one side a place has one circuit
  same_depth : (s : Side) (c d : ℕ) → Member s (sides feed) → c ≤ s.chain.services → d ≤ s.chain.services → hop_at s c ≡ hop_at s d → c ≡ d
  same_depth s c d m h k e = by_side s.is_right (sym (place_of-hop s.chain.number (place_at s c) (place_short feed s c sound.ordered m h)) ∙ ap place_of e ∙ place_of-hop s.chain.number (place_at s d) (place_short feed s d sound.ordered m k))
    where
      left : (c d k : ℕ) → c ≤ k → d ≤ k → k - c ≡ k - d → c ≡ d
      left c d k h j e = omega arith

      by_side : (b : Bool) → cond b (s.chain.services - c) c ≡ cond b (s.chain.services - d) d → c ≡ d
      by_side true e = left c d s.chain.services h k e
      by_side false e = e

  same_circuit : (s t : Side) (c d : ℕ) → s ≡ t → Member s (sides feed) → Member t (sides feed) → c < s.chain.services → d < t.chain.services → hop_at s (suc c) ≡ hop_at t (suc d) → circuit_at s (suc c) ≡ circuit_at t (suc d)
  same_circuit s t c d e m n h k at =
      ap (circuit_at s) (same_depth s (suc c) (suc d) m (next c s.chain.services h) (subst (λ (t : Side). suc d ≤ t.chain.services) (sym e) (next d t.chain.services k)) (at ∙ ap (λ (t : Side). hop_at t (suc d)) (sym e)))
      ∙ ap (λ (t : Side). circuit_at t (suc d)) e
    where
      next : (d k : ℕ) → d < k → suc d ≤ k
      next d k h = omega arith

  two_subnets : (a b : TableRow) → SubnetRow feed i p a → SubnetRow feed i p b → a ≡ b
  two_subnets a b s t =
      elim (same_side t.side s.side (same_chain feed t.side s.side (suc t.d) (suc s.d) sound t.of_use s.of_use t.within s.within (t.at ∙ sym s.at))) as (λ _. a ≡ b) [
        | inl e ↦
            let itself : Member i (imports feed i) = subst (λ (i : InstanceId). Member i (imports feed i)) s.at (imports_itself feed s.side (suc s.d) sound.ordered s.of_use s.within) in
            let same = sound.one_host i s.to t.to s.attached t.attached (subst (λ (n : InstanceId). Member n (imports feed i)) (sym (s.circuit.0 ∙ s.at)) itself) (subst (λ (n : InstanceId). Member n (imports feed i)) (sym (t.circuit.0 ∙ t.at)) itself)
            (s.circuit.1 ∙ ap circuit_prefix (same_circuit s.side t.side s.d t.d (sym e) s.of_use t.of_use s.within t.within (s.at ∙ sym t.at)) ∙ sym t.circuit.1) in
            sym s.row ∙ ap row_of same ∙ t.row
        | inr e ↦ absurd (true≢false (sym (inside_itself p) ∙ sides_apart feed s.side p p sound.ordered s.of_use s.subnet (subst (λ side. Member p (subnets side)) e t.subnet)))
      ]

  one_row_at : (a b : TableRow) → HostRow feed i p a ⊎ SubnetRow feed i p a → HostRow feed i p b ⊎ SubnetRow feed i p b → a ≡ b
  one_row_at a b (inl h) (inl k) = sym h.row ∙ ap row_of (sound.one_host i h.to k.to h.attached k.attached h.imported k.imported (h.prefix ∙ sym k.prefix)) ∙ k.row
  one_row_at a b (inl h) (inr s) = absurd (host_not_subnet a b h s)
  one_row_at a b (inr s) (inl h) = absurd (host_not_subnet b a h s)
  one_row_at a b (inr s) (inr t) = two_subnets a b s t

pub has_one_row : (feed : Map) → IsSound feed → (i : InstanceId) → HasOneRow feed i
has_one_row feed sound i p a b m n = one_row_at feed sound i p a b (row_kind feed i p a m) (row_kind feed i p b n)
