-- The rows of the instances of a use, and the services that its circuits lead to.
use Rattle.std.specs.List.{Contains}
use Rattle.std.specs.Prelude.{List, Some, false, length, slice_get, true, ℕ, ◌+◌, ◌*◌, ◌<◌, ◌≡◌, ◌≤◌}
use Rattle.std.proofs.Common.{ap, arith, inl, inr, subst, sym, ◌∙◌}
use Rattle.std.proofs.lemmas.Bool.{true≢false}
use Rattle.ov_types.specs.Prefix.{Block, contains}
use Rattle.ov_types.specs.declared.numbers.InstanceId.{InstanceId}
use Rattle.ov_types.specs.declared.numbers.Label.{Label as LabelNo}
use Rattle.ov_types.specs.declared.numbers.ServiceNo.{ServiceNo}
use Rattle.route_targets.specs.Numbers.{circuit_instance_of, circuit_label_of, hop_instance_of, left_circuit_of, other_side_of, right_circuit_of}
use Rattle.config_types.specs.declared.config.Config.{Config}
use Rattle.config_types.specs.declared.config.Service.{Service}
use Rattle.schedule_script.specs.Ties.{Ties}
use Rattle.transform_model.specs.IsUse.{IsUse}
use Rattle.transform_model.specs.Uses.{ConfiguredUse}
use Rattle.machine_laws.specs.Compiled.{circuit_prefix}
use Rattle.transform_model.proofs.InUse.{few_services}
use Rattle.transform_model.proofs.Lists.{place_within}
use Rattle.transform_model.proofs.Prefixes.{same_hop}
use Rattle.node_laws.specs.NodeModel.Uses.{is_hop}
use Rattle.node_laws.proofs.NodeModel.Objects.{is_hop-hop}
use Rattle.machine_laws.proofs.Circuits.{next_hop, other_of_left, other_of_right}
use Rattle.machine_moment_laws.proofs.LowStood.{network_is_no_hop}
use Rattle.machine_moment_laws.proofs.SoFar.{IsPortOf, IsRowOf, IsServiceAt, IsSoFar}
use Rattle.machine_moment_laws.proofs.SoFar.IsOwn.{attached, leftwards, rightwards}
use Rattle.machine_moment_laws.proofs.SoFar.IsRowOf.{left_end, near, own, right_end}

-- ---- behind a circuit
pub behind_left : (u j n : ℕ) → n ≡ left_circuit_of u (j + 1) → circuit_instance_of (other_side_of n) ≡ hop_instance_of u (j + 1)
behind_left u j n e = other_of_left (16384 + 16 * u + j) n (number u j n e) ∙ next_hop u j
  where
    number : (u j n : ℕ) → n ≡ left_circuit_of u (j + 1) → n ≡ 2 * (16384 + 16 * u + j) + 1
    number u j n e = omega (arith, e)

pub behind_right : (u j n : ℕ) → n ≡ right_circuit_of u (j + 1) → circuit_instance_of (other_side_of n) ≡ hop_instance_of u j
behind_right u j n e = other_of_right (16384 + 16 * u + j) n (number u j n e)
  where
    number : (u j n : ℕ) → n ≡ right_circuit_of u (j + 1) → n ≡ 2 * (16384 + 16 * u + j + 1)
    number u j n e = omega (arith, e)

left_left : (u v i j : ℕ) → i ≤ 14 → j ≤ 14 → left_circuit_of u (i + 1) ≡ left_circuit_of v (j + 1) → (u ≡ v) × (i ≡ j)
left_left u v i j a b e = (omega (arith, a, b, e), omega (arith, a, b, e))

right_right : (u v i j : ℕ) → i ≤ 14 → j ≤ 14 → right_circuit_of u (i + 1) ≡ right_circuit_of v (j + 1) → (u ≡ v) × (i ≡ j)
right_right u v i j a b e = (omega (arith, a, b, e), omega (arith, a, b, e))

left_right : (u v i j : ℕ) → left_circuit_of u (i + 1) ≡ right_circuit_of v (j + 1) → ⊥
left_right u v i j e = omega (arith, e)

module _ (t : Ties) (cs : List Config) where
  -- a use of this number was in effect in a configuration so far
  pub record WasUsed (number : ℕ) : Type 0 where
    pub config : Config
    pub so_far : IsSoFar t cs config
    pub in_effect : ConfiguredUse
    pub is_use : IsUse config in_effect
    pub number_is : in_effect.number ≡ number

  pub short : (number : ℕ) → (u : WasUsed number) → length u.in_effect.services ≤ 15
  short number u = few_services u.so_far.topology u.config u.in_effect u.so_far.valid u.is_use

  -- ---- the service at a place
  pub record IsServed (number place : ℕ) (service : ServiceNo) : Type 0 where
    pub used : WasUsed number
    pub item : Service
    pub there : slice_get used.in_effect.services place ≡ Some item
    pub number_is : item.id ≡ service

  within_fourteen : (j k : ℕ) → j < k → k ≤ 15 → j ≤ 14
  within_fourteen j k a b = omega (arith, a, b)

  module _ (circuit : ℕ) (service : ServiceNo) (s : IsServiceAt t cs circuit service) where
    low : s.place ≤ 14
    low =
        within_fourteen s.place (length s.in_effect.services) (place_within s.in_effect.services s.place s.item s.there)
        (few_services s.so_far.topology s.config s.in_effect s.so_far.valid s.is_use)

    served : (number place : ℕ) → (s.in_effect.number ≡ number) × (s.place ≡ place) → IsServed number place service
    served number place same = record {
      used = record { config = s.config; so_far = s.so_far; in_effect = s.in_effect; is_use = s.is_use; number_is = same.0 };
      item = s.item;
      there = ap (slice_get s.in_effect.services) (sym same.1) ∙ s.there;
      number_is = s.number_is;
    }

    pub served_left : (number place : ℕ) → place ≤ 14 → circuit ≡ left_circuit_of number (place + 1) → IsServed number place service
    served_left number place h e =
        elim s.side as (λ _. IsServed number place service) [
          | inl l ↦ served number place (left_left s.in_effect.number number s.place place low h (sym l ∙ e))
          | inr r ↦ absurd (left_right number s.in_effect.number place s.place (sym e ∙ r))
        ]

    pub served_right : (number place : ℕ) → place ≤ 14 → circuit ≡ right_circuit_of number (place + 1) → IsServed number place service
    served_right number place h e =
        elim s.side as (λ _. IsServed number place service) [
          | inl l ↦ absurd (left_right s.in_effect.number number s.place place (sym l ∙ e))
          | inr r ↦ served number place (right_right s.in_effect.number number s.place place low h (sym r ∙ e))
        ]

  -- ---- a row of the instance at a place of a use, but for circuits' own
  pub data HopRow (number j : ℕ) (prefix : Block) (label : LabelNo) : Type 0 where
    to_right : (u : WasUsed number) → j < length u.in_effect.services → Contains u.in_effect.right.subnets prefix
        → label ≡ circuit_label_of (left_circuit_of number (j + 1)) → HopRow number j prefix label
    to_left : (u : WasUsed number) (place : ℕ) → j ≡ place + 1 → place < length u.in_effect.services → Contains u.in_effect.left.subnets prefix
        → label ≡ circuit_label_of (right_circuit_of number (place + 1)) → HopRow number j prefix label
    at_left : (u : WasUsed number) → j ≡ 0 → IsPortOf t cs u.in_effect.left.id prefix label → HopRow number j prefix label
    at_right : (u : WasUsed number) → j ≡ length u.in_effect.services → IsPortOf t cs u.in_effect.right.id prefix label → HopRow number j prefix label

  module _ (number j : ℕ) (few : j ≤ 15) (i : InstanceId) (at : i ≡ hop_instance_of number j) (prefix : Block) (label : LabelNo) where
    is_here : is_hop i ≡ true
    is_here = ap is_hop at ∙ is_hop-hop number j

    is_no_network : is_hop i ≡ false → ⊥
    is_no_network net = true≢false (sym is_here ∙ net)

    lower : (a b : ℕ) → a < b → b ≤ 15 → a ≤ 15
    lower a b x y = omega (arith, x, y)

    upper : (a b : ℕ) → a < b → b ≤ 15 → a + 1 ≤ 15
    upper a b x y = omega (arith, x, y)

    first : 0 ≤ 15
    first = omega arith

    -- where no circuit has the address
    pub hop_row : (d : ℕ) → ((circuit : ℕ) → circuit ≤ 131070 → contains (circuit_prefix circuit) d ≡ true → ⊥) → contains prefix d ≡ true → IsRowOf t cs i prefix label → HopRow number j prefix label
    hop_row d apart hit (own (attached (inl p))) = absurd (is_no_network (ap is_hop (sym p.number) ∙ network_is_no_hop p.config p.home p.so_far.form p.has_home))
    hop_row d apart hit (own (attached (inr c))) = absurd (apart c.circuit c.few (subst (λ (b : Block). contains b d ≡ true) c.prefix_is hit))
    hop_row d apart hit (own (rightwards r)) =
        let k = few_services r.so_far.topology r.config r.in_effect r.so_far.valid r.is_use in
        let same = same_hop number r.in_effect.number j r.place few (lower r.place (length r.in_effect.services) r.within k) (sym at ∙ r.instance) in
        to_right (record { config = r.config; so_far = r.so_far; in_effect = r.in_effect; is_use = r.is_use; number_is = sym same.0 })
        (subst (λ (n : ℕ). n < length r.in_effect.services) (sym same.1) r.within) r.subnet
        (r.label_is ∙ (λ x. circuit_label_of (left_circuit_of (sym same.0 x) (sym same.1 x + 1))))
    hop_row d apart hit (own (leftwards l)) =
        let k = few_services l.so_far.topology l.config l.in_effect l.so_far.valid l.is_use in
        let same = same_hop number l.in_effect.number j (l.place + 1) few (upper l.place (length l.in_effect.services) l.within k) (sym at ∙ l.instance) in
        to_left (record { config = l.config; so_far = l.so_far; in_effect = l.in_effect; is_use = l.is_use; number_is = sym same.0 })
        l.place same.1 l.within l.subnet
        (l.label_is ∙ (λ x. circuit_label_of (right_circuit_of (sym same.0 x) (l.place + 1))))
    hop_row d apart hit (near n net p) = absurd (is_no_network net)
    hop_row d apart hit (left_end e) =
        let same = same_hop number e.in_effect.number j 0 few first (sym at ∙ e.instance) in
        at_left (record { config = e.config; so_far = e.so_far; in_effect = e.in_effect; is_use = e.is_use; number_is = sym same.0 }) same.1 e.port
    hop_row d apart hit (right_end e) =
        let k = few_services e.so_far.topology e.config e.in_effect e.so_far.valid e.is_use in
        let same = same_hop number e.in_effect.number j (length e.in_effect.services) few k (sym at ∙ e.instance) in
        at_right (record { config = e.config; so_far = e.so_far; in_effect = e.in_effect; is_use = e.is_use; number_is = sym same.0 }) same.1 e.port
