-- In a valid configuration the instances are those of its networks and of the hops of its uses, each once.
use Rattle.std.proofs.Common.{◌≡◌, ◌≢◌, ◌↔◌, inl, inr, ◌+◌, ◌*◌, ◌≤◌, ℕ, zero, suc, IsTrue, List, [], ◌∷◌, length, map, get_or, sym, ap, ◌∙◌, subst, arith}
use Rattle.std.specs.Prelude.{flat_map}
use Rattle.std.specs.List.{AllPairs, Contains}
use Rattle.std.proofs.lemmas.List.Elements.{Contains-get_or, Contains-append_left, Contains-append_right, Contains-append_cases}
use Rattle.std.proofs.lemmas.List.Kept.{AllPairs-cons}
use Rattle.ov_types.specs.declared.numbers.InstanceId.{InstanceId}
use Rattle.ov_types.proofs.FirstLemmas.{contains_here, contains_later, contains_cases}
use Rattle.node_model.specs.RouteTargets.Numbers.{hop_instance_of}
use Rattle.acl_compile.specs.ConfigTypes.Form.{has_config_form}
use Rattle.acl_compile.specs.ConfigTypes.Config.{Config}
use Rattle.acl_compile.specs.ConfigTypes.Network.{Network}
use Rattle.acl_compile.specs.ConfigTypes.Topology.{Topology}
use Rattle.acl_compile.specs.ConfigCheck.Sentences.{IsValid}
use Rattle.transform_model.specs.IsUse.{IsInstance, of_network, of_hop}
use Rattle.transform_model.specs.Tables.{instances}
use Rattle.transform_model.specs.Uses.{ConfiguredUse, uses, hops_from, hops}
use Rattle.transform_model.proofs.InUse.{use_is, is_use, uses_differ, few_services}
use Rattle.transform_model.proofs.InUse as in_use
use Rattle.acl_compile.proofs.PolicyRules.Lists.{mapped_is, is_mapped, joined_is, is_joined}
use Rattle.transform_model.proofs.Lists.{no_pairs, pairs_append_by, pairs_joined_by, pairs_mapped, pairs_of_map}
use Rattle.transform_model.proofs.Prefixes.{same_hop, network_number}

record IsFrom (number first more : ℕ) (i : InstanceId) : Type 0 where
  place : ℕ
  from : first ≤ place
  to : place ≤ first + more
  at : i ≡ hop_instance_of number place

from_is : (number first more : ℕ) (i : InstanceId) → Contains (hops_from number first more) i → IsFrom number first more i
from_is number first zero i h =
    elim (contains_cases (hop_instance_of number first) [] i h) [
      | inl same ↦ record { place = first; from = omega arith; to = omega arith; at = sym same }
      | inr none ↦ absurd (omega (arith, none.1))
    ]
from_is number first (suc more) i h =
    elim (contains_cases (hop_instance_of number first) (hops_from number (first + 1) more) i h) [
      | inl same ↦ record { place = first; from = omega arith; to = omega arith; at = sym same }
      | inr later ↦
          let q = from_is number (first + 1) more i later in
          let lo = q.from in
          let hi = q.to in
          record { place = q.place; from = omega arith; to = omega arith; at = q.at }
    ]

is_from : (number first more extra : ℕ) → extra ≤ more → Contains (hops_from number first more) (hop_instance_of number (first + extra))
is_from number first zero extra le =
    let start : first ≡ first + extra = omega arith in
    subst (λ (j : ℕ). Contains (hops_from number first zero) (hop_instance_of number j)) start (contains_here (hop_instance_of number first) [])
is_from number first (suc more) zero le =
    let start : first ≡ first + 0 = omega arith in
    let rest : List InstanceId = hops_from number (first + 1) more in
    subst (λ (j : ℕ). Contains (hop_instance_of number first ∷ rest) (hop_instance_of number j)) start (contains_here (hop_instance_of number first) rest)
is_from number first (suc more) (suc extra) le =
    let next : first + 1 + extra ≡ first + suc extra = omega arith in
    let rest : List InstanceId = hops_from number (first + 1) more in
    subst (λ (j : ℕ). Contains (hop_instance_of number first ∷ rest) (hop_instance_of number j)) next
    (contains_later (hop_instance_of number (first + 1 + extra)) (hop_instance_of number first) rest (is_from number (first + 1) more extra (omega arith)))

abbrev Differ : InstanceId → InstanceId → Type 0
Differ i j = i.0 ≢ j.0

from_differ : (number first more : ℕ) → AllPairs Differ (hops_from number first more)
from_differ number first zero = AllPairs-cons Differ (hop_instance_of number first) [] (λ k d lt. absurd (omega arith)) (no_pairs Differ)
from_differ number first (suc more) =
    let rest : List InstanceId = hops_from number (first + 1) more in
    AllPairs-cons Differ (hop_instance_of number first) rest
    (λ k d lt same.
    let q = from_is number (first + 1) more (get_or rest k d) (Contains-get_or rest k d lt) in
    let lo = q.from in
    let one : 16384 + 16 * number + first ≡ 16384 + 16 * number + q.place = same ∙ ap (λ (i : InstanceId). i.0) q.at in
    absurd (omega arith))
    (from_differ number (first + 1) more)

pub hop_is : (u : ConfiguredUse) (i : InstanceId) → Contains (hops u) i → (j : ℕ) × (j ≤ length u.services) × (i ≡ hop_instance_of u.number j)
hop_is u i h =
    let q = from_is u.number 0 (length u.services) i h in
    let hi = q.to in
    (q.place, omega arith, q.at)

pub is_hop : (u : ConfiguredUse) (j : ℕ) → j ≤ length u.services → Contains (hops u) (hop_instance_of u.number j)
is_hop u j le =
    let start : 0 + j ≡ j = omega arith in
    subst (λ (k : ℕ). Contains (hops u) (hop_instance_of u.number k)) start (is_from u.number 0 (length u.services) j le)

-- ---- of a configuration

pub instance_is : (c : Config) (i : InstanceId) → Contains (instances c) i → IsInstance c i
instance_is c i h =
    elim (Contains-append_cases (map (λ (n : Network). n.id) c.networks) (flat_map hops (uses c)) i h) [
      | inl network ↦ let q = mapped_is (λ (n : Network). n.id) c.networks i network in of_network q.0 q.1 (sym q.2)
      | inr hop ↦
          let u = joined_is hops (uses c) i hop in
          let q = hop_is u.0 i u.2 in
          of_hop u.0 q.0 (use_is c u.0 u.1) q.1 q.2
    ]

pub is_instance : (t : Topology) (c : Config) (i : InstanceId) → IsValid t c → IsInstance c i → Contains (instances c) i
is_instance t c i v (of_network n in_n is) =
    let of : List InstanceId = map (λ (n : Network). n.id) c.networks in
    Contains-append_left of (flat_map hops (uses c)) i (subst (Contains of) (sym is) (is_mapped (λ (n : Network). n.id) c.networks n in_n))
is_instance t c i v (of_hop u j used le is) =
    Contains-append_right (map (λ (n : Network). n.id) c.networks) (flat_map hops (uses c)) i
    (is_joined hops (uses c) u i (is_use t c u v used) (subst (Contains (hops u)) (sym is) (is_hop u j le)))

pub instances_iff : (t : Topology) (c : Config) (i : InstanceId) → IsValid t c → Contains (instances c) i ↔ IsInstance c i
instances_iff t c i v = (instance_is c i, is_instance t c i v)

pub instances_differ : (t : Topology) (c : Config) → IsValid t c → IsTrue (has_config_form c) → AllPairs (λ i j. i.0 ≢ j.0) (instances c)
instances_differ t c v form =
    let of : List InstanceId = map (λ (n : Network). n.id) c.networks in
    let networks : AllPairs (λ (a b : Network). a.id.0 ≢ b.id.0) c.networks =
    pairs_of_map (λ (n : Network). n.id.0) (λ (a b : ℕ). a ≢ b) c.networks v.numbers.networks in
    let hop_lists : AllPairs Differ (flat_map hops (uses c)) =
    pairs_joined_by hops Differ in_use.Differ (uses c) (uses_differ t c v) (λ u in_u. from_differ u.number 0 (length u.services))
    (λ u w i j in_u in_w differ in_i in_j same.
    let a = hop_is u i in_i in
    let b = hop_is w j in_j in
    let few_a = few_services t c u v (use_is c u in_u) in
    let few_b = few_services t c w v (use_is c w in_w) in
    let low_a = a.1 in
    let low_b = b.1 in
    let one : i ≡ j = λ k. record { 0 = same k } in
    differ (same_hop u.number w.number a.0 b.0 (omega arith) (omega arith) (sym a.2 ∙ one ∙ b.2)).0) in
    pairs_append_by Differ of (flat_map hops (uses c)) (pairs_mapped (λ (n : Network). n.id) Differ c.networks networks) hop_lists
    (λ i j in_i in_j same.
    let n = mapped_is (λ (n : Network). n.id) c.networks i in_i in
    let u = joined_is hops (uses c) j in_j in
    let q = hop_is u.0 j u.2 in
    let low : n.0.id.0 ≤ 16383 = network_number c n.0 form n.1 in
    let number : n.0.id.0 ≡ i.0 = ap (λ (k : InstanceId). k.0) n.2 in
    let is : j.0 ≡ 16384 + 16 * u.0.number + q.0 = ap (λ (k : InstanceId). k.0) q.2 in
    omega arith)
