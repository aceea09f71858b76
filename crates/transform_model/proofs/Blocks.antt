-- Which prefixes contain an address.
use Rattle.std.proofs.Common.{◌≡◌, ◌<◌, ◌≤◌, ◌+◌, ◌*◌, ◌^◌, ℕ, true, IsTrue, refl, subst, arith, inl, inr}
use Rattle.std.specs.List.{All, AllPairs, Any, Contains}
use Rattle.std.proofs.lemmas.List.Elements.{All-contains}
use Rattle.ov_types.specs.Prefix.{Block, contains, host_prefix}
use Rattle.ov_types.proofs.Blocks.{contains_from, ranges}
use Rattle.ov_types.proofs.FirstLemmas.{any_of}
use Rattle.route_targets.specs.Numbers.{circuit_address_of}
use Rattle.reach_plain.specs.ConfigTypes.Form.{has_config_form}
use Rattle.reach_plain.specs.ConfigTypes.Config.{Config}
use Rattle.reach_plain.specs.ConfigTypes.Network.{Network}
use Rattle.reach_plain.specs.ConfigTypes.Topology.{Topology}
use Rattle.reach_plain.specs.ConfigCheck.Rules.{circuit_addresses}
use Rattle.reach_plain.specs.ConfigCheck.Sentences.{IsValid, Overlap}
use Rattle.reach_plain.proofs.ConfigCheck.Nested.{overlap_at}
use Rattle.reach_plain.proofs.ConfigCheck.OneHome.{two_among}
use Rattle.transform_model.specs.IsRow.{HoldsPort}
use Rattle.transform_model.proofs.Valid.{subnet_form}

-- a subnet of a network contains an address
abbrev pub Holds : Network → ℕ → Type 0
Holds n d = Any (λ s. contains s d ≡ true) n.subnets

pub host_is : (a d : ℕ) → contains (host_prefix a) d ≡ true → a ≡ d
host_is a d h =
    let r = ranges (host_prefix a) d h in
    let lo : a ≤ d = r.lo in
    let hi : d < a + 1 = r.hi in
    omega arith

pub host_holds : (a d : ℕ) → a ≡ d → contains (host_prefix a) d ≡ true
host_holds a d e =
    let hi : d < a + 1 = omega arith in
    contains_from (host_prefix a) d (omega arith) hi

pub held_by : (c : Config) (n : Network) (prefix : Block) (d : ℕ) → HoldsPort c n prefix → contains prefix d ≡ true → Holds n d
held_by c n prefix d h hit = any_of (λ s. contains s d ≡ true) n.subnets prefix h.has_subnet hit

circuit_at : (number : ℕ) → number ≤ 131070 → contains circuit_addresses (circuit_address_of number).0 ≡ true
circuit_at number few =
    let lo : 0xfa00_0000 ≤ 250 * 2 ^ 24 + number = omega arith in
    let hi : 250 * 2 ^ 24 + number < 0xfa00_0000 + 131072 = omega arith in
    contains_from circuit_addresses (circuit_address_of number).0 lo hi

module _ (t : Topology) (c : Config) (form : IsTrue (has_config_form c)) (v : IsValid t c) where
  -- no circuit has an address of a network
  pub not_circuit : (n : Network) (d number : ℕ) → Contains c.networks n → Holds n d → number ≤ 131070 → contains (host_prefix (circuit_address_of number).0) d ≡ true → ⊥
  not_circuit n d number in_n held few hit =
      let same : (circuit_address_of number).0 ≡ d = host_is (circuit_address_of number).0 d hit in
      let reserved : contains circuit_addresses d ≡ true = subst (λ (x : ℕ). contains circuit_addresses x ≡ true) same (circuit_at number few) in
      let p : Block = held.1 in
      let in_p : Contains n.subnets p = (held.0, held.2, held.3) in
      let apart : ¬ Overlap circuit_addresses p =
      All-contains (λ q. ¬ Overlap circuit_addresses q) n.subnets p (All-contains (λ (m : Network). All (λ q. ¬ Overlap circuit_addresses q) m.subnets) c.networks n v.reserved in_n) in_p in
      apart (overlap_at circuit_addresses p d refl (subnet_form c form n p in_n in_p) reserved held.4)

  -- one subnet of a network contains an address
  pub one_subnet : (n : Network) (p q : Block) (d : ℕ) → Contains c.networks n → Contains n.subnets p → Contains n.subnets q → contains p d ≡ true → contains q d ≡ true → p ≡ q
  one_subnet n p q d in_n in_p in_q hit_p hit_q =
      let flat = All-contains (λ (m : Network). AllPairs (λ p q. ¬ Overlap p q) m.subnets) c.networks n v.flat in_n in
      let form_p = subnet_form c form n p in_n in_p in
      let form_q = subnet_form c form n q in_n in_q in
      elim (two_among (λ p q. ¬ Overlap p q) n.subnets p q flat in_p in_q) [
        | inl same ↦ same
        | inr h ↦ elim h [
          | inl apart ↦ absurd (apart (overlap_at p q d form_p form_q hit_p hit_q))
          | inr apart ↦ absurd (apart (overlap_at q p d form_q form_p hit_q hit_p))
        ]
      ]
