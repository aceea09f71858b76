-- No port of a valid configuration has the address of a circuit.
use Rattle.std.proofs.Common.{◌≡◌, ◌≢◌, ℕ, ◌+◌, ◌≤◌, true, IsTrue, Some, Option, get_or, refl, ap, subst, arith}
use Rattle.std.specs.Option.{IfSome}
use Rattle.std.specs.List.{All, Any}
use Rattle.std.proofs.lemmas.List.Elements.{All-contains}
use Rattle.ov_types.specs.Prefix.{Block, contains}
use Rattle.ov_types.specs.declared.prefix.Addr.{Addr}
use Rattle.route_targets.specs.Numbers.{circuit_address_of}
use Rattle.config_types.specs.Form.{is_block, has_config_form}
use Rattle.config_types.specs.declared.config.Config.{Config}
use Rattle.config_types.specs.declared.config.Network.{Network}
use Rattle.config_types.specs.declared.config.Port.{Port}
use Rattle.config_types.specs.declared.topology.Topology.{Topology}
use Rattle.policy_rules.proofs.Lists.{mapped_is}
use Rattle.config_check.specs.Finding.{network_named}
use Rattle.config_check.specs.Rules.{circuit_addresses}
use Rattle.config_check.specs.Sentences.{Overlap, IsValid}
use Rattle.config_check.proofs.Circuits.{circuits_iff}
use Rattle.config_check.proofs.Finders.{finds_network_named}
use Rattle.config_check.proofs.Nested.{overlap_at}
use Rattle.config_check.proofs.OneHome.{HasBlocks, blocks_of}

is_circuit : (address : Addr) (n : ℕ) → n ≤ 131070 → address ≡ circuit_address_of n → contains circuit_addresses address.0 ≡ true
is_circuit address n le same =
    let at : address.0 ≡ 0xfa00_0000 + n = ap (λ (a : Addr). a.0) same in
    let low : 0xfa00_0000 ≤ address.0 = omega arith in
    let high : address.0 ≤ 0xfa01_ffff = omega arith in
    (circuits_iff address.0).1 (low, high)

no_circuit_inside : (home : Network) (address : Addr) (n : ℕ) → HasBlocks home → All (λ s. ¬ Overlap circuit_addresses s) home.subnets
    → Any (λ s. contains s address.0 ≡ true) home.subnets → n ≤ 131070 → address ≢ circuit_address_of n
no_circuit_inside home address n blocks apart held le same =
    let s : Block = held.1 in
    let s_is : IsTrue (is_block s) = subst (λ (x : Block). IsTrue (is_block x)) held.3 (blocks held.0 s held.2) in
    let far : ¬ Overlap circuit_addresses s = subst (λ (x : Block). ¬ Overlap circuit_addresses x) held.3 (apart held.0 s held.2) in
    far (overlap_at circuit_addresses s address.0 refl s_is (is_circuit address n le same) held.4)

pub no_circuit : (t : Topology) (c : Config) → IsTrue (has_config_form c) → IsValid t c
    → All (λ p. (n : ℕ) → n ≤ 131070 → p.address ≢ circuit_address_of n) c.ports
no_circuit t c form v = λ k d lt n le same.
    let p : Port = get_or c.ports k d in
    let named = v.references.ports k d lt in
    let home = mapped_is (λ (m : Network). m.name) c.networks p.network named.0 in
    let found : network_named c p.network ≡ Some home.0 = ((finds_network_named t c p.network v).some home.0).1 (home.1, home.2) in
    let held : Any (λ s. contains s p.address.0 ≡ true) home.0.subnets =
    subst (λ (o : Option Network). IfSome o (λ m. Any (λ s. contains s p.address.0 ≡ true) m.subnets)) found (v.inside k d lt) in
    let blocks : HasBlocks home.0 = All-contains HasBlocks c.networks home.0 (blocks_of c form) home.1 in
    let apart : All (λ s. ¬ Overlap circuit_addresses s) home.0.subnets =
    All-contains (λ (m : Network). All (λ s. ¬ Overlap circuit_addresses s) m.subnets) c.networks home.0 v.reserved home.1 in
    no_circuit_inside home.0 p.address n blocks apart held le same
