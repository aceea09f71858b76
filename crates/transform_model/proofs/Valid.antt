-- What names and numbers tell apart in a valid configuration, and what it refers to.
use Rattle.std.proofs.Common.{◌≡◌, ◌≢◌, true, IsTrue, [], Some, IfSome, map, sym, inl, inr}
use Rattle.std.specs.List.{Any, Contains}
use Rattle.std.proofs.lemmas.List.Elements.{All-contains}
use Rattle.ov_types.specs.Prefix.{Block, contains}
use Rattle.ov_types.proofs.FirstLemmas.{answered}
use Rattle.reach_plain.specs.ConfigTypes.Form.{is_block, has_config_form}
use Rattle.reach_plain.specs.ConfigTypes.Config.{Config}
use Rattle.reach_plain.specs.ConfigTypes.Network.{Network}
use Rattle.reach_plain.specs.ConfigTypes.Port.{Port}
use Rattle.reach_plain.specs.ConfigTypes.Service.{Service}
use Rattle.reach_plain.specs.ConfigTypes.Node.{Node}
use Rattle.reach_plain.specs.ConfigTypes.Topology.{Topology}
use Rattle.reach_plain.specs.ConfigCheck.Rules.{controller_names, network_names, node_names}
use Rattle.reach_plain.specs.ConfigCheck.Sentences.{IsValid}
use Rattle.reach_plain.specs.ConfigCheck.Finding.{network_named}
use Rattle.reach_plain.proofs.ConfigCheck.OneHome.{HasBlocks, blocks_of, two_among}
use Rattle.reach_plain.proofs.ConfigCheck.Finders.{finds_network_named, back_pairs}
use Rattle.reach_plain.proofs.PolicyRules.Lists.{mapped_is}
use Rattle.transform_model.proofs.OneFound.{one_by_key}

module _ (t : Topology) (c : Config) (v : IsValid t c) where
  pub one_node : (a b : Node) → Contains t.nodes a → Contains t.nodes b → a.name ≡ b.name → a ≡ b
  one_node a b p q e =
      one_by_key (λ (n : Node). n.name) t.nodes (back_pairs (λ a b. a ≢ b) (controller_names t) (node_names t) v.names.nodes) a b p q e

  pub one_node_at : (a b : Node) → Contains t.nodes a → Contains t.nodes b → a.address.0 ≡ b.address.0 → a ≡ b
  one_node_at a b p q e =
      one_by_key (λ (n : Node). n.address.0) t.nodes
      (back_pairs (λ a b. a ≢ b) (map (λ n. n.address.0) t.controllers) (map (λ n. n.address.0) t.nodes) v.numbers.addresses) a b p q e

  pub one_port_at : (a b : Port) → Contains c.ports a → Contains c.ports b → a.network ≡ b.network → a.address.0 ≡ b.address.0 → a ≡ b
  one_port_at a b p q e d =
      elim (two_among (λ x y. ¬ ((x.network ≡ y.network) × (x.address.0 ≡ y.address.0))) c.ports a b v.addresses p q) [
        | inl same ↦ same
        | inr h ↦ elim h [ inl apart ↦ absurd (apart (e, d)) | inr apart ↦ absurd (apart (sym e, sym d)) ]
      ]

  pub node_of_port : (q : Port) → Contains c.ports q → (n : Node) × Contains t.nodes n × (n.name ≡ q.node)
  node_of_port q h =
      let named = All-contains (λ (p : Port). Contains (network_names c) p.network × Contains (node_names t) p.node) c.ports q v.references.ports h in
      mapped_is (λ (n : Node). n.name) t.nodes q.node named.1

  pub node_of_service : (s : Service) → Contains c.services s → (n : Node) × Contains t.nodes n × (n.name ≡ s.node)
  node_of_service s h =
      let named = All-contains (λ (s : Service). Contains (node_names t) s.node) c.services s v.references.services h in
      mapped_is (λ (n : Node). n.name) t.nodes s.node named

  -- a port's network holds its address
  pub holds_port_address : (n : Network) (q : Port) → Contains c.networks n → Contains c.ports q → q.network ≡ n.name → Any (λ s. contains s q.address.0 ≡ true) n.subnets
  holds_port_address n q in_n in_q e =
      let found : network_named c q.network ≡ Some n = ((finds_network_named t c q.network v).some n).1 (in_n, sym e) in
      let P : Port → Type 0 = λ p. IfSome (network_named c p.network) (λ n. Any (λ s. contains s p.address.0 ≡ true) n.subnets) in
      answered (λ (n : Network). Any (λ s. contains s q.address.0 ≡ true) n.subnets) (network_named c q.network) (All-contains P c.ports q v.inside in_q) n found

module _ (c : Config) (form : IsTrue (has_config_form c)) where
  pub subnet_form : (n : Network) (prefix : Block) → Contains c.networks n → Contains n.subnets prefix → IsTrue (is_block prefix)
  subnet_form n prefix in_n in_prefix =
      All-contains (λ s. IsTrue (is_block s)) n.subnets prefix (All-contains HasBlocks c.networks n (blocks_of c form) in_n) in_prefix
