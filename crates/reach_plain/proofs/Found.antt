-- The network of an address, for packets from another, in a valid configuration.
use Rattle.std.proofs.Common.{◌≡◌, ◌⊎◌, inl, inr, ℕ, ◌&&◌, ◌||◌, Bool, true, false, IsTrue, List, Some, None, refl, sym, ap, ◌∙◌}
use Rattle.std.specs.Bool.{Decides}
use Rattle.std.specs.List.{Any, Contains, find}
use Rattle.std.proofs.lemmas.Bool.Decides.{Decides-and, Decides-or}
use Rattle.std.proofs.lemmas.List.Elements.{All-contains}
use Rattle.ov_types.specs.First.{same_name}
use Rattle.ov_types.specs.Prefix.{contains}
use Rattle.ov_types.proofs.FirstLemmas.{same_name_iff, found_is, find_none}
use Rattle.config_types.specs.Form.{has_config_form}
use Rattle.config_types.specs.declared.config.Config.{Config}
use Rattle.config_types.specs.declared.config.Network.{Network}
use Rattle.config_types.specs.declared.config.Port.{Port}
use Rattle.config_types.specs.declared.topology.Topology.{Topology}
use Rattle.policy_rules.specs.Related.{are_related}
use Rattle.policy_rules.specs.Standing.{AreRelated}
use Rattle.policy_rules.proofs.Lists.{mapped_is}
use Rattle.policy_rules.proofs.Relations.{related_iff}
use Rattle.config_check.specs.Rules.{network_names, node_names, holds_address}
use Rattle.config_check.specs.Sentences.{IsAround, IsValid}
use Rattle.config_check.proofs.Meanings.{holds_iff}
use Rattle.config_check.proofs.OneHome.{one_network}
use Rattle.reach_plain.specs.Outcomes.{IsTowards}
use Rattle.reach_plain.specs.Reachability.{network_towards}

-- the only item that passes a test is the one that is found
pub finds : {A : Type 0} (p : A → Bool) (xs : List A) (x : A) → Contains xs x → p x ≡ true → ((y : A) → Contains xs y → p y ≡ true → y ≡ x) → find p xs ≡ Some x
finds {A} p xs x inside passes only =
    elim (find p xs) as (λ o. find p xs ≡ o → o ≡ Some x) [
      | None ↦ λ e.
          let fails : p x ≡ false = All-contains (λ y. p y ≡ false) xs x ((find_none p xs).0 e) inside in
          let never : true ≡ false = sym passes ∙ fails in
          absurd cc
      | Some y ↦ λ e. let f = found_is p xs y e in ap Some (only y f.1 f.0)
    ] refl

-- what the test of a network's address means
near_iff : (c : Config) (own b : Network) → Decides (same_name b.name own.name || are_related c own b) ((b.name ≡ own.name) ⊎ AreRelated c own b)
near_iff c own b = Decides-or (same_name b.name own.name) (are_related c own b) (same_name_iff b.name own.name) (related_iff c own b)

towards_iff : (c : Config) (own b : Network) (address : ℕ)
    → Decides ((same_name b.name own.name || are_related c own b) && holds_address b address) (((b.name ≡ own.name) ⊎ AreRelated c own b) × Any (λ s. IsTrue (contains s address)) b.subnets)
towards_iff c own b address = Decides-and (same_name b.name own.name || are_related c own b) (holds_address b address) (near_iff c own b) (holds_iff b address)

around : (c : Config) (own b : Network) → (b.name ≡ own.name) ⊎ AreRelated c own b → IsAround c own b
around c own b h = elim h [ inl same ↦ inl same | inr related ↦ inr ((related_iff c own b).1 related) ]

-- what a search for an address' network finds is towards it
pub towards_of : (c : Config) (own b : Network) (address : ℕ) → network_towards c own address ≡ Some b → IsTowards c own b address
towards_of c own b address e =
    let f = found_is (λ (x : Network). (same_name x.name own.name || are_related c own x) && holds_address x address) c.networks b e in
    let is = (towards_iff c own b address).0 f.0 in
    record { stands = f.1; near = is.0; holds = is.1 }

pub towards_none : (c : Config) (own : Network) (address : ℕ) → network_towards c own address ≡ None → (b : Network) → ¬ IsTowards c own b address
towards_none c own address e b h =
    let test : Network → Bool = λ x. (same_name x.name own.name || are_related c own x) && holds_address x address in
    let fails : test b ≡ false = All-contains (λ y. test y ≡ false) c.networks b ((find_none test c.networks).0 e) h.stands in
    let never : true ≡ false = sym ((towards_iff c own b address).1 (h.near, h.holds)) ∙ fails in
    absurd cc

pub none_towards : (c : Config) (own : Network) (address : ℕ) → ((b : Network) → ¬ IsTowards c own b address) → network_towards c own address ≡ None
none_towards c own address nowhere =
    elim (network_towards c own address) as (λ o. network_towards c own address ≡ o → o ≡ None) [
      | None ↦ λ e. refl
      | Some b ↦ λ e. absurd (nowhere b (towards_of c own b address e))
    ] refl

-- a port's network exists
pub own_exists : (t : Topology) (c : Config) (q : Port) → IsValid t c → Contains c.ports q → (a : Network) × Contains c.networks a × (a.name ≡ q.network)
own_exists t c q v inside =
    let named = All-contains (λ (p : Port). Contains (network_names c) p.network × Contains (node_names t) p.node) c.ports q v.references.ports inside in
    mapped_is (λ (n : Network). n.name) c.networks q.network named.0

-- an address has one network among a network's relatives
pub target_is : (t : Topology) (c : Config) (own b : Network) (address : ℕ) → IsTrue (has_config_form c) → IsValid t c
    → Contains c.networks own → IsTowards c own b address → network_towards c own address ≡ Some b
target_is t c own b address form v inside h =
    let test = (towards_iff c own b address).1 (h.near, h.holds) in
    finds (λ (x : Network). (same_name x.name own.name || are_related c own x) && holds_address x address) c.networks b h.stands test
    (λ y in_y passes.
    let is = (towards_iff c own y address).0 passes in
    one_network t c own y b address form v inside in_y h.stands (around c own y is.0) (around c own b h.near) ((holds_iff y address).1 is.1) ((holds_iff b address).1 h.holds))
