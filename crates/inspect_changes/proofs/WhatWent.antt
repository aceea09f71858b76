-- What a configuration has and another has not, and packets of which no line tells that.
use Rattle.std.proofs.Common.{◌≡◌, inl, inr, ℕ, ◌&&◌, not, eqb, Bool, true, false, IsTrue, List, ◌++◌, flat_map, map, None, refl, sym, ap, ◌∙◌}
use Rattle.std.specs.List.{Contains, list_any}
use Rattle.std.proofs.lemmas.Bool.{eqb-true}
use Rattle.std.proofs.lemmas.List.Elements.{Contains-append_cases, Contains-append_left, Contains-append_right}
use Rattle.std.proofs.lemmas.List.Folds.{list_any-from_Any}
use Rattle.std.proofs.lemmas.Map.Views.{Contains-from_any}
use Rattle.ov_types.specs.First.{same_name}
use Rattle.ov_types.specs.Prefix.{Block}
use Rattle.ov_types.specs.declared.numbers.PortNo.{PortNo}
use Rattle.ov_types.specs.declared.packet.Packet.{Packet}
use Rattle.ov_types.proofs.FirstLemmas.{same_name_iff}
use Rattle.config_types.specs.Form.{has_config_form}
use Rattle.config_types.specs.declared.config.Config.{Config}
use Rattle.config_types.specs.declared.config.Network.{Network}
use Rattle.config_types.specs.declared.config.Port.{Port}
use Rattle.config_types.specs.declared.topology.Topology.{Topology}
use Rattle.config_check.specs.Rules.{first_broken}
use Rattle.policy_rules.proofs.Lists.{is_kept, is_mapped, joined_is, kept_is, mapped_is}
use Rattle.inspect_changes.specs.Deliveries.{GoesBetween}
use Rattle.inspect_changes.specs.Objects.{gone, network_of, objects_of, port_of, same_block, same_object, service_of, subnet_of, subnets_of}
use Rattle.inspect_changes.specs.Unnamed.{GoesOn, IsUnnamed}
use Rattle.inspect_changes.specs.declared.objects.Object.{Object}
use Rattle.inspect_changes.specs.declared.objects.Object.TheVariants as Is
use Rattle.inspect_changes.proofs.Differing.{and_first, and_second, both_true, same_number}

-- the test of two objects

name_is : (a b : List ℕ) → same_name a b ≡ true → a ≡ b
name_is a b h = (same_name_iff a b).0 h

name_itself : (a : List ℕ) → same_name a a ≡ true
name_itself a = (same_name_iff a a).1 refl

block_is : (p q : Block) → same_block p q ≡ true → p ≡ q
block_is p q h =
    let addr = eqb-true p.addr q.addr (and_first (eqb p.addr q.addr) (eqb p.len q.len) h) in
    let len = eqb-true p.len q.len (and_second (eqb p.addr q.addr) (eqb p.len q.len) h) in
    λ i. record { addr = addr i; len = len i }

objects_are : (o u : Object) → same_object o u ≡ true → o ≡ u
objects_are (Is.Network a) (Is.Network b) h = ap Is.Network (name_is a b h)
objects_are (Is.Network a) (Is.Subnet b q) h = absurd cc
objects_are (Is.Network a) (Is.Port n b y e) h = absurd cc
objects_are (Is.Network a) (Is.Service n e) h = absurd cc
objects_are (Is.Subnet a p) (Is.Network b) h = absurd cc
objects_are (Is.Subnet a p) (Is.Subnet b q) h =
    let name = name_is a b (and_first (same_name a b) (same_block p q) h) in
    let block = block_is p q (and_second (same_name a b) (same_block p q) h) in
    λ i. Is.Subnet (name i) (block i)
objects_are (Is.Subnet a p) (Is.Port n b y e) h = absurd cc
objects_are (Is.Subnet a p) (Is.Service n e) h = absurd cc
objects_are (Is.Port m a x d) (Is.Network b) h = absurd cc
objects_are (Is.Port m a x d) (Is.Subnet b q) h = absurd cc
objects_are (Is.Port m a x d) (Is.Port n b y e) h =
    let first = and_first (eqb m.0 n.0 && same_name a b) (eqb x.0 y.0 && same_name d e) h in
    let second = and_second (eqb m.0 n.0 && same_name a b) (eqb x.0 y.0 && same_name d e) h in
    let number = eqb-true m.0 n.0 (and_first (eqb m.0 n.0) (same_name a b) first) in
    let name = name_is a b (and_second (eqb m.0 n.0) (same_name a b) first) in
    let address = eqb-true x.0 y.0 (and_first (eqb x.0 y.0) (same_name d e) second) in
    let node = name_is d e (and_second (eqb x.0 y.0) (same_name d e) second) in
    λ i. Is.Port (record { 0 = number i }) (name i) (record { 0 = address i }) (node i)
objects_are (Is.Port m a x d) (Is.Service n e) h = absurd cc
objects_are (Is.Service m d) (Is.Network b) h = absurd cc
objects_are (Is.Service m d) (Is.Subnet b q) h = absurd cc
objects_are (Is.Service m d) (Is.Port n b y e) h = absurd cc
objects_are (Is.Service m d) (Is.Service n e) h =
    let number = eqb-true m.0 n.0 (and_first (eqb m.0 n.0) (same_name d e) h) in
    let node = name_is d e (and_second (eqb m.0 n.0) (same_name d e) h) in
    λ i. Is.Service (record { 0 = number i }) (node i)

object_itself : (o : Object) → same_object o o ≡ true
object_itself (Is.Network a) = name_itself a
object_itself (Is.Subnet a p) =
    both_true (same_name a a) (same_block p p) (name_itself a) (both_true (eqb p.addr p.addr) (eqb p.len p.len) (same_number p.addr) (same_number p.len))
object_itself (Is.Port m a x d) =
    both_true (eqb m.0 m.0 && same_name a a) (eqb x.0 x.0 && same_name d d)
    (both_true (eqb m.0 m.0) (same_name a a) (same_number m.0) (name_itself a))
    (both_true (eqb x.0 x.0) (same_name d d) (same_number x.0) (name_itself d))
object_itself (Is.Service m d) = both_true (eqb m.0 m.0) (same_name d d) (same_number m.0) (name_itself d)

among_is : (o : Object) (others : List Object) → list_any (same_object o) others ≡ true → Contains others o
among_is o others h = Contains-from_any objects_are o others h

is_among : (o : Object) (others : List Object) → Contains others o → list_any (same_object o) others ≡ true
is_among o others at =
    list_any-from_Any (same_object o) others (at.0, o, at.1, at.2, object_itself o)

is_false : (b : Bool) → not b ≡ true → b ≡ false
is_false true h = absurd cc
is_false false h = refl

not_true : (b : Bool) → (b ≡ true → ⊥) → not b ≡ true
not_true true h = absurd (h refl)
not_true false h = refl

module _ (c d : Config) (o : Object) where
  abbrev alone : Object → Bool
  alone u = not (list_any (same_object u) (objects_of d))

  pub gone_is : Contains (gone c d) o → Contains (objects_of c) o × ¬ Contains (objects_of d) o
  gone_is at =
      let kept = kept_is alone (objects_of c) o at in
      (kept.0, λ there. let never : true ≡ false = sym (is_among o (objects_of d) there) ∙ is_false (list_any (same_object o) (objects_of d)) kept.1 in cc)

  pub is_gone : Contains (objects_of c) o × ¬ Contains (objects_of d) o → Contains (gone c d) o
  is_gone at =
      is_kept alone (objects_of c) o at.0 (not_true (list_any (same_object o) (objects_of d)) (λ any. at.1 (among_is o (objects_of d) any)))

  pub stays : Contains (objects_of c) o → ¬ Contains (gone c d) o → Contains (objects_of d) o
  stays at none =
      elim (list_any (same_object o) (objects_of d)) as (λ b. list_any (same_object o) (objects_of d) ≡ b → Contains (objects_of d) o) [
        | true ↦ λ e. among_is o (objects_of d) e
        | false ↦ λ e. absurd (none (is_kept alone (objects_of c) o at (ap not e)))
      ] refl

-- an object that is a port, or a network, is of one

no_subnet_is : (ns : List Network) (o : Object) → Contains (flat_map subnets_of ns) o → (a : List ℕ) × (p : Block) × (Is.Subnet a p ≡ o)
no_subnet_is ns o at =
    let found = joined_is subnets_of ns o at in
    let block = mapped_is (subnet_of found.0.name) found.0.subnets o found.2 in
    (found.0.name, block.0, block.2)

port_stands : (c : Config) (q : Port) → Contains c.ports q → Contains (objects_of c) (port_of q)
port_stands c q at =
    Contains-append_right (map network_of c.networks) (flat_map subnets_of c.networks ++ (map port_of c.ports ++ map service_of c.services)) (port_of q)
    (Contains-append_right (flat_map subnets_of c.networks) (map port_of c.ports ++ map service_of c.services) (port_of q)
    (Contains-append_left (map port_of c.ports) (map service_of c.services) (port_of q) (is_mapped port_of c.ports q at)))

network_stands : (c : Config) (n : Network) → Contains c.networks n → Contains (objects_of c) (network_of n)
network_stands c n at =
    Contains-append_left (map network_of c.networks) (flat_map subnets_of c.networks ++ (map port_of c.ports ++ map service_of c.services)) (network_of n)
    (is_mapped network_of c.networks n at)

network_is : (c : Config) (n : Network) → Contains (objects_of c) (network_of n) → (m : Network) × Contains c.networks m × (m.name ≡ n.name)
network_is c n at =
    elim (Contains-append_cases (map network_of c.networks) (flat_map subnets_of c.networks ++ (map port_of c.ports ++ map service_of c.services)) (network_of n) at) [
      | inl here ↦
          let found = mapped_is network_of c.networks (network_of n) here in
          (found.0, found.1, (let same : Is.Network found.0.name ≡ Is.Network n.name = found.2 in cc))
      | inr there ↦
          elim (Contains-append_cases (flat_map subnets_of c.networks) (map port_of c.ports ++ map service_of c.services) (network_of n) there) [
            | inl here ↦ let found = no_subnet_is c.networks (network_of n) here in let other : Is.Subnet found.0 found.1 ≡ Is.Network n.name = found.2 in absurd cc
            | inr later ↦
                elim (Contains-append_cases (map port_of c.ports) (map service_of c.services) (network_of n) later) [
                  | inl here ↦ let found = mapped_is port_of c.ports (network_of n) here in let other : port_of found.0 ≡ Is.Network n.name = found.2 in absurd cc
                  | inr here ↦ let found = mapped_is service_of c.services (network_of n) here in let other : service_of found.0 ≡ Is.Network n.name = found.2 in absurd cc
                ]
          ]
    ]

port_is : (c : Config) (q : Port) → Contains (objects_of c) (port_of q) → (u : Port) × Contains c.ports u × (port_of u ≡ port_of q)
port_is c q at =
    elim (Contains-append_cases (map network_of c.networks) (flat_map subnets_of c.networks ++ (map port_of c.ports ++ map service_of c.services)) (port_of q) at) [
      | inl here ↦ let found = mapped_is network_of c.networks (port_of q) here in let other : network_of found.0 ≡ port_of q = found.2 in absurd cc
      | inr there ↦
          elim (Contains-append_cases (flat_map subnets_of c.networks) (map port_of c.ports ++ map service_of c.services) (port_of q) there) [
            | inl here ↦ let found = no_subnet_is c.networks (port_of q) here in let other : Is.Subnet found.0 found.1 ≡ port_of q = found.2 in absurd cc
            | inr later ↦
                elim (Contains-append_cases (map port_of c.ports) (map service_of c.services) (port_of q) later) [
                  | inl here ↦ mapped_is port_of c.ports (port_of q) here
                  | inr here ↦ let found = mapped_is service_of c.services (port_of q) here in let other : service_of found.0 ≡ port_of q = found.2 in absurd cc
                ]
          ]
    ]

number_of : (q u : Port) → port_of u ≡ port_of q → u.id ≡ q.id
number_of q u e = cc

home_of : (q u : Port) → port_of u ≡ port_of q → u.network ≡ q.network
home_of q u e = cc

address_of : (q u : Port) → port_of u ≡ port_of q → u.address ≡ q.address
address_of q u e = cc

-- packets of which no line tells go between the same networks

pub goes_on : (c d : Config) (p : Packet) (a b : Network) (number : ℕ) (topology : Topology) → IsTrue (has_config_form d) → first_broken topology d ≡ None
    → GoesBetween c p a b number → IsUnnamed (gone c d) c p a b number → GoesOn d p a b number
goes_on c d p a b number topology form valid g none =
    let own = network_is d a (stays c d (network_of a) (network_stands c a g.leaves.own_stands) none.from) in
    let target = network_is d b (stays c d (network_of b) (network_stands c b g.stands) none.to) in
    let source = port_is d g.leaves.source
    (stays c d (port_of g.leaves.source) (port_stands c g.leaves.source g.leaves.source_stands) (none.source g.leaves.source g.leaves.source_stands g.leaves.source_number)) in
    let arrival = port_is d g.port (stays c d (port_of g.port) (port_stands c g.port g.port_stands) (none.destination g.port g.port_stands g.port_number)) in
    record {
      from = own.0;
      to = target.0;
      from_name = own.2;
      to_name = target.2;
      goes = record {
        topology = topology;
        form = form;
        valid = valid;
        tuple = g.tuple;
        leaves = record {
          source = source.0;
          source_stands = source.1;
          source_number = number_of g.leaves.source source.0 source.2 ∙ g.leaves.source_number;
          own_stands = own.1;
          own_name = own.2 ∙ g.leaves.own_name ∙ sym (home_of g.leaves.source source.0 source.2);
        };
        stands = target.1;
        other = λ same. g.other (sym target.2 ∙ same ∙ own.2);
        port = arrival.0;
        port_stands = arrival.1;
        port_network = home_of g.port arrival.0 arrival.2 ∙ g.port_network ∙ sym target.2;
        port_address = address_of g.port arrival.0 arrival.2 ∙ g.port_address;
        port_number = ap (λ (n : PortNo). n.0) (number_of g.port arrival.0 arrival.2) ∙ g.port_number;
      };
    }
