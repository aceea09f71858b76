-- In a valid configuration the rows of an instance's table are exactly those that it asks for.
use Rattle.std.proofs.Common.{◌≡◌, ◌↔◌, ◌⊎◌, inl, inr, ◌&&◌, ◌==◌, ◌+◌, ℕ, Bool, true, false, IsTrue, List, ◌++◌, Option, Some, None, option_map, refl, sym, ap, ◌∙◌, subst, arith}
use Rattle.std.specs.Prelude.{nat_eq, option_and_then, flat_map}
use Rattle.std.specs.List.{Any, Contains, filter_map}
use Rattle.std.proofs.lemmas.Bool.{and_parts, and_from, eqb-true, eq-eqb}
use Rattle.std.proofs.lemmas.List.Elements.{Contains-append_left, Contains-append_right, Contains-append_cases}
use Rattle.std.proofs.lemmas.List.Folds.{Any-from_list_any, list_any-from_Any}
use Rattle.ov_types.specs.First.{same_name}
use Rattle.ov_types.specs.Prefix.{Block, contains, host_prefix}
use Rattle.ov_types.specs.declared.numbers.InstanceId.{InstanceId}
use Rattle.ov_types.proofs.FirstLemmas.{found_is, same_name_iff, any_of}
use Rattle.node_model.specs.RouteTargets.Numbers.{circuit_address_of, circuit_instance_of, hop_instance_of}
use Rattle.acl_compile.specs.ConfigTypes.Config.{Config}
use Rattle.acl_compile.specs.ConfigTypes.Network.{Network}
use Rattle.acl_compile.specs.ConfigTypes.Port.{Port}
use Rattle.acl_compile.specs.ConfigTypes.Node.{Node}
use Rattle.acl_compile.specs.ConfigTypes.Topology.{Topology}
use Rattle.acl_compile.specs.PolicyRules.Related.{imports}
use Rattle.acl_compile.specs.PolicyRules.Standing.{PassesBetween}
use Rattle.acl_compile.proofs.PolicyRules.Relations.{imports_iff}
use Rattle.acl_compile.specs.ConfigCheck.Finding.{network_named, network_numbered, node_named}
use Rattle.acl_compile.specs.ConfigCheck.Sentences.{IsValid}
use Rattle.acl_compile.proofs.ConfigCheck.Finders.{finds_network_named, finds_network_numbered, finds_node_named}
use Rattle.transform_model.specs.IsRow.{IsRow, to_port, to_left_circuit, to_right_circuit, to_right_subnet, to_left_subnet, at_left_end, at_right_end, IsPort, IsCircuitAt, HoldsPort}
use Rattle.transform_model.specs.IsUse.{IsUse, IsLeftCircuit, IsRightCircuit}
use Rattle.transform_model.specs.Tables.{Row, host_route, row_if, port_row, network_rows, rows_of, circuit_route, row_towards, circuits_in, circuit_row, holds_port, held_subnets, subnet_rows, end_row, end_rows, hop_rows, instance_table}
use Rattle.transform_model.specs.Uses.{ConfiguredUse, Circuit, uses, first_hop, last_hop, left_circuits, right_circuits}
use Rattle.transform_model.proofs.Circuits.{left_is, is_left, right_is, is_right, left_instance, right_instance}
use Rattle.transform_model.proofs.InUse.{named, use_is, is_use}
use Rattle.acl_compile.proofs.PolicyRules.Lists.{joined_is, is_joined, kept_is, is_kept}
use Rattle.transform_model.proofs.Lists.{given, gives, there_if, is_there, mapped_some}

-- ---- nodes

pub node_is : (t : Topology) (name : List ℕ) (d : Node) → node_named t name ≡ Some d → (d.name ≡ name) × Contains t.nodes d
node_is t name d h =
    let f = found_is (λ (x : Node). same_name x.name name) t.nodes d h in
    ((same_name_iff d.name name).0 f.0, f.1)

pub is_node : (t : Topology) (c : Config) (name : List ℕ) (d : Node) → IsValid t c → Contains t.nodes d → d.name ≡ name → node_named t name ≡ Some d
is_node t c name d v within is = ((finds_node_named t c name v).some d).1 (within, is)

pub same_instance : (i j : InstanceId) → IsTrue (i.0 == j.0) → i ≡ j
same_instance i j h = λ k. record { 0 = eqb-true i.0 j.0 h k }

-- ---- routes to ports

-- where the row of a port comes from
pub record FromPort (t : Topology) (i : InstanceId) (b : Network) (p : Port) (asked : Bool) (r : Row) : Type 0 where
  pub node : Node
  pub placed : node_named t p.node ≡ Some node
  pub asks : IsTrue asked
  pub route : r ≡ host_route i b node p

routed : (t : Topology) (i : InstanceId) (b : Network) (p : Port) (r : Row) (asked : Bool) (o : Option Node) → node_named t p.node ≡ o
    → row_if asked i b p o ≡ Some r → FromPort t i b p asked r
routed t i b p r false o e h = cc
routed t i b p r true None e h = cc
routed t i b p r true (Some d) e h = record { node = d; placed = e; asks = refl; route = cc }

pub from_port : (t : Topology) (i : InstanceId) (b : Network) (p : Port) (r : Row) (asked : Bool) → row_if asked i b p (node_named t p.node) ≡ Some r
    → FromPort t i b p asked r
from_port t i b p r asked h = routed t i b p r asked (node_named t p.node) refl h

to_route : (i : InstanceId) (b : Network) (p : Port) (d : Node) (asked : Bool) → IsTrue asked → row_if asked i b p (Some d) ≡ Some (host_route i b d p)
to_route i b p d true h = refl
to_route i b p d false h = cc

pub to_port_row : (t : Topology) (i : InstanceId) (b : Network) (p : Port) (d : Node) (asked : Bool) → IsTrue asked → node_named t p.node ≡ Some d
    → row_if asked i b p (node_named t p.node) ≡ Some (host_route i b d p)
to_port_row t i b p d asked h e = ap (λ (o : Option Node). row_if asked i b p o) e ∙ to_route i b p d asked h

-- ---- the instance of a network

-- where a row of a network's instance comes from
pub record FromNetwork (t : Topology) (c : Config) (n : Network) (p : Port) (r : Row) : Type 0 where
  pub home : Network
  pub is : network_named c p.network ≡ Some home
  pub from : FromPort t n.id home p (imports c n home) r

comes : (t : Topology) (c : Config) (n : Network) (p : Port) (r : Row) (o : Option Network) → network_named c p.network ≡ o
    → option_and_then (λ b. row_if (imports c n b) n.id b p (node_named t p.node)) o ≡ Some r → FromNetwork t c n p r
comes t c n p r None e h = cc
comes t c n p r (Some b) e h = record { home = b; is = e; from = from_port t n.id b p r (imports c n b) h }

pub from_network : (t : Topology) (c : Config) (n : Network) (p : Port) (r : Row) → port_row t c n p ≡ Some r → FromNetwork t c n p r
from_network t c n p r h = comes t c n p r (network_named c p.network) refl h

is_port : (t : Topology) (c : Config) (home : Network) (p : Port) (d : Node) → Contains c.ports p → Contains c.networks home
    → home.name ≡ p.network → node_named t p.node ≡ Some d → IsPort t c home p d
is_port t c home p d in_p in_n of placed =
    let node = node_is t p.node d placed in
    record { has_home = in_n; has_port = in_p; has_node = node.1; home_of = sym of; node_of = node.0 }

network_row : (t : Topology) (c : Config) (i : InstanceId) (r : Row) (o : Option Network) → network_numbered c i.0 ≡ o
    → Contains (rows_of t c o) r → IsRow t c i r
unfolding network_rows
network_row t c i r None e h = absurd (omega (arith, h.1))
network_row t c i r (Some n) e h =
    let f = found_is (λ (m : Network). nat_eq m.id.0 i.0) c.networks n e in
    let g = given (port_row t c n) c.ports r h in
    let q = from_network t c n g.0 r g.2 in
    let home = named c g.0.network q.home q.is in
    let number : n.id ≡ i = same_instance n.id i f.0 in
    to_port n q.home g.0 q.from.node f.1 (is_port t c q.home g.0 q.from.node g.1 home.1 home.0 q.from.placed) ((imports_iff c n q.home).0 q.from.asks)
    (sym number) (q.from.route ∙ ap (λ (k : InstanceId). host_route k q.home q.from.node g.0) number)

numbered : (t : Topology) (c : Config) (i : InstanceId) (n : Network) → IsValid t c → Contains c.networks n → i ≡ n.id → network_numbered c i.0 ≡ Some n
numbered t c i n v within is =
    ((finds_network_numbered t c i.0 v).some n).1 (within, ap (λ (k : InstanceId). k.0) (sym is))

row_of_port : (t : Topology) (c : Config) (n home : Network) (p : Port) (d : Node) → IsValid t c → IsPort t c home p d
    → (n.name ≡ home.name) ⊎ PassesBetween c n home → port_row t c n p ≡ Some (host_route n.id home d p)
row_of_port t c n home p d v at imported =
    let found : network_named c p.network ≡ Some home = ((finds_network_named t c p.network v).some home).1 (at.has_home, sym at.home_of) in
    ap (λ (o : Option Network). option_and_then (λ b. row_if (imports c n b) n.id b p (node_named t p.node)) o) found
    ∙ to_port_row t n.id home p d (imports c n home) ((imports_iff c n home).1 imported) (is_node t c p.node d v at.has_node at.node_of)

in_network : (t : Topology) (c : Config) (n home : Network) (p : Port) (d : Node) → IsValid t c → IsPort t c home p d
    → (n.name ≡ home.name) ⊎ PassesBetween c n home → Contains (network_rows t c n) (host_route n.id home d p)
unfolding network_rows
in_network t c n home p d v at imported =
    gives (port_row t c n) c.ports p (host_route n.id home d p) at.has_port (row_of_port t c n home p d v at imported)

-- ---- the instance of a hop

-- a row towards a circuit
pub record Towards (t : Topology) (i : InstanceId) (k : Circuit) (prefix : Block) (r : Row) : Type 0 where
  pub node : Node
  pub at : IsCircuitAt t k node
  pub route : r ≡ circuit_route i prefix k node

pub towards : (t : Topology) (i : InstanceId) (k : Circuit) (prefix : Block) (r : Row) → row_towards t i k prefix ≡ Some r → Towards t i k prefix r
towards t i k prefix r h =
    let m = mapped_some (circuit_route i prefix k) (node_named t k.service.node) r h in
    let node = node_is t k.service.node m.0 m.1 in
    record { node = m.0; at = record { has_node = node.1; node_of = node.0 }; route = sym m.2 }

to_circuit : (t : Topology) (c : Config) (i : InstanceId) (k : Circuit) (prefix : Block) (d : Node) → IsValid t c → IsCircuitAt t k d
    → row_towards t i k prefix ≡ Some (circuit_route i prefix k d)
to_circuit t c i k prefix d v at =
    ap (λ (o : Option Node). option_map (circuit_route i prefix k) o) (is_node t c k.service.node d v at.has_node at.node_of)

-- a left circuit in an instance, and a right one
pub record LeftIn (u : ConfiguredUse) (i : InstanceId) (k : Circuit) : Type 0 where
  pub place : ℕ
  pub is : IsLeftCircuit u place k
  pub at : i ≡ hop_instance_of u.number place

pub record RightIn (u : ConfiguredUse) (i : InstanceId) (k : Circuit) : Type 0 where
  pub place : ℕ
  pub is : IsRightCircuit u place k
  pub at : i ≡ hop_instance_of u.number (place + 1)

left_here : (u : ConfiguredUse) (i : InstanceId) (k : Circuit) → Contains (left_circuits u) k → IsTrue ((circuit_instance_of k.number).0 == i.0) → LeftIn u i k
left_here u i k inside here =
    let q = left_is u k inside in
    record { place = q.0; is = q.1; at = sym (same_instance (circuit_instance_of k.number) i here) ∙ left_instance u q.0 k q.1 }

right_here : (u : ConfiguredUse) (i : InstanceId) (k : Circuit) → Contains (right_circuits u) k → IsTrue ((circuit_instance_of k.number).0 == i.0) → RightIn u i k
right_here u i k inside here =
    let q = right_is u k inside in
    record { place = q.0; is = q.1; at = sym (same_instance (circuit_instance_of k.number) i here) ∙ right_instance u q.0 k q.1 }

abbrev pub is_in : InstanceId → Circuit → Bool
is_in i k = (circuit_instance_of k.number).0 == i.0

pub left_in : (u : ConfiguredUse) (i : InstanceId) (k : Circuit) → Contains (circuits_in i (left_circuits u)) k → LeftIn u i k
left_in u i k h = let q = kept_is (is_in i) (left_circuits u) k h in left_here u i k q.0 q.1

pub right_in : (u : ConfiguredUse) (i : InstanceId) (k : Circuit) → Contains (circuits_in i (right_circuits u)) k → RightIn u i k
right_in u i k h = let q = kept_is (is_in i) (right_circuits u) k h in right_here u i k q.0 q.1

pub either_in : (u : ConfiguredUse) (i : InstanceId) (k : Circuit) → Contains (circuits_in i (left_circuits u ++ right_circuits u)) k → LeftIn u i k ⊎ RightIn u i k
either_in u i k h =
    let q = kept_is (is_in i) (left_circuits u ++ right_circuits u) k h in
    elim (Contains-append_cases (left_circuits u) (right_circuits u) k q.0) [
      | inl left ↦ inl (left_here u i k left q.1)
      | inr right ↦ inr (right_here u i k right q.1)
    ]

-- it is in its instance
here_left : (u : ConfiguredUse) (i : InstanceId) (k : Circuit) → LeftIn u i k → is_in i k ≡ true
here_left u i k h = eq-eqb (circuit_instance_of k.number).0 i.0 (ap (λ (j : InstanceId). j.0) (left_instance u h.place k h.is ∙ sym h.at))

here_right : (u : ConfiguredUse) (i : InstanceId) (k : Circuit) → RightIn u i k → is_in i k ≡ true
here_right u i k h = eq-eqb (circuit_instance_of k.number).0 i.0 (ap (λ (j : InstanceId). j.0) (right_instance u h.place k h.is ∙ sym h.at))

in_left : (u : ConfiguredUse) (i : InstanceId) (k : Circuit) → LeftIn u i k → Contains (circuits_in i (left_circuits u)) k
in_left u i k h = is_kept (is_in i) (left_circuits u) k (is_left u h.place k h.is) (here_left u i k h)

in_right : (u : ConfiguredUse) (i : InstanceId) (k : Circuit) → RightIn u i k → Contains (circuits_in i (right_circuits u)) k
in_right u i k h = is_kept (is_in i) (right_circuits u) k (is_right u h.place k h.is) (here_right u i k h)

in_either : (u : ConfiguredUse) (i : InstanceId) (k : Circuit) → LeftIn u i k ⊎ RightIn u i k → Contains (circuits_in i (left_circuits u ++ right_circuits u)) k
in_either u i k h =
    let both = left_circuits u ++ right_circuits u in
    elim h [
      | inl left ↦ is_kept (is_in i) both k (Contains-append_left (left_circuits u) (right_circuits u) k (is_left u left.place k left.is)) (here_left u i k left)
      | inr right ↦ is_kept (is_in i) both k (Contains-append_right (left_circuits u) (right_circuits u) k (is_right u right.place k right.is)) (here_right u i k right)
    ]

-- subnets that hold a port
abbrev holds : Network → Block → Port → Bool
holds n prefix p = same_name p.network n.name && contains prefix p.address.0

pub held_is : (c : Config) (n : Network) (prefix : Block) → Contains (held_subnets c n) prefix → HoldsPort c n prefix
held_is c n prefix h =
    let q = kept_is (holds_port c n) n.subnets prefix h in
    let some : Any (λ (p : Port). holds n prefix p ≡ true) c.ports = Any-from_list_any (holds n prefix) c.ports q.1 in
    let both = and_parts (same_name some.1.network n.name) (contains prefix some.1.address.0) some.4 in
    record { port = some.1; has_subnet = q.0; has_port = (some.0, some.2, some.3); home_of = (same_name_iff some.1.network n.name).0 both.0; holds = both.1 }

is_held : (c : Config) (n : Network) (prefix : Block) → HoldsPort c n prefix → Contains (held_subnets c n) prefix
is_held c n prefix h =
    let p : Port = h.port in
    let test : holds n prefix p ≡ true = and_from (same_name p.network n.name) (contains prefix p.address.0) ((same_name_iff p.network n.name).1 h.home_of) h.holds in
    is_kept (holds_port c n) n.subnets prefix h.has_subnet
    (list_any-from_Any (holds n prefix) c.ports (any_of (λ (p : Port). holds n prefix p ≡ true) c.ports p h.has_port test))

-- ---- its rows

abbrev pub circuit_part : Topology → InstanceId → ConfiguredUse → List Row
circuit_part t i u = filter_map (circuit_row t i) (circuits_in i (left_circuits u ++ right_circuits u))

abbrev pub right_part : Topology → Config → InstanceId → ConfiguredUse → List Row
right_part t c i u = flat_map (subnet_rows t c i u.right) (circuits_in i (left_circuits u))

abbrev pub left_part : Topology → Config → InstanceId → ConfiguredUse → List Row
left_part t c i u = flat_map (subnet_rows t c i u.left) (circuits_in i (right_circuits u))

abbrev pub first_part : Topology → Config → InstanceId → ConfiguredUse → List Row
first_part t c i u = end_rows t c i (first_hop u) u.left

abbrev pub last_part : Topology → Config → InstanceId → ConfiguredUse → List Row
last_part t c i u = end_rows t c i (last_hop u) u.right

-- a row that leads to an end of a chain
pub record AtEnd (t : Topology) (c : Config) (i end : InstanceId) (n : Network) (r : Row) : Type 0 where
  pub at : i ≡ end
  pub port : Port
  pub node : Node
  pub has_port : Contains c.ports port
  pub home_of : port.network ≡ n.name
  pub placed : node_named t port.node ≡ Some node
  pub route : r ≡ host_route i n node port

pub at_end : (t : Topology) (c : Config) (i end : InstanceId) (n : Network) (r : Row) → Contains (end_rows t c i end n) r → AtEnd t c i end n r
at_end t c i end n r h =
    let q = there_if (i.0 == end.0) (filter_map (end_row t i n) c.ports) r h in
    let g = given (end_row t i n) c.ports r q.1 in
    let f = from_port t i n g.0 r (same_name g.0.network n.name) g.2 in
    record {
      at = same_instance i end q.0;
      port = g.0;
      node = f.node;
      has_port = g.1;
      home_of = (same_name_iff g.0.network n.name).0 f.asks;
      placed = f.placed;
      route = f.route;
    }

end_port : (t : Topology) (c : Config) (i end : InstanceId) (n : Network) (r : Row) → Contains c.networks n → (h : AtEnd t c i end n r) → IsPort t c n h.port h.node
end_port t c i end n r in_n h = is_port t c n h.port h.node h.has_port in_n (sym h.home_of) h.placed

to_end : (t : Topology) (c : Config) (i end : InstanceId) (n : Network) (p : Port) (d : Node) → IsValid t c → IsPort t c n p d → i ≡ end
    → Contains (end_rows t c i end n) (host_route i n d p)
to_end t c i end n p d v at is =
    is_there (i.0 == end.0) (filter_map (end_row t i n) c.ports) (host_route i n d p) (eq-eqb i.0 end.0 (ap (λ (k : InstanceId). k.0) is))
    (gives (end_row t i n) c.ports p (host_route i n d p) at.has_port
    (to_port_row t i n p d (same_name p.network n.name) ((same_name_iff p.network n.name).1 at.home_of) (is_node t c p.node d v at.has_node at.node_of)))

pub record TowardsSubnet (t : Topology) (c : Config) (i : InstanceId) (n : Network) (ks : List Circuit) (r : Row) : Type 0 where
  pub circuit : Circuit
  pub there : Contains ks circuit
  pub prefix : Block
  pub held : HoldsPort c n prefix
  pub towards : Towards t i circuit prefix r

pub towards_subnet : (t : Topology) (c : Config) (i : InstanceId) (n : Network) (ks : List Circuit) (r : Row)
    → Contains (flat_map (subnet_rows t c i n) ks) r → TowardsSubnet t c i n ks r
towards_subnet t c i n ks r h =
    let k = joined_is (subnet_rows t c i n) ks r h in
    let g = given (row_towards t i k.0) (held_subnets c n) r k.2 in
    record { circuit = k.0; there = k.1; prefix = g.0; held = held_is c n g.0 g.1; towards = towards t i k.0 g.0 r g.2 }

to_subnet : (t : Topology) (c : Config) (i : InstanceId) (n : Network) (ks : List Circuit) (k : Circuit) (prefix : Block) (d : Node) → IsValid t c
    → Contains ks k → HoldsPort c n prefix → IsCircuitAt t k d → Contains (flat_map (subnet_rows t c i n) ks) (circuit_route i prefix k d)
to_subnet t c i n ks k prefix d v in_k held at =
    is_joined (subnet_rows t c i n) ks k (circuit_route i prefix k d) in_k
    (gives (row_towards t i k) (held_subnets c n) prefix (circuit_route i prefix k d) (is_held c n prefix held) (to_circuit t c i k prefix d v at))

circuit_is : (t : Topology) (c : Config) (i : InstanceId) (u : ConfiguredUse) (r : Row) → IsUse c u → Contains (circuit_part t i u) r → IsRow t c i r
circuit_is t c i u r used h =
    let g = given (circuit_row t i) (circuits_in i (left_circuits u ++ right_circuits u)) r h in
    let k : Circuit = g.0 in
    let to = towards t i k (host_prefix (circuit_address_of k.number).0) r g.2 in
    elim (either_in u i k g.1) [
      | inl left ↦ to_left_circuit u left.place k to.node used left.is to.at left.at to.route
      | inr right ↦ to_right_circuit u right.place k to.node used right.is to.at right.at to.route
    ]

right_subnet_is : (t : Topology) (c : Config) (i : InstanceId) (u : ConfiguredUse) (r : Row) → IsUse c u → Contains (right_part t c i u) r → IsRow t c i r
right_subnet_is t c i u r used h =
    let q = towards_subnet t c i u.right (circuits_in i (left_circuits u)) r h in
    let left = left_in u i q.circuit q.there in
    to_right_subnet u left.place q.circuit q.towards.node q.prefix used left.is q.towards.at q.held left.at q.towards.route

left_subnet_is : (t : Topology) (c : Config) (i : InstanceId) (u : ConfiguredUse) (r : Row) → IsUse c u → Contains (left_part t c i u) r → IsRow t c i r
left_subnet_is t c i u r used h =
    let q = towards_subnet t c i u.left (circuits_in i (right_circuits u)) r h in
    let right = right_in u i q.circuit q.there in
    to_left_subnet u right.place q.circuit q.towards.node q.prefix used right.is q.towards.at q.held right.at q.towards.route

first_is : (t : Topology) (c : Config) (i : InstanceId) (u : ConfiguredUse) (r : Row) → IsUse c u → Contains (first_part t c i u) r → IsRow t c i r
first_is t c i u r used h =
    let e = at_end t c i (first_hop u) u.left r h in
    at_left_end u e.port e.node used (end_port t c i (first_hop u) u.left r used.has_left e) e.at e.route

last_is : (t : Topology) (c : Config) (i : InstanceId) (u : ConfiguredUse) (r : Row) → IsUse c u → Contains (last_part t c i u) r → IsRow t c i r
last_is t c i u r used h =
    let e = at_end t c i (last_hop u) u.right r h in
    at_right_end u e.port e.node used (end_port t c i (last_hop u) u.right r used.has_right e) e.at e.route

hop_row : (t : Topology) (c : Config) (i : InstanceId) (u : ConfiguredUse) (r : Row) → IsUse c u → Contains (hop_rows t c i u) r → IsRow t c i r
hop_row t c i u r used h =
    let ends = first_part t c i u ++ last_part t c i u in
    elim (Contains-append_cases (circuit_part t i u) (right_part t c i u ++ (left_part t c i u ++ ends)) r h) [
      | inl a ↦ circuit_is t c i u r used a
      | inr more ↦ elim (Contains-append_cases (right_part t c i u) (left_part t c i u ++ ends) r more) [
        | inl b ↦ right_subnet_is t c i u r used b
        | inr most ↦ elim (Contains-append_cases (left_part t c i u) ends r most) [
          | inl d ↦ left_subnet_is t c i u r used d
          | inr last ↦ elim (Contains-append_cases (first_part t c i u) (last_part t c i u) r last) [
            | inl e ↦ first_is t c i u r used e
            | inr f ↦ last_is t c i u r used f
          ]
        ]
      ]
    ]

-- ---- an instance's table

pub row_is : (t : Topology) (c : Config) (i : InstanceId) (r : Row) → Contains (instance_table t c i) r → IsRow t c i r
row_is t c i r h =
    elim (Contains-append_cases (rows_of t c (network_numbered c i.0)) (flat_map (hop_rows t c i) (uses c)) r h) [
      | inl network ↦ network_row t c i r (network_numbered c i.0) refl network
      | inr hop ↦ let q = joined_is (hop_rows t c i) (uses c) r hop in hop_row t c i q.0 r (use_is c q.0 q.1) q.2
    ]

module _ (t : Topology) (c : Config) (i : InstanceId) (v : IsValid t c) where
  of_hop : (u : ConfiguredUse) (r : Row) → IsUse c u → Contains (hop_rows t c i u) r → Contains (instance_table t c i) r
  of_hop u r used h =
      Contains-append_right (rows_of t c (network_numbered c i.0)) (flat_map (hop_rows t c i) (uses c)) r
      (is_joined (hop_rows t c i) (uses c) u r (is_use t c u v used) h)

  abbrev after_circuits : ConfiguredUse → List Row
  after_circuits u = right_part t c i u ++ (left_part t c i u ++ (first_part t c i u ++ last_part t c i u))

  abbrev after_right : ConfiguredUse → List Row
  after_right u = left_part t c i u ++ (first_part t c i u ++ last_part t c i u)

  in_circuits : (u : ConfiguredUse) (r : Row) → IsUse c u → Contains (circuit_part t i u) r → Contains (instance_table t c i) r
  in_circuits u r used h = of_hop u r used (Contains-append_left (circuit_part t i u) (after_circuits u) r h)

  in_right_part : (u : ConfiguredUse) (r : Row) → IsUse c u → Contains (right_part t c i u) r → Contains (instance_table t c i) r
  in_right_part u r used h =
      of_hop u r used (Contains-append_right (circuit_part t i u) (after_circuits u) r (Contains-append_left (right_part t c i u) (after_right u) r h))

  in_after_right : (u : ConfiguredUse) (r : Row) → IsUse c u → Contains (after_right u) r → Contains (instance_table t c i) r
  in_after_right u r used h =
      of_hop u r used (Contains-append_right (circuit_part t i u) (after_circuits u) r (Contains-append_right (right_part t c i u) (after_right u) r h))

  in_left_part : (u : ConfiguredUse) (r : Row) → IsUse c u → Contains (left_part t c i u) r → Contains (instance_table t c i) r
  in_left_part u r used h = in_after_right u r used (Contains-append_left (left_part t c i u) (first_part t c i u ++ last_part t c i u) r h)

  in_ends : (u : ConfiguredUse) (r : Row) → IsUse c u → Contains (first_part t c i u ++ last_part t c i u) r → Contains (instance_table t c i) r
  in_ends u r used h = in_after_right u r used (Contains-append_right (left_part t c i u) (first_part t c i u ++ last_part t c i u) r h)

  to_host : (u : ConfiguredUse) (k : Circuit) (d : Node) → LeftIn u i k ⊎ RightIn u i k → IsCircuitAt t k d
      → Contains (circuit_part t i u) (circuit_route i (host_prefix (circuit_address_of k.number).0) k d)
  to_host u k d side at =
      let prefix : Block = host_prefix (circuit_address_of k.number).0 in
      gives (circuit_row t i) (circuits_in i (left_circuits u ++ right_circuits u)) k (circuit_route i prefix k d) (in_either u i k side)
      (to_circuit t c i k prefix d v at)

  pub is_row : (r : Row) → IsRow t c i r → Contains (instance_table t c i) r
  is_row r (to_port n home p d in_n at imported is route) =
      let table : List Row = rows_of t c (network_numbered c i.0) in
      let here : host_route n.id home d p ≡ r = ap (λ (k : InstanceId). host_route k home d p) (sym is) ∙ sym route in
      let rows : rows_of t c (network_numbered c i.0) ≡ network_rows t c n = ap (λ (o : Option Network). rows_of t c o) (numbered t c i n v in_n is) in
      Contains-append_left table (flat_map (hop_rows t c i) (uses c)) r
      (subst (λ (rs : List Row). Contains rs r) (sym rows) (subst (Contains (network_rows t c n)) here (in_network t c n home p d v at imported)))
  is_row r (to_left_circuit u j k d used left at is route) =
      in_circuits u r used (subst (Contains (circuit_part t i u)) (sym route) (to_host u k d (inl (record { place = j; is = left; at = is })) at))
  is_row r (to_right_circuit u j k d used right at is route) =
      in_circuits u r used (subst (Contains (circuit_part t i u)) (sym route) (to_host u k d (inr (record { place = j; is = right; at = is })) at))
  is_row r (to_right_subnet u j k d prefix used left at held is route) =
      in_right_part u r used
      (subst (Contains (right_part t c i u)) (sym route)
      (to_subnet t c i u.right (circuits_in i (left_circuits u)) k prefix d v (in_left u i k (record { place = j; is = left; at = is })) held at))
  is_row r (to_left_subnet u j k d prefix used right at held is route) =
      in_left_part u r used
      (subst (Contains (left_part t c i u)) (sym route)
      (to_subnet t c i u.left (circuits_in i (right_circuits u)) k prefix d v (in_right u i k (record { place = j; is = right; at = is })) held at))
  is_row r (at_left_end u p d used at is route) =
      in_ends u r used
      (Contains-append_left (first_part t c i u) (last_part t c i u) r
      (subst (Contains (first_part t c i u)) (sym route) (to_end t c i (first_hop u) u.left p d v at is)))
  is_row r (at_right_end u p d used at is route) =
      in_ends u r used
      (Contains-append_right (first_part t c i u) (last_part t c i u) r
      (subst (Contains (last_part t c i u)) (sym route) (to_end t c i (last_hop u) u.right p d v at is)))

pub rows_iff : (t : Topology) (c : Config) (i : InstanceId) (r : Row) → IsValid t c → Contains (instance_table t c i) r ↔ IsRow t c i r
rows_iff t c i r v = (row_is t c i r, is_row t c i v r)
