-- What a valid topology of the written form gives.
use Rattle.std.proofs.Common.{◌≡◌, ◌≢◌, ◌<◌, ◌≤◌, ℕ, true, IsTrue, None, length, get_or, ◌&&◌, nat_le, arith}
use Rattle.std.proofs.lemmas.Bool.{and_parts, leb-true}
use Rattle.std.specs.List.{list_all}
use Rattle.ov_types.specs.Name.{is_name}
use Rattle.ov_types.specs.declared.rows.NodeId.{NodeId}
use Rattle.config_types.specs.Form.{has_controller_form, has_node_form, has_topology_form, is_as_number, is_from_to, is_node_address, is_node_name}
use Rattle.config_types.specs.declared.config.Config.{Config}
use Rattle.config_types.specs.declared.topology.Node.{Node}
use Rattle.config_types.specs.declared.topology.Topology.{Topology}
use Rattle.config_check.specs.Rules.{first_broken}
use Rattle.config_check.proofs.Iffs.{list_all_true}
use Rattle.config_check.proofs.Validity.{valid_iff}
use Rattle.running_nodes.specs.Fresh.{IsSetUp}

record Forms (t : Topology) : Type 0 where
  controllers : list_all has_controller_form t.controllers ≡ true
  some : nat_le 1 (length t.controllers) ≡ true
  nodes : list_all has_node_form t.nodes ≡ true

forms : (t : Topology) → IsTrue (has_topology_form t) → Forms t
unfolding has_topology_form
forms t h =
    let a = is_as_number t.asn in
    let b = list_all has_controller_form t.controllers in
    let c = nat_le 1 (length t.controllers) in
    let d = list_all has_node_form t.nodes in
    let abcd = (and_parts (a && b && c && d) (nat_le 1 (length t.nodes)) h).0 in
    let abc = and_parts (a && b && c) d abcd in
    let ab = and_parts (a && b) c abc.0 in
    let first = and_parts a b ab.0 in
    record { controllers = first.1; some = ab.1; nodes = abc.1 }

-- there is a control node
pub some_control : (t : Topology) → IsTrue (has_topology_form t) → 0 < length t.controllers
some_control t form = leb-true 1 (length t.controllers) (forms t form).some

within : (low high n : ℕ) → is_from_to low high n ≡ true → (low ≤ n) × (n ≤ high)
within low high n h =
    let parts = and_parts (nat_le low n) (nat_le n high) h in
    (leb-true low n parts.0, leb-true n high parts.1)

address : (n : NodeId) → has_controller_form n ≡ true → n.address.0 ≢ 0
unfolding has_controller_form
address n h zero =
    let low = (within 0x0100_0000 0xdfff_ffff n.address.0 (and_parts (is_node_name n.name) (is_node_address n.address.0) h).1).0 in
    absurd (omega arith)

few : (n : Node) → has_node_form n ≡ true → length n.controllers ≤ 2
unfolding has_node_form
few n h =
    (within 1 2 (length n.controllers) (and_parts (is_node_name n.name && is_node_address n.address.0 && list_all is_name n.controllers) (is_from_to 1 2 (length n.controllers)) h).1).1

pub set_up : (t : Topology) (c : Config) → IsTrue (has_topology_form t) → first_broken t c ≡ None → IsSetUp t
set_up t c form none =
    let f = forms t form in
    let valid = (valid_iff t c).0 none in
    record {
      addresses = λ k d lt. address (get_or t.controllers k d) ((list_all_true has_controller_form t.controllers).0 f.controllers k d lt);
      controllers = valid.limits.controllers;
      nodes = valid.limits.nodes;
      listed = valid.references.controllers;
      few = λ k d lt. few (get_or t.nodes k d) ((list_all_true has_node_form t.nodes).0 f.nodes k d lt);
    }
