-- The written form of a topology.
use Rattle.std.specs.Prelude.{IsTrue, length, nat_le}
use Rattle.std.proofs.lemmas.Bool.{and_parts}
use Rattle.config_types.specs.declared.topology.Topology.{Topology}
use Rattle.config_types.specs.Form.{has_nodes_form, has_topology_form}

-- is the form of its nodes, and that there is a compute node
pub nodes_form : (t : Topology) → IsTrue (has_topology_form t) → IsTrue (has_nodes_form t)
unfolding has_topology_form
nodes_form t form = (and_parts (has_nodes_form t) (nat_le 1 (length t.nodes)) form).0
