-- The nodes, which are the same in each scenario.
use Rattle.std.specs.Prelude.{ℕ, List, [], ◌∷◌, ◌+◌, ◌%◌, map, codes}
use Rattle.std.specs.List.{range_with_len}
use Rattle.ov_types.specs.declared.rows.NodeId.{NodeId}
use Rattle.config_types.specs.declared.topology.Node.{Node}
use Rattle.config_types.specs.declared.topology.Topology.{Topology}
use Rattle.scenario_gen.specs.Naming.{numbered, address}

-- the control node that a count reaches which goes round the three, c1 at 0
abbrev pub controller_at : ℕ → List ℕ
controller_at count = numbered (codes "c") (1 + count % 3)

-- the compute node that a count reaches which goes round the twenty, n1 at 0
abbrev pub node_at : ℕ → List ℕ
node_at count = numbered (codes "n") (1 + count % 20)

-- control node i is c1 to c3
unfoldable pub controller : ℕ → NodeId
controller i = record { name = numbered (codes "c") i; address = address 192 0 2 i }

-- compute node i is n1 to n20, and lists two control nodes
unfoldable pub node : ℕ → Node
node i = record {
  name = numbered (codes "n") i;
  address = address 192 0 2 (10 + i);
  controllers = controller_at i ∷ controller_at (i + 1) ∷ [];
}

unfoldable pub topology : Topology
topology = record {
  asn = 64512;
  controllers = map controller (range_with_len 1 3);
  nodes = map node (range_with_len 1 20);
}
