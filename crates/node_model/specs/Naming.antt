-- How nodes are named.
use Rattle.std.specs.Prelude.{ℕ, List, [], ◌∷◌}
use Rattle.ov_types.specs.declared.rows.NodeId.{NodeId}

-- the configuration node's name: config
abbrev pub config : List ℕ
config = 99 ∷ 111 ∷ 110 ∷ 102 ∷ 105 ∷ 103 ∷ []

-- what stands past the end of a list of nodes
abbrev pub no_node : NodeId
no_node = record { name = []; address = record { 0 = 0 } }
