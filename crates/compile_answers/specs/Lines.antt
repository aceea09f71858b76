-- What `compile` writes.
use Rattle.std.specs.Prelude.{ℕ, List, [], ◌∷◌, ◌++◌}
use Rattle.ov_types.specs.declared.rows.AgentRows.{AgentRows}
use Rattle.ov_types.specs.declared.rows.NodeId.{NodeId}
use Rattle.config_types.specs.declared.topology.Node.{Node}
use Rattle.config_check.specs.Checked.{Checked}
use Rattle.report.specs.Objects.{low_lines}
use Rattle.report.specs.Rows.{control_lines, agent_lines}
use Rattle.schema_transform.specs.TransformModel.Compiled.{compiled_tables}
use Rattle.schema_transform.specs.TransformModel.Objects.{low_objects}
use Rattle.schema_transform.specs.TransformModel.Tables.{Row}
use Rattle.schema_transform.specs.TransformModel.declared_tables_Compiled.{Compiled}

-- the low-level objects
abbrev pub objects_text : Checked → List ℕ
objects_text x = low_lines (low_objects x.topology x.config)

-- the rows of each control node, in order
abbrev pub controls_text : List NodeId → List (List Row) → List ℕ
controls_text [] tables = []
controls_text (n ∷ ns) [] = []
controls_text (n ∷ ns) (rows ∷ tables) = control_lines n.name rows ++ controls_text ns tables

-- the rows of the agent of each compute node, in order
abbrev pub agents_text : List Node → List AgentRows → List ℕ
agents_text [] tables = []
agents_text (n ∷ ns) [] = []
agents_text (n ∷ ns) (rows ∷ tables) = agent_lines n.name rows ++ agents_text ns tables

-- the rows of every node: first of the control nodes, then of the agents
abbrev pub nodes_text : Checked → Compiled → List ℕ
nodes_text x tables =
    controls_text x.topology.controllers tables.controls ++ agents_text x.topology.nodes tables.agents

-- what `compile` writes of a valid configuration
unfoldable pub compile_text : Checked → List ℕ
compile_text x = objects_text x ++ nodes_text x (compiled_tables x)
