-- What the nodes of a network show once it is settled: each its part of what the configuration compiles to.
use Rattle.std.specs.Prelude.{◌≡◌, ◌<◌, ℕ, List, [], length}
use Rattle.ov_types.specs.declared.rows.NodeRows.{NodeRows}
use Rattle.ov_types.specs.declared.rows.NodeRows.TheVariants as Rows
use Rattle.config_check.specs.Checked.{Checked}
use Rattle.transform_model.specs.Compiled.{agent_rows}
use Rattle.transform_model.specs.Tables.{control_rows}
use Rattle.running_nodes.specs.Seats.{Who, Configuring, Controlling, Forwarding, Seat, seat}
use Rattle.running_nodes.specs.Steps.{shown_by}

-- the part of a node: of a control node the tables of all instances, of an agent the rows of its address. The
-- configuration node has none
abbrev pub compiled_for : Checked → Who → NodeRows
compiled_for x (Configuring y) = Rows.Control []
compiled_for x (Controlling c) = Rows.Control (control_rows x.topology x.config)
compiled_for x (Forwarding plan) = Rows.Agent (agent_rows x.topology x.config plan.me.address)

-- every node shows its part
abbrev pub ShowsCompiled : Checked → List Seat → Type 0
ShowsCompiled x seats = (k : ℕ) → k < length seats → shown_by (seat seats k) ≡ compiled_for x (seat seats k).who
