-- The lines of the rows of nodes.
use Rattle.std.specs.Prelude.{ℕ, List, [], ◌∷◌, ◌++◌, codes, decimal, flat_map}
use Rattle.ov_types.specs.Prefix.{Block}
use Rattle.ov_types.specs.Rows.{table_row_text}
use Rattle.ov_types.specs.Texts.{address_text, prefix_text}
use Rattle.ov_types.specs.declared.numbers.InstanceId.{InstanceId}
use Rattle.ov_types.specs.declared.numbers.Label.{Label}
use Rattle.ov_types.specs.declared.objects.LowKey.{LowKey}
use Rattle.ov_types.specs.declared.objects.LowValue.{LowValue}
use Rattle.ov_types.specs.declared.rows.AgentRows.{AgentRows}
use Rattle.ov_types.specs.declared.rows.Attached.{Attached}
use Rattle.ov_types.specs.declared.rows.Attached.TheVariants.{Port, Circuit}
use Rattle.ov_types.specs.declared.rows.Entry.{Entry}
use Rattle.ov_types.specs.declared.rows.NodeRows.{NodeRows}
use Rattle.ov_types.specs.declared.rows.NodeRows.TheVariants.{Control, Agent}
use Rattle.ov_types.specs.declared.rows.TableRow.{TableRow}
use Rattle.report.specs.Objects.{lines_behind}

-- a row of a control node: the instance and the prefix, and then where they lead
unfoldable pub control_row_line : List ℕ → (InstanceId × Block) × TableRow → List ℕ
control_row_line node r =
    codes "control " ++ (node ++ (codes " table " ++ (decimal r.0.0.0 ++ (codes " " ++ (prefix_text r.0.1
    ++ (codes " " ++ (table_row_text r.1 ++ (10 ∷ []))))))))

-- the rows of a control node, in order
abbrev pub control_lines : List ℕ → List ((InstanceId × Block) × TableRow) → List ℕ
control_lines node rows = flat_map (control_row_line node) rows

-- what a label leads to
abbrev pub attached_text : Attached → List ℕ
attached_text (Port port instance) = codes "port " ++ (decimal port.0 ++ (codes " instance " ++ decimal instance.0))
attached_text (Circuit circuit service) =
    codes "circuit " ++ (decimal circuit ++ (codes " service " ++ decimal service.0))

-- a label of an agent
unfoldable pub agent_label_line : List ℕ → Label × Attached → List ℕ
agent_label_line node l =
    codes "agent " ++ (node ++ (codes " label " ++ (decimal l.0.0 ++ (codes " " ++ (attached_text l.1 ++ (10 ∷ []))))))

-- an access list of an agent: the lines of the object, each behind the agent's name
unfoldable pub agent_acl_lines : List ℕ → LowKey × LowValue → List ℕ
agent_acl_lines node o = lines_behind (codes "agent " ++ (node ++ codes " ")) o

-- a row of an agent: the instance and the prefix, and then the next hop and the label
unfoldable pub agent_row_line : List ℕ → (InstanceId × Block) × Entry → List ℕ
agent_row_line node r =
    codes "agent " ++ (node ++ (codes " table " ++ (decimal r.0.0.0 ++ (codes " " ++ (prefix_text r.0.1 ++ (codes " "
    ++ (address_text r.1.next_hop.0 ++ (codes " " ++ (decimal r.1.label.0 ++ (10 ∷ []))))))))))

-- the labels of an agent, then its access lists, and then its rows
abbrev pub agent_lines : List ℕ → AgentRows → List ℕ
agent_lines node rows =
    flat_map (agent_label_line node) rows.labels ++ (flat_map (agent_acl_lines node) rows.acls
    ++ flat_map (agent_row_line node) rows.routes)

-- the rows of a node
abbrev pub node_lines : List ℕ → NodeRows → List ℕ
node_lines node (Control rows) = control_lines node rows
node_lines node (Agent rows) = agent_lines node rows
