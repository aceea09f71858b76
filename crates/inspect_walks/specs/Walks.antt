-- The walk of a packet over compiled tables: a step for each of its lookups.
use Rattle.std.specs.Prelude.{ℕ, List, map, Option}
use Rattle.std.specs.List.{filter_map}
use Rattle.ov_types.specs.Prefix.{Block}
use Rattle.ov_types.specs.Routing.{longest}
use Rattle.ov_types.specs.declared.packet.Packet.{Packet}
use Rattle.ov_types.specs.declared.rows.Entry.{Entry}
use Rattle.route_targets.specs.Forwarding.{Forwarder, route_in}
use Rattle.packet_trace.specs.Lookups.{Leading, Lookup, leading, lookups}
use Rattle.config_check.specs.Checked.{Checked}
use Rattle.transform_model.specs.Compiled.{compiled_tables, forwarders}

-- a step: a lookup, the row that it takes where there is one, and what it leads to
pub record Step : Type 0 where
  pub lookup : Lookup
  pub row : Option (Block × Entry)
  pub leads : Leading

-- the row that a lookup takes: of its agent's rows of its instance the one of the longest prefix that contains the address
abbrev pub row_taken : ℕ → Lookup → Option (Block × Entry)
row_taken address l = longest address (filter_map (route_in l.instance) l.agent.rows.routes)

abbrev pub step_of : List Forwarder → ℕ → Lookup → Step
step_of agents address l = record { lookup = l; row = row_taken address l; leads = leading agents address l }

-- the walk of a packet over agents: a step for each lookup of its trace
abbrev pub walk_over : List Forwarder → Packet → List Step
walk_over agents p = map (step_of agents p.destination.0) (lookups agents p)

-- the agents of a topology, each with the rows that a configuration is compiled to
abbrev pub compiled_agents : Checked → List Forwarder
compiled_agents x = forwarders x.topology.nodes (compiled_tables x).agents

-- the walk of a packet over the tables that a configuration is compiled to
abbrev pub compiled_walk : Checked → Packet → List Step
compiled_walk x p = walk_over (compiled_agents x) p
