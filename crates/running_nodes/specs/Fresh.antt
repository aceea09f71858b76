-- Nodes that have nothing of each other.
use Rattle.std.specs.Prelude.{◌≢◌, ◌≤◌, ℕ, suc, List, [], ◌∷◌, ◌++◌, drop, length, take, false, map, not}
use Rattle.std.specs.declared.option.Option.{Option}
use Rattle.std.specs.declared.option.Option.TheVariants.{Some, None}
use Rattle.std.specs.List.{All, Contains, filter}
use Rattle.config_check.specs.Rules.{controller_names}
use Rattle.config_types.specs.declared.topology.Node.{Node}
use Rattle.config_types.specs.declared.topology.Topology.{Topology}
use Rattle.agent_node.specs.Core as agent
use Rattle.running_nodes.specs.ControlNode.ControlPlan.{ControlPlan}
use Rattle.node_model.specs.Step.{nothing}
use Rattle.running_nodes.specs.MachineModel.Setup.{id_of, lists}
use Rattle.ov_types.specs.First.{same_name}
use Rattle.ov_types.specs.declared.rows.NodeId.{NodeId}
use Rattle.running_nodes.specs.Seats.{Who, Forwarding, agent_plan, name_of, others_of}
use Rattle.running_nodes.specs.Steps.{all_of}
use Rattle.running_nodes.specs.Halves.{Inner, Outer}

-- the halves of a fresh seat
abbrev pub fresh_inner : Who → Inner
fresh_inner who = record { who = who; posts = all_of nothing (others_of who); kept = all_of [] (others_of who) }

abbrev pub fresh_outer : Who → Outer
fresh_outer who = record {
  name = name_of who;
  others = others_of who;
  links = all_of [] (others_of who);
  breaks = all_of [] (others_of who);
  notices = all_of false (others_of who);
}

-- what a valid topology gives to those that make its nodes
pub record IsSetUp (t : Topology) : Type 0 where
  pub addresses : All (λ c. c.address.0 ≢ 0) t.controllers
  pub controllers : length t.controllers ≤ 8
  pub nodes : length t.nodes ≤ 64
  pub listed : All (λ n. All (Contains (controller_names t)) n.controllers) t.nodes
  pub few : All (λ n. length n.controllers ≤ 2) t.nodes

-- the sessions of a control node of a topology, before any agent came or went
abbrev pub opening_plan : Topology → NodeId → ControlPlan
opening_plan t c = record {
  me = c;
  asn = t.asn;
  peers = filter (λ d. not (same_name d.name c.name)) t.controllers;
  agents = map id_of (filter (λ n. lists n c) t.nodes);
  retired = [];
}

-- ---- an agent that a node is, with its edge
abbrev pub fresh_agents_of : Topology → Option Node → List agent.Core
fresh_agents_of t None = []
fresh_agents_of t (Some n) = agent.fresh (agent_plan t n) ∷ []

abbrev pub fresh_outers_of : Topology → Option Node → List Outer
fresh_outers_of t None = []
fresh_outers_of t (Some n) = fresh_outer (Forwarding (agent_plan t n)) ∷ []

-- others in place of the item at a place, or behind all where there is no place
abbrev pub replaced_at : {A : Type 0} → Option ℕ → List A → List A → List A
replaced_at None new xs = xs ++ new
replaced_at (Some i) new xs = take i xs ++ (new ++ drop (suc i) xs)
