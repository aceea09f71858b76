-- The cores of the nodes: the configuration node's, and those of the control nodes and of the agents.
use Rattle.std.specs.Prelude.{◌≡◌, ◌<◌, ℕ, ◌+◌, List, ◌∷◌, ◌++◌, map, false, true}
use Rattle.std.specs.declared.option.Option.{Option}
use Rattle.std.specs.declared.option.Option.TheVariants.{Some, None}
use Rattle.node_model.specs.Agent.{rows as rows_of}
use Rattle.node_model.specs.Paths.{Holdings}
use Rattle.node_model.specs.Step.{Post, nothing, post}
use Rattle.running_nodes.specs.ConfigNode.Core as configuration
use Rattle.running_nodes.specs.ControlNode.Agents.{is_retired}
use Rattle.running_nodes.specs.ControlNode.Core as control
use Rattle.agent_node.specs.Core as agent
use Rattle.node_laws.specs.Quiet.{SameButQuiet}
use Rattle.running_nodes.specs.Controls as controls
use Rattle.running_nodes.specs.Controls.{controls_of}
use Rattle.running_nodes.specs.Seats.{Who, Configuring, Controlling, Forwarding}
use Rattle.running_nodes.specs.Halves.{Inner}
use Rattle.running_nodes.specs.declared.kinds.NodeRole.{NodeRole}
use Rattle.running_nodes.specs.declared.kinds.NodeRole.TheVariants.{Configuration, Control, Agent}

abbrev pub configured : configuration.Core → Inner
configured c = record { who = Configuring c.setup; posts = c.posts; kept = c.kept }

abbrev pub controlled : control.Core → Inner
controlled c = record { who = Controlling (controls_of c.plan); posts = c.posts; kept = c.kept }

abbrev pub forwarded : agent.Core → Inner
forwarded a = record { who = Forwarding a.plan; posts = a.posts; kept = a.kept }

-- the configuration node, then the control nodes, then the agents
abbrev pub inners : configuration.Core → List control.Core → List agent.Core → List Inner
inners c controls agents = configured c ∷ (map controlled controls ++ map forwarded agents)

-- at each session of a control node that is nobody's there is nothing
pub record IsVacated (c : control.Core) : Type 0 where
  pub none : (i : ℕ) → is_retired c.plan i ≡ true → post c.posts i ≡ nothing

-- an agent forwards by what it holds
pub record IsRight (a : agent.Core) : Type 0 where
  pub works : a.failed ≡ false
  pub rows : a.rows ≡ rows_of (agent.holdings a.posts)

-- what a node holds of all its sessions, where it is a control node
abbrev pub held_by : Who → List Post → Option Holdings
held_by (Controlling c) posts = Some (controls.holdings c posts)
held_by who posts = None

-- what a control node holds of the sessions that are somebody's: of all but those whose numbers are retired
abbrev pub present : control.Core → Holdings
present c = controls.holdings (controls_of c.plan) c.posts

-- where the node is a control node, it holds this of the sessions that are somebody's, and all that it holds beside are
-- agents that told nothing
abbrev pub HoldsAs : Option control.Core → Option Holdings → Type 0
HoldsAs (Some c) (Some h) = (present c ≡ h) × SameButQuiet (control.holdings c.plan c.posts) h
HoldsAs None None = Unit {0}
HoldsAs _ _ = ⊥

-- ---- which node has a number
abbrev pub number_of : ℕ → NodeRole → ℕ
number_of controls Configuration = 0
number_of controls (Control i) = 1 + i
number_of controls (Agent i) = 1 + (controls + i)

abbrev pub IsWithin : ℕ → NodeRole → Type 0
IsWithin controls (Control i) = i < controls
IsWithin controls _ = Unit {0}
