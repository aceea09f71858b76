-- What may happen in a network, what it makes of the network, and what is answered.
use Rattle.std.specs.Prelude.{ℕ, List, [], ◌∷◌, map, Bool, true, false, not, ◌||◌, ◌==◌, is_some, if◌then◌else◌}
use Rattle.std.specs.declared.option.Option.{Option}
use Rattle.std.specs.declared.option.Option.TheVariants.{Some, None}
use Rattle.std.specs.List.{list_any}
use Rattle.ov_link.specs.Breaks.{with_break}
use Rattle.ov_types.specs.First.{same_name}
use Rattle.ov_types.specs.declared.packet.Packet.{Packet}
use Rattle.ov_types.specs.declared.rows.NodeId.{NodeId}
use Rattle.ov_types.specs.declared.rows.NodeRows.{NodeRows}
use Rattle.ov_types.specs.declared.rows.NodeRows.TheVariants as Rows
use Rattle.route_targets.specs.Forwarding.{Forwarder, forwarding}
use Rattle.schedule_script.specs.ConfigTypes.Edit.{Edit}
use Rattle.schedule_script.specs.ConfigTypes.Event.{Event as Written}
use Rattle.schedule_script.specs.ConfigTypes.Event.TheVariants as written
use Rattle.schedule_script.specs.ConfigTypes.Node.{Node}
use Rattle.schedule_script.specs.ConfigCheck.Edits.{edit_fault}
use Rattle.schedule_script.specs.ConfigCheck.Finding.{node_named}
use Rattle.schedule_script.specs.ConfigCheck.EditFault.{EditFault}
use Rattle.schedule_script.specs.declared.answer.Answer.{Answer}
use Rattle.schedule_script.specs.declared.answer.Answer.TheVariants.{Did, Idle, EditRefused, Rounds, Shown, Traced}
use Rattle.transform_model.specs.NodeModel.Tables.{rows}
use Rattle.transform_model.specs.NodeModel.Agent as agent
use Rattle.machine_model.specs.Setup.{Name, Setup, Move, checked, edited, moves}
use Rattle.machine_model.specs.Session.{Session, Message, lost, shut}
use Rattle.machine_model.specs.Network.{MachineState, config, views_of, control_holdings, agent_holdings}
use Rattle.machine_model.specs.Network.{replaced, brought}
use Rattle.machine_model.specs.Steps.{change_session, change_node, pass, joins, session_of, in_flight, repeat, deliver}
use Rattle.machine_model.specs.Steps.{deliver_octets, round, is_broken, may_connect, connect_if, is_settled, settle}

pub data MachineEvent : Type 0 where
  Edits : Edit → MachineEvent
  Deliver : Name → Name → ℕ → MachineEvent
  -- a number of octets, which may end within a message
  DeliverOctets : Name → Name → ℕ → MachineEvent
  Lose : Name → Name → MachineEvent
  Connect : Name → Name → MachineEvent
  Restart : Name → MachineEvent
  Round : MachineEvent
  Settle : MachineEvent
  Show : Name → MachineEvent
  Trace : Packet → MachineEvent
  -- the n-th send from now on that direction fails
  Break : Name → Name → ℕ → MachineEvent

-- the events of documents
abbrev pub event_of : Written → MachineEvent
event_of (written.Edit e) = Edits e
event_of (written.Deliver from to n) = Deliver from to n
event_of (written.DeliverOctets from to n) = DeliverOctets from to n
event_of (written.Lose a b) = Lose a b
event_of (written.Connect a b) = Connect a b
event_of (written.Restart name) = Restart name
event_of written.Round = Round
event_of written.Settle = Settle
event_of (written.Show name) = Show name
event_of (written.Trace p) = Trace p
event_of (written.Break from to n) = Break from to n

-- ---- what it makes of the network
-- some nodes make their passes, in their order
abbrev pub passes : List Name → MachineState → MachineState
passes [] w = w
passes (n ∷ ns) w = passes ns (pass n w)

-- the sessions of a compute node that comes, goes or lists other control nodes are taken away: each control node that it
-- listed closes its end and makes its pass. Those of its new list are new
abbrev pub moved : Option Move → MachineState → MachineState
moved None w = w
moved (Some m) w =
    passes m.left
    (record { setup = w.setup; sessions = replaced m.name (brought w.setup.topology.controllers m.now) w.sessions })

-- an edit that is accepted is applied at the configuration node, which makes its pass then
abbrev pub edits : Option Move → Option Setup → MachineState → MachineState
edits m None w = w
edits m (Some x) w = pass config (moved m (record { setup = x; sessions = w.sessions }))

abbrev pub lose : Option Session → Name → Name → MachineState → MachineState
lose None a b w = w
lose (Some s) a b w = if s.is_down then w else change_session a b lost w

-- whether the first of two nodes comes before the second in the order of a round
abbrev pub is_earlier : List Session → Name → Name → Bool
is_earlier [] a b = true
is_earlier (s ∷ sessions) a b =
    if joins a b s then true else if joins b a s then false else is_earlier sessions a b

abbrev pub add_break : ℕ → Session → Session
add_break n s = record s { near = record s.near { breaks = with_break n s.near.breaks } }

-- a control node or an agent
abbrev pub is_node : MachineState → Name → Bool
is_node w name =
    list_any (λ (c : NodeId). same_name c.name name) w.setup.topology.controllers
    || is_some (node_named w.setup.topology name)

-- a message from a node of that name has `size` octets
module _ (size : Name → Message → ℕ) where
  unfoldable pub next : MachineState → MachineEvent → MachineState
  next w (Edits e) = edits (moves e w.setup.topology) (edited w.setup e) w
  next w (Deliver from to n) = repeat n (deliver from to) w
  next w (DeliverOctets from to n) = deliver_octets size from to n w
  next w (Lose a b) = lose (session_of w a b) a b w
  next w (Connect a b) = if is_earlier w.sessions a b then connect_if a b w else connect_if b a w
  next w (Restart name) = if is_node w name then change_node name shut w else w
  next w Round = round w
  next w Settle = (settle w).1
  next w (Show name) = w
  next w (Trace p) = w
  next w (Break from to n) = change_session from to (add_break n) w

  -- the state after a schedule
  abbrev pub after : MachineState → List MachineEvent → MachineState
  after w [] = w
  after w (e ∷ es) = after (next w e) es

-- ---- what is shown
abbrev pub agent_rows : MachineState → Name → agent.Holdings
agent_rows w name = agent_holdings w.setup name (views_of name w.sessions)

abbrev pub shown_of : Option Node → MachineState → Name → NodeRows
shown_of (Some n) w name = Rows.Agent (agent.rows (agent_rows w name))
shown_of None w name = Rows.Control (rows (control_holdings w.setup name (views_of name w.sessions)))

abbrev pub shown : MachineState → Name → NodeRows
shown w name = shown_of (node_named w.setup.topology name) w name

-- what the agents forward by, in the order of the topology
abbrev pub forwarders : MachineState → List Forwarder
forwarders w =
    map (λ (n : Node). record { address = n.address; rows = agent.rows (agent_rows w n.name) }) w.setup.topology.nodes

-- ---- what is answered
abbrev pub unless : Bool → Answer
unless idle = if idle then Idle else Did

abbrev pub edit_answer : Option EditFault → Answer
edit_answer None = Did
edit_answer (Some f) = EditRefused f

abbrev pub answer_to : MachineState → MachineEvent → Answer
answer_to w (Edits e) = edit_answer (edit_fault (checked w.setup) e)
answer_to w (Deliver from to n) = unless (in_flight w from to == 0)
answer_to w (DeliverOctets from to n) = unless (in_flight w from to == 0)
answer_to w (Lose a b) = unless (is_broken w a b)
answer_to w (Connect a b) = elim (session_of w a b) [ Some s ↦ unless (not (may_connect s)) | None ↦ Idle ]
answer_to w (Restart name) = unless (not (is_node w name))
answer_to w Round = Did
answer_to w Settle = let r = settle w in Rounds r.0 (is_settled r.1)
answer_to w (Show name) = if is_node w name then Shown (shown w name) else Idle
answer_to w (Trace p) = Traced (forwarding (forwarders w) p)
answer_to w (Break from to n) = unless (not (is_some (session_of w from to)))

module _ (size : Name → Message → ℕ) where
  -- the answers of a schedule
  abbrev pub run : MachineState → List MachineEvent → List Answer
  run w [] = []
  run w (e ∷ es) = answer_to w e ∷ run (next size w e) es
