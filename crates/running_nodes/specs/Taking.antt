-- What a message makes of the end that takes it, as the node sees it.
use Rattle.std.specs.Prelude.{List, [], ◌∷◌, ◌++◌, map, Bool, true, if◌then◌else◌}
use Rattle.std.specs.Option.{unwrap_or}
use Rattle.std.specs.declared.option.Option.TheVariants.{Some, None}
use Rattle.ov_sync.specs.Keyed.{changed}
use Rattle.agent_node.specs.NodeModel.Maps.{Map}
use Rattle.agent_node.specs.NodeModel.Step.{Beginning, Phase, Opened, Post}
use Rattle.config_node.specs.MachineModel.Session.{Message, Open, Keepalive, Hello, Carries}
use Rattle.config_node.specs.MachineModel.Moments.{cell}
use Rattle.running_nodes.specs.Seats.{Who}
use Rattle.running_nodes.specs.Stands.{octets_of}

-- a right OPEN is answered with a KEEPALIVE, and nothing else is answered
abbrev pub replies_to : Bool → Phase → Message → List Message
replies_to true Opened Open = Keepalive ∷ []
replies_to _ _ _ = []

abbrev pub held_after : Message → Map → Map
held_after (Carries c) held = changed held c
held_after m held = held

-- the OPEN of a control node says that it has numbers of four octets
abbrev pub wide_after : Message → Bool → Bool
wide_after Open wide = true
wide_after m wide = wide

abbrev pub greeting_of : Bool → Message
greeting_of peering = if peering then Open else Hello

-- the end that took a message, whose cell leads to this state
abbrev pub taken : Who → Bool → Post → Message → Phase → Beginning
taken who peering p m next = record {
  replies = map (octets_of who peering) (replies_to peering p.phase m);
  after = Some (record { phase = next; sent = p.sent; held = held_after m p.held; wide = wide_after m p.wide });
}

abbrev pub opened : Who → Bool → Post → Beginning
opened who peering p = record {
  replies = octets_of who peering (greeting_of peering) ∷ [];
  after = Some (record p { phase = Opened });
}

abbrev pub closed : Beginning
closed = record { replies = []; after = None }

-- ---- several messages, in turn
-- the state that a message leads to, where it leads to one
abbrev pub phase_after : Bool → Phase → Message → Phase
phase_after peering phase m = unwrap_or (cell peering phase m) phase

abbrev pub took_one : Bool → Post → Message → Post
took_one peering p m = record {
  phase = phase_after peering p.phase m;
  sent = p.sent;
  held = held_after m p.held;
  wide = wide_after m p.wide;
}

abbrev pub took_all : Bool → Post → List Message → Post
took_all peering p [] = p
took_all peering p (m ∷ ms) = took_all peering (took_one peering p m) ms

abbrev pub replies_to_all : Bool → Phase → List Message → List Message
replies_to_all peering phase [] = []
replies_to_all peering phase (m ∷ ms) =
    replies_to peering phase m ++ replies_to_all peering (phase_after peering phase m) ms

-- the end that took messages in turn: all replies follow then
abbrev pub taken_all : Who → Bool → Post → List Message → Beginning
taken_all who peering p ms = record {
  replies = map (octets_of who peering) (replies_to_all peering p.phase ms);
  after = Some (took_all peering p ms);
}
