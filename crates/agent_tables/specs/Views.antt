-- What an agent holds of its sessions.
use Rattle.std.specs.Prelude.{Bool, true, false}
use Rattle.item_wire.specs.declared.event.ItemState.{ItemState}
use Rattle.item_wire.specs.declared.event.ItemState.TheVariants.{Up}
use Rattle.node_core.specs.Told.{down_of}
use Rattle.node_core.specs.NodeModel.Agent.{Heard}
use Rattle.agent_tables.specs.declared.hearing.Hearing.{Hearing}

abbrev pub is_up : ItemState → Bool
is_up Up = true
is_up _ = false

-- whether a session is up, and what its control node told
abbrev pub heard_of : Hearing → Heard
heard_of s = record { is_up = is_up s.session.state; map = down_of s.held }
