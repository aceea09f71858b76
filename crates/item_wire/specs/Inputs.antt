-- What comes to a session of items.
use Rattle.std.specs.Prelude.{ℕ, List, Bool, true, false, nat_eq, if◌then◌else◌}
use Rattle.std.specs.Cmp.Lexicographic.{pointwise}
use Rattle.item_wire.specs.declared.item.Item.{Item}
use Rattle.item_wire.specs.declared.item.Item.TheVariants as I
use Rattle.item_wire.specs.declared.event.ItemFrom.{ItemFrom}
use Rattle.item_wire.specs.declared.event.ItemFrom.TheVariants.{Feed, Control, Agent, Nothing}
use Rattle.item_wire.specs.declared.event.ItemCause.TheVariants.{Order, WrongName}
use Rattle.item_wire.specs.declared.input.Came.{Came}
use Rattle.item_wire.specs.declared.input.Came.TheVariants as Comes

-- the records of the feed
abbrev pub is_of_feed : Item → Bool
is_of_feed (I.Instance imports instance) = true
is_of_feed (I.Port address instance node port) = true
is_of_feed (I.Circuit circuit node service) = true
is_of_feed (I.Acl from rules subnets to) = true
is_of_feed (I.Use hops left left_prefixes right right_prefixes use_no) = true
is_of_feed (I.NoInstance instance) = true
is_of_feed (I.NoAttach label) = true
is_of_feed (I.NoAcl from to) = true
is_of_feed (I.NoUse use_no) = true
is_of_feed _ = false

-- the records of an agent's slice
abbrev pub is_of_slice : Item → Bool
is_of_slice (I.Port address instance node port) = true
is_of_slice (I.Circuit circuit node service) = true
is_of_slice (I.Acl from rules subnets to) = true
is_of_slice (I.NoAttach label) = true
is_of_slice (I.NoAcl from to) = true
is_of_slice _ = false

-- the records from a control node to an agent
abbrev pub is_of_control : Item → Bool
is_of_control (I.Route instance label next_hop prefix) = true
is_of_control (I.Unroute instance prefix) = true
is_of_control i = is_of_slice i

-- the records from an agent to a control node
abbrev pub is_of_agent : Item → Bool
is_of_agent (I.Publish instance label prefix) = true
is_of_agent (I.Unpublish instance prefix) = true
is_of_agent (I.Subscribe instance) = true
is_of_agent (I.Unsubscribe instance) = true
is_of_agent _ = false

-- whether the other end may send a record, besides its hello
abbrev pub may_send : ItemFrom → Item → Bool
may_send Feed i = is_of_feed i
may_send Control i = is_of_control i
may_send Agent i = is_of_agent i
may_send Nothing i = false

-- a hello is that of the other end, or a bad record
abbrev pub came_by_hello : List ℕ → List ℕ → Came
came_by_hello peer name = if pointwise nat_eq name peer then Comes.Hello else Comes.BadRecord WrongName

-- a record that is no hello is of the direction, or a bad one
abbrev pub came_by_other : ItemFrom → Item → Came
came_by_other from i = if may_send from i then Comes.OtherRecord i else Comes.BadRecord Order

-- what a record is to a session with the node of this name, which may send these
abbrev pub came_by : List ℕ → ItemFrom → Item → Came
came_by peer from (I.Hello name) = came_by_hello peer name
came_by peer from i = came_by_other from i
