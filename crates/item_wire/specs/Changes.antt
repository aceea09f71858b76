-- An item is a change of what one end of a session wants the other to hold.
--     fed, told, said      the change that an item is, from the configuration node, a control node, an agent
--     item_fed, item_told, item_said      the item that a change is
use Rattle.std.specs.Prelude.{◌==◌, Bool, true, false, Option, Some, None, if◌then◌else◌}
use Rattle.ov_types.specs.declared.keys.DownKey.{DownKey}
use Rattle.ov_types.specs.declared.keys.DownKey.TheVariants as Down
use Rattle.ov_types.specs.declared.keys.DownValue.{DownValue}
use Rattle.ov_types.specs.declared.keys.DownValue.TheVariants.{Object, Row}
use Rattle.ov_types.specs.declared.keys.UpKey.{UpKey}
use Rattle.ov_types.specs.declared.keys.UpKey.TheVariants as Up
use Rattle.ov_types.specs.declared.numbers.Label.{Label}
use Rattle.ov_types.specs.declared.objects.LowKey.{LowKey}
use Rattle.ov_types.specs.declared.objects.LowKey.TheVariants as Key
use Rattle.ov_types.specs.declared.objects.LowValue.{LowValue}
use Rattle.ov_types.specs.declared.objects.LowValue.TheVariants as Value
use Rattle.ov_sync.specs.declared.Delta.{Delta}
use Rattle.ov_sync.specs.declared.Delta.TheVariants.{Put, Drop}
use Rattle.route_targets.specs.Numbers.{port_label_of, circuit_label_of}
use Rattle.item_wire.specs.declared.item.Item.{Item}
use Rattle.item_wire.specs.declared.item.Item.TheVariants as I

-- what an agent tells a control node: the label of a publication, or of a subscription nothing
pub data UpValue : Type 0 where
  Behind : Label → UpValue
  Wanted : UpValue

-- the object that an item tells of, with its key; an attachment has the label of its port or circuit
abbrev pub object_of : Item → Option (LowKey × LowValue)
object_of (I.Instance imports instance) = Some (Key.Instance instance.0, Value.Instance imports)
object_of (I.Port address instance node port) =
    Some (Key.Attach (port_label_of port).0, Value.AttachPort port instance address node)
object_of (I.Circuit circuit node service) =
    Some (Key.Attach (circuit_label_of circuit).0, Value.AttachCircuit circuit service node)
object_of (I.Acl from rules subnets to) = Some (Key.Acl from to, Value.Acl subnets rules)
object_of (I.Use hops left left_prefixes right right_prefixes use_no) =
    Some (Key.ChainUse use_no, Value.ChainUse left right left_prefixes right_prefixes hops)
object_of _ = None

-- the item that tells of an object, where its key fits it
abbrev pub item_of_object : LowKey → LowValue → Option Item
item_of_object (Key.Instance n) (Value.Instance imports) = Some (I.Instance imports (record { 0 = n }))
item_of_object (Key.Attach label) (Value.AttachPort port instance address node) =
    if label == (port_label_of port).0 then Some (I.Port address instance node port) else None
item_of_object (Key.Attach label) (Value.AttachCircuit circuit service node) =
    if label == (circuit_label_of circuit).0 then Some (I.Circuit circuit node service) else None
item_of_object (Key.Acl from to) (Value.Acl subnets rules) = Some (I.Acl from rules subnets to)
item_of_object (Key.ChainUse use_no) (Value.ChainUse left right left_prefixes right_prefixes hops) =
    Some (I.Use hops left left_prefixes right right_prefixes use_no)
item_of_object _ _ = None

-- whether an object stands under its key; an attachment stands under its label
abbrev pub has_key : LowKey → LowValue → Bool
has_key (Key.Instance n) (Value.Instance imports) = true
has_key (Key.Attach label) (Value.AttachPort port instance address node) = label == (port_label_of port).0
has_key (Key.Attach label) (Value.AttachCircuit circuit service node) = label == (circuit_label_of circuit).0
has_key (Key.Acl from to) (Value.Acl subnets rules) = true
has_key (Key.ChainUse use_no) (Value.ChainUse left right left_prefixes right_prefixes hops) = true
has_key _ _ = false

-- the item that tells that an object is gone
abbrev pub item_of_key : LowKey → Item
item_of_key (Key.Instance n) = I.NoInstance (record { 0 = n })
item_of_key (Key.Attach label) = I.NoAttach (record { 0 = label })
item_of_key (Key.Acl from to) = I.NoAcl from to
item_of_key (Key.ChainUse use_no) = I.NoUse use_no

abbrev pub put_object : Option (LowKey × LowValue) → Option (Delta LowKey LowValue)
put_object None = None
put_object (Some o) = Some (Put o.0 o.1)

-- from the configuration node to a control node
abbrev pub fed : Item → Option (Delta LowKey LowValue)
fed (I.NoInstance instance) = Some (Drop (Key.Instance instance.0))
fed (I.NoAttach label) = Some (Drop (Key.Attach label.0))
fed (I.NoAcl from to) = Some (Drop (Key.Acl from to))
fed (I.NoUse use_no) = Some (Drop (Key.ChainUse use_no))
fed i = put_object (object_of i)

abbrev pub item_fed : Delta LowKey LowValue → Option Item
item_fed (Put key value) = item_of_object key value
item_fed (Drop key) = Some (item_of_key key)

-- from a control node to an agent: attachments and access lists, and rows
abbrev pub told : Item → Option (Delta DownKey DownValue)
told (I.Port address instance node port) =
    Some (Put (Down.Slice (Key.Attach (port_label_of port).0)) (Object (Value.AttachPort port instance address node)))
told (I.Circuit circuit node service) =
    Some (Put (Down.Slice (Key.Attach (circuit_label_of circuit).0))
    (Object (Value.AttachCircuit circuit service node)))
told (I.Acl from rules subnets to) = Some (Put (Down.Slice (Key.Acl from to)) (Object (Value.Acl subnets rules)))
told (I.NoAttach label) = Some (Drop (Down.Slice (Key.Attach label.0)))
told (I.NoAcl from to) = Some (Drop (Down.Slice (Key.Acl from to)))
told (I.Route instance label next_hop prefix) =
    Some (Put (Down.Route instance prefix) (Row (record { next_hop = next_hop; label = label })))
told (I.Unroute instance prefix) = Some (Drop (Down.Route instance prefix))
told _ = None

abbrev pub item_told : Delta DownKey DownValue → Option Item
item_told (Put (Down.Slice (Key.Attach label)) (Object value)) = item_of_object (Key.Attach label) value
item_told (Put (Down.Slice (Key.Acl from to)) (Object value)) = item_of_object (Key.Acl from to) value
item_told (Put (Down.Route instance prefix) (Row row)) = Some (I.Route instance row.label row.next_hop prefix)
item_told (Drop (Down.Slice (Key.Attach label))) = Some (I.NoAttach (record { 0 = label }))
item_told (Drop (Down.Slice (Key.Acl from to))) = Some (I.NoAcl from to)
item_told (Drop (Down.Route instance prefix)) = Some (I.Unroute instance prefix)
item_told _ = None

-- from an agent to a control node
abbrev pub said : Item → Option (Delta UpKey UpValue)
said (I.Publish instance label prefix) = Some (Put (Up.Publish instance prefix) (Behind label))
said (I.Unpublish instance prefix) = Some (Drop (Up.Publish instance prefix))
said (I.Subscribe instance) = Some (Put (Up.Subscribe instance) Wanted)
said (I.Unsubscribe instance) = Some (Drop (Up.Subscribe instance))
said _ = None

abbrev pub item_said : Delta UpKey UpValue → Option Item
item_said (Put (Up.Publish instance prefix) (Behind label)) = Some (I.Publish instance label prefix)
item_said (Put (Up.Subscribe instance) Wanted) = Some (I.Subscribe instance)
item_said (Drop (Up.Publish instance prefix)) = Some (I.Unpublish instance prefix)
item_said (Drop (Up.Subscribe instance)) = Some (I.Unsubscribe instance)
item_said _ = None
