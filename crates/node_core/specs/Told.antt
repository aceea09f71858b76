-- The items of sessions, as changes of the one kind of map that serves every session.
--     change_of      the change that an item is
--     item_of      the item that a change is
--     spelled      the octets of a change on a link
use Rattle.std.specs.Prelude.{◌≡◌, ◌≤◌, ◌==◌, ℕ, List, [], length, Bool, true, false, Option, Some, None, IsTrue}
use Rattle.std.specs.Prelude.{if◌then◌else◌}
use Rattle.std.specs.Option.{option_map}
use Rattle.ov_sync.specs.declared.Delta.TheVariants.{Put, Drop}
use Rattle.ov_sync.specs.Embed.{embedded, moved_delta}
use Rattle.ov_sync.specs.Keyed.{Values, map_of}
use Rattle.ov_types.specs.declared.keys.DownKey.{DownKey}
use Rattle.ov_types.specs.declared.keys.DownValue.{DownValue}
use Rattle.ov_types.specs.declared.keys.DownValue.TheVariants as Told
use Rattle.ov_types.specs.declared.keys.UpKey.{UpKey}
use Rattle.ov_types.specs.declared.numbers.Label.{Label as LabelNo}
use Rattle.item_wire.specs.Changes.{fed, item_of_object, item_of_key}
use Rattle.item_wire.specs.Ranges.{is_in_range, is_instance, is_attached_label, is_address, is_block}
use Rattle.item_wire.specs.Records.{json_text, spelling}
use Rattle.item_wire.specs.declared.item.Item.{Item}
use Rattle.item_wire.specs.declared.item.Item.TheVariants as I
pub use Rattle.node_model.specs.Directions.{down_order, up_order}
use Rattle.node_model.specs.Keys.{Key, Low, Vpn, Row, Publish, Subscribe, key_cmp, of_down, of_up}
use Rattle.node_model.specs.Values.{Value, Object, Entry, Label}
use Rattle.node_model.specs.Maps.{Map, Change}

-- whether an item says who is at the other end
abbrev pub is_hello : Item → Bool
is_hello (I.Hello name) = true
is_hello i = false

-- what is put at a subscription has label 0
abbrev pub change_of : Item → Option Change
change_of (I.Publish instance label prefix) = Some (Put (Publish instance prefix) (Label label))
change_of (I.Unpublish instance prefix) = Some (Drop (Publish instance prefix))
change_of (I.Subscribe instance) = Some (Put (Subscribe instance) (Label (record { 0 = 0 })))
change_of (I.Unsubscribe instance) = Some (Drop (Subscribe instance))
change_of (I.Route instance label next_hop prefix) =
    Some (Put (Row instance prefix) (Entry (record { next_hop = next_hop; label = label })))
change_of (I.Unroute instance prefix) = Some (Drop (Row instance prefix))
change_of i = option_map (moved_delta Low Object) (fed i)

abbrev pub item_of : Change → Option Item
item_of (Put (Low k) (Object v)) = item_of_object k v
item_of (Put (Row i prefix) (Entry hop)) = Some (I.Route i hop.label hop.next_hop prefix)
item_of (Put (Publish i prefix) (Label label)) = Some (I.Publish i label prefix)
item_of (Put (Subscribe i) (Label label)) = if label.0 == 0 then Some (I.Subscribe i) else None
item_of (Put _ _) = None
item_of (Drop (Low k)) = Some (item_of_key k)
item_of (Drop (Row i prefix)) = Some (I.Unroute i prefix)
item_of (Drop (Publish i prefix)) = Some (I.Unpublish i prefix)
item_of (Drop (Subscribe i)) = Some (I.Unsubscribe i)
item_of (Drop (Vpn k)) = None

abbrev pub spelling_of : Option Item → List ℕ
spelling_of None = []
spelling_of (Some i) = spelling i

abbrev pub spelled : Change → List ℕ
spelled c = spelling_of (item_of c)

-- an item can be written: its members are within their ranges, and its record is short enough
pub record IsWritable (i : Item) : Type 0 where
  pub in_range : IsTrue (is_in_range i)
  pub short : length (json_text i) ≤ 65536

-- a change can be told
pub record CanBeTold (c : Change) : Type 0 where
  pub item : Item
  pub is : item_of c ≡ Some item
  pub writable : IsWritable item

-- ---- what the types of keys and values leave open
-- a key is within its range
abbrev pub KeyFits : Key → Type 0
KeyFits (Low k) = IsTrue (is_in_range (item_of_key k))
KeyFits (Row i prefix) = IsTrue (is_instance i.0)
KeyFits (Publish i prefix) = IsTrue (is_instance i.0)
KeyFits (Subscribe i) = IsTrue (is_instance i.0)
KeyFits (Vpn k) = ⊥

-- a value under its key is: an object has an item that can be written, a label is within its range
abbrev pub Fits : Key → Value → Type 0
Fits (Low k) v = KeyFits (Low k) × CanBeTold (Put (Low k) v)
Fits (Row i prefix) (Entry hop) = KeyFits (Row i prefix) × (hop.label.0 ≤ 1048575)
Fits (Publish i prefix) (Label label) = KeyFits (Publish i prefix) × IsTrue (is_attached_label label.0)
Fits (Subscribe i) (Label label) = KeyFits (Subscribe i) × (label.0 ≡ 0)
Fits _ _ = ⊥

abbrev pub ChangeFits : Change → Type 0
ChangeFits (Put k v) = Fits k v
ChangeFits (Drop k) = KeyFits k

-- what the types of keys and values settle: a prefix is a block, and an address has 32 bits
abbrev pub IsTyped : Change → Type 0
IsTyped (Put (Row i prefix) (Entry hop)) = IsTrue (is_block prefix) × IsTrue (is_address hop.next_hop)
IsTyped (Put (Publish i prefix) v) = IsTrue (is_block prefix)
IsTyped (Drop (Row i prefix)) = IsTrue (is_block prefix)
IsTyped (Drop (Publish i prefix)) = IsTrue (is_block prefix)
IsTyped c = Unit {0}

abbrev pub AllFit : Map → Type 0
AllFit m = Values Fits m

-- ---- typed maps among all keys and values
abbrev pub down_value : DownValue → Value
down_value (Told.Object v) = Object v
down_value (Told.Row hop) = Entry hop

-- what an agent is told, and what an agent tells
abbrev pub down_of : List (DownKey × DownValue) → Map
down_of es = embedded {S = key_cmp} of_down down_value (map_of down_order es)

abbrev pub up_of : List (UpKey × LabelNo) → Map
up_of es = embedded {S = key_cmp} of_up Label (map_of up_order es)
