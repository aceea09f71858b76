-- The record of each item: an object of its members in the order of their names.
use Rattle.std.specs.Prelude.{ℕ, List, Bool, true, false, map, codes, Option, Some, None}
use Rattle.serde_json.specs.Data.{Data, number, string, array, object, unsigned, no_items, item}
use Rattle.serde_json.specs.Data.{no_members, member}
use Rattle.serde_json.specs.View.{items_of}
use Rattle.serde_json.specs.Written.{compact_text}
use Rattle.ov_types.specs.Prefix.{Block}
use Rattle.ov_types.specs.Texts.{address_text, prefix_text}
use Rattle.ov_types.specs.declared.numbers.InstanceId.{InstanceId}
use Rattle.ov_types.specs.declared.numbers.ServiceNo.{ServiceNo}
use Rattle.ov_types.specs.declared.objects.AclAction.{AclAction}
use Rattle.ov_types.specs.declared.objects.AclAction.TheVariants.{Pass, Deny, Enter}
use Rattle.ov_types.specs.declared.objects.AclRule.{AclRule}
use Rattle.ov_types.specs.declared.prefix.Addr.{Addr}
use Rattle.item_wire.specs.declared.item.Item.{Item}
use Rattle.item_wire.specs.declared.item.Item.TheVariants as I
use Rattle.item_wire.specs.Frames.{framed}

abbrev pub number_record : ℕ → Data
number_record n = number (unsigned n)

abbrev pub address_record : Addr → Data
address_record a = string (address_text a.0)

abbrev pub prefix_record : Block → Data
prefix_record b = string (prefix_text b)

-- a list, of the records of its items
abbrev pub list_record : {A : Type 0} → (A → Data) → List A → Data
list_record record_of xs = array (items_of (map record_of xs))

abbrev pub import_record : InstanceId → Data
import_record i = number_record i.0

abbrev pub hop_record : ServiceNo × Addr → Data
hop_record h = array (item (number_record h.0.0) (item (address_record h.1) no_items))

abbrev pub protocol_record : Option ℕ → Data
protocol_record None = number_record 256
protocol_record (Some n) = number_record n

abbrev pub action_record : AclAction → Data
action_record Pass = string (codes "pass")
action_record Deny = string (codes "deny")
action_record (Enter i) = number_record i.0

abbrev pub rule_record : AclRule → Data
rule_record r = array (item (protocol_record r.protocol)
    (item (number_record r.sports.lo) (item (number_record r.sports.hi)
    (item (number_record r.dports.lo) (item (number_record r.dports.hi)
    (item (action_record r.action)
    (item (number_record r.rule.sequence) (item (number_record r.rule.position) no_items))))))))

-- the record of an item
abbrev pub record_of : Item → Data
record_of (I.Hello name) =
    object (member (codes "name") (string name) (member (codes "op") (string (codes "hello")) no_members))
record_of (I.Instance imports instance) =
    object (member (codes "imports") (list_record import_record imports)
    (member (codes "instance") (number_record instance.0)
    (member (codes "op") (string (codes "instance")) no_members)))
record_of (I.Port address instance node port) =
    object (member (codes "address") (address_record address)
    (member (codes "instance") (number_record instance.0)
    (member (codes "node") (address_record node)
    (member (codes "op") (string (codes "port"))
    (member (codes "port") (number_record port.0) no_members)))))
record_of (I.Circuit circuit node service) =
    object (member (codes "circuit") (number_record circuit)
    (member (codes "node") (address_record node)
    (member (codes "op") (string (codes "circuit"))
    (member (codes "service") (number_record service.0) no_members))))
record_of (I.Acl from rules subnets to) =
    object (member (codes "from") (number_record from)
    (member (codes "op") (string (codes "acl"))
    (member (codes "rules") (list_record rule_record rules)
    (member (codes "subnets") (list_record prefix_record subnets)
    (member (codes "to") (number_record to) no_members)))))
record_of (I.Use hops left left_prefixes right right_prefixes use_no) =
    object (member (codes "hops") (list_record hop_record hops)
    (member (codes "left") (number_record left.0)
    (member (codes "left_prefixes") (list_record prefix_record left_prefixes)
    (member (codes "op") (string (codes "use"))
    (member (codes "right") (number_record right.0)
    (member (codes "right_prefixes") (list_record prefix_record right_prefixes)
    (member (codes "use") (number_record use_no) no_members)))))))
record_of (I.NoInstance instance) =
    object (member (codes "instance") (number_record instance.0)
    (member (codes "op") (string (codes "no-instance")) no_members))
record_of (I.NoAttach label) =
    object (member (codes "label") (number_record label.0)
    (member (codes "op") (string (codes "no-attach")) no_members))
record_of (I.NoAcl from to) =
    object (member (codes "from") (number_record from)
    (member (codes "op") (string (codes "no-acl"))
    (member (codes "to") (number_record to) no_members)))
record_of (I.NoUse use_no) =
    object (member (codes "op") (string (codes "no-use")) (member (codes "use") (number_record use_no) no_members))
record_of (I.Publish instance label prefix) =
    object (member (codes "instance") (number_record instance.0)
    (member (codes "label") (number_record label.0)
    (member (codes "op") (string (codes "publish"))
    (member (codes "prefix") (prefix_record prefix) no_members))))
record_of (I.Unpublish instance prefix) =
    object (member (codes "instance") (number_record instance.0)
    (member (codes "op") (string (codes "unpublish"))
    (member (codes "prefix") (prefix_record prefix) no_members)))
record_of (I.Subscribe instance) =
    object (member (codes "instance") (number_record instance.0)
    (member (codes "op") (string (codes "subscribe")) no_members))
record_of (I.Unsubscribe instance) =
    object (member (codes "instance") (number_record instance.0)
    (member (codes "op") (string (codes "unsubscribe")) no_members))
record_of (I.Route instance label next_hop prefix) =
    object (member (codes "instance") (number_record instance.0)
    (member (codes "label") (number_record label.0)
    (member (codes "next_hop") (address_record next_hop)
    (member (codes "op") (string (codes "route"))
    (member (codes "prefix") (prefix_record prefix) no_members)))))
record_of (I.Unroute instance prefix) =
    object (member (codes "instance") (number_record instance.0)
    (member (codes "op") (string (codes "unroute"))
    (member (codes "prefix") (prefix_record prefix) no_members)))

-- whether a record has lists: the others have one size, but for the digits of numbers and the letters of names
abbrev pub has_lists : Item → Bool
has_lists (I.Instance imports instance) = true
has_lists (I.Acl from rules subnets to) = true
has_lists (I.Use hops left left_prefixes right right_prefixes use_no) = true
has_lists i = false

-- the one spelling of an item in JSON, without spaces, and on a link
abbrev pub json_text : Item → List ℕ
json_text i = compact_text (record_of i)

abbrev pub spelling : Item → List ℕ
spelling i = framed (json_text i)
