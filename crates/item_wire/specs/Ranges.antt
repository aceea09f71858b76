-- The items whose members are within their ranges.
use Rattle.std.specs.Prelude.{ℕ, length, Bool, true, ◌&&◌, nat_le, Option, Some, None}
use Rattle.std.specs.List.{list_all}
use Rattle.ov_types.specs.Bounds as bounds
use Rattle.ov_types.specs.Name.{is_name}
pub use Rattle.ov_types.specs.Prefix.{is_block}
use Rattle.ov_types.specs.declared.numbers.InstanceId.{InstanceId}
use Rattle.ov_types.specs.declared.numbers.ServiceNo.{ServiceNo}
use Rattle.ov_types.specs.declared.objects.AclAction.{AclAction}
use Rattle.ov_types.specs.declared.objects.AclAction.TheVariants.{Pass, Deny, Enter}
use Rattle.ov_types.specs.declared.objects.AclRule.{AclRule}
use Rattle.ov_types.specs.declared.packet.Range16.{Range16}
use Rattle.ov_types.specs.declared.packet.RuleNo.{RuleNo}
use Rattle.ov_types.specs.declared.prefix.Addr.{Addr}
use Rattle.item_wire.specs.declared.item.Item.{Item}
use Rattle.item_wire.specs.declared.item.Item.TheVariants as I
use Rattle.item_wire.specs.Entries.{is_from_to}

abbrev pub is_network : ℕ → Bool
is_network n = is_from_to 1 16383 n

abbrev pub is_instance : ℕ → Bool
is_instance n = is_from_to 1 65535 n

-- the label of an attachment
abbrev pub is_attached_label : ℕ → Bool
is_attached_label n = is_from_to 16 655358 n

abbrev pub is_address : Addr → Bool
is_address a = nat_le a.0 0xffff_ffff

abbrev pub is_node_address : Addr → Bool
is_node_address a = bounds.is_node_address a.0

abbrev pub is_import : InstanceId → Bool
is_import i = is_network i.0

abbrev pub is_hop : ServiceNo × Addr → Bool
is_hop h = nat_le h.0.0 65535 && is_node_address h.1

abbrev pub is_protocol : Option ℕ → Bool
is_protocol None = true
is_protocol (Some n) = nat_le n 255

abbrev pub are_ports : Range16 → Bool
are_ports r = nat_le r.lo r.hi && nat_le r.hi 65535

abbrev pub is_action : AclAction → Bool
is_action Pass = true
is_action Deny = true
is_action (Enter i) = is_from_to 16384 65535 i.0

abbrev pub is_rule_number : RuleNo → Bool
is_rule_number n = nat_le n.sequence 65535 && is_from_to 1 16 n.position

abbrev pub is_rule : AclRule → Bool
is_rule r = is_protocol r.protocol && are_ports r.sports && are_ports r.dports && is_action r.action
    && is_rule_number r.rule

-- each member of an item is within its range
abbrev pub is_in_range : Item → Bool
is_in_range (I.Hello name) = is_name name
is_in_range (I.Instance imports instance) =
    list_all is_import imports && nat_le 1 (length imports) && is_network instance.0
is_in_range (I.Port address instance node port) =
    is_address address && is_network instance.0 && is_node_address node && nat_le port.0 524271
is_in_range (I.Circuit circuit node service) =
    is_from_to 32769 131070 circuit && is_node_address node && nat_le service.0 65535
is_in_range (I.Acl from rules subnets to) =
    is_network from && list_all is_rule rules && list_all is_block subnets && is_network to
is_in_range (I.Use hops left left_prefixes right right_prefixes use_no) =
    list_all is_hop hops && is_from_to 1 15 (length hops) && is_network left.0 && list_all is_block left_prefixes
    && is_network right.0 && list_all is_block right_prefixes && nat_le use_no 3071
is_in_range (I.NoInstance instance) = is_network instance.0
is_in_range (I.NoAttach label) = is_attached_label label.0
is_in_range (I.NoAcl from to) = is_network from && is_network to
is_in_range (I.NoUse use_no) = nat_le use_no 3071
is_in_range (I.Publish instance label prefix) =
    is_instance instance.0 && is_attached_label label.0 && is_block prefix
is_in_range (I.Unpublish instance prefix) = is_instance instance.0 && is_block prefix
is_in_range (I.Subscribe instance) = is_instance instance.0
is_in_range (I.Unsubscribe instance) = is_instance instance.0
is_in_range (I.Route instance label next_hop prefix) =
    is_instance instance.0 && nat_le label.0 1048575 && is_address next_hop && is_block prefix
is_in_range (I.Unroute instance prefix) = is_instance instance.0 && is_block prefix
