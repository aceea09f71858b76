-- The lines of low-level objects: what names an object, and then what is said of it.
use Rattle.std.specs.Prelude.{ℕ, List, [], ◌∷◌, ◌++◌, codes, decimal, flat_map, Option, Some, None}
use Rattle.ov_types.specs.Prefix.{Block}
use Rattle.ov_types.specs.Rows.{rule_text}
use Rattle.ov_types.specs.Texts.{address_text, prefix_text}
use Rattle.ov_types.specs.declared.numbers.InstanceId.{InstanceId}
use Rattle.ov_types.specs.declared.numbers.ServiceNo.{ServiceNo}
use Rattle.ov_types.specs.declared.objects.AclAction.{AclAction}
use Rattle.ov_types.specs.declared.objects.AclAction.TheVariants.{Pass, Deny, Enter}
use Rattle.ov_types.specs.declared.objects.AclRule.{AclRule}
use Rattle.ov_types.specs.declared.objects.LowKey.{LowKey}
use Rattle.ov_types.specs.declared.objects.LowKey.TheVariants as Key
use Rattle.ov_types.specs.declared.objects.LowValue.{LowValue}
use Rattle.ov_types.specs.declared.objects.LowValue.TheVariants.{Instance, AttachPort, AttachCircuit, Acl, ChainUse}
use Rattle.ov_types.specs.declared.packet.Range16.{Range16}
use Rattle.ov_types.specs.declared.prefix.Addr.{Addr}
use Rattle.report.specs.Lists.{list_text}
use Rattle.route_targets.specs.Numbers.{circuit_address_of, circuit_instance_of}

abbrev pub instances_text : List InstanceId → List ℕ
instances_text instances = list_text (λ i. decimal i.0) instances

abbrev pub prefixes_text : List Block → List ℕ
prefixes_text prefixes = list_text prefix_text prefixes

-- a service at the address of its node
abbrev pub hop_text : ServiceNo × Addr → List ℕ
hop_text hop = decimal hop.0.0 ++ (codes "@" ++ address_text hop.1.0)

-- what names an object
abbrev pub key_text : LowKey → List ℕ
key_text (Key.Instance n) = codes "instance " ++ decimal n
key_text (Key.Attach label) = codes "attach " ++ decimal label
key_text (Key.Acl from to) = codes "acl " ++ (decimal from ++ (codes " " ++ decimal to))
key_text (Key.ChainUse n) = codes "use " ++ decimal n

-- a line of an object, behind a front
unfoldable pub object_line : List ℕ → LowKey → List ℕ → List ℕ
object_line front key said = front ++ (key_text key ++ (codes " " ++ (said ++ (10 ∷ []))))

-- where something is attached: its instance and its address there, and the address of its node
abbrev pub home_text : ℕ → Addr → Addr → List ℕ
home_text instance address node =
    codes "instance " ++ (decimal instance ++ (codes " address " ++ (address_text address.0 ++ (codes " node "
    ++ address_text node.0))))

abbrev pub protocol_text : Option ℕ → List ℕ
protocol_text None = codes "any"
protocol_text (Some protocol) = decimal protocol

abbrev pub range_text : Range16 → List ℕ
range_text r = decimal r.lo ++ (codes "-" ++ decimal r.hi)

abbrev pub action_text : AclAction → List ℕ
action_text Pass = codes "pass"
action_text Deny = codes "deny"
action_text (Enter instance) = codes "enter " ++ decimal instance.0

-- an entry of an access list: its rule, the protocol, the source ports, the destination ports, and what is done
unfoldable pub entry_text : AclRule → List ℕ
entry_text r =
    rule_text r.rule ++ (codes " " ++ (protocol_text r.protocol ++ (codes " " ++ (range_text r.sports ++ (codes " "
    ++ (range_text r.dports ++ (codes " " ++ action_text r.action)))))))

-- one side of a chain's use: its network, and the subnets there
abbrev pub side_text : InstanceId → List Block → List ℕ
side_text network prefixes = decimal network.0 ++ (codes " " ++ prefixes_text prefixes)

-- what is said of an object in its first line
unfoldable pub said_text : LowValue → List ℕ
said_text (Instance imports) = codes "imports " ++ instances_text imports
said_text (AttachPort port instance address node) =
    codes "port " ++ (decimal port.0 ++ (codes " " ++ home_text instance.0 address node))
said_text (AttachCircuit circuit service node) =
    codes "circuit " ++ (decimal circuit ++ (codes " service " ++ (decimal service.0 ++ (codes " "
    ++ home_text (circuit_instance_of circuit).0 (circuit_address_of circuit) node))))
said_text (Acl subnets rules) = codes "subnets " ++ prefixes_text subnets
said_text (ChainUse left right left_prefixes right_prefixes hops) =
    codes "left " ++ (side_text left left_prefixes ++ (codes " right " ++ (side_text right right_prefixes
    ++ (codes " hops " ++ list_text hop_text hops))))

-- the entries of an access list
abbrev pub rules_of : LowValue → List AclRule
rules_of (Acl subnets rules) = rules
rules_of _ = []

-- an entry of an access list, behind a front
unfoldable pub entry_line : List ℕ → LowKey → AclRule → List ℕ
entry_line front key r = object_line front key (codes "rule " ++ entry_text r)

-- the lines of an object, each behind a front. An access list has one line, and then one for each entry
abbrev pub lines_behind : List ℕ → LowKey × LowValue → List ℕ
lines_behind front o = object_line front o.0 (said_text o.1) ++ flat_map (entry_line front o.0) (rules_of o.1)

-- the lines of an object
abbrev pub object_lines : LowKey × LowValue → List ℕ
object_lines o = lines_behind [] o

-- the lines of objects, in order
abbrev pub low_lines : List (LowKey × LowValue) → List ℕ
low_lines objects = flat_map object_lines objects
