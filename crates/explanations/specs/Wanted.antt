-- What the form wants at a place of a document, as a phrase, by the end of the place's path.
use Rattle.std.specs.Prelude.{ℕ, ◌==◌, ◌||◌, Bool, List, codes, nat_eq, if◌then◌else◌}
use Rattle.std.specs.Cmp.Lexicographic.{pointwise}
use Rattle.std.specs.List.{after_last, before_first, before_last}
use Rattle.explanations.specs.Words.{ends_so}

-- what stands before the last point of a path, or nothing where there is none
abbrev pub before_point : List ℕ → List ℕ
before_point path = before_last (λ c. c == 46) path

-- what stands behind the last point of a path, or all where there is none
abbrev pub behind_point : List ℕ → List ℕ
behind_point path = after_last (λ c. c == 46) path

-- a member without the place of an item
abbrev pub member_name : List ℕ → List ℕ
member_name word = before_first (λ c. c == 91) word

-- a word leads to an item of its list
abbrev pub is_item : List ℕ → Bool
is_item word = ends_so (codes "]") word

abbrev is : List ℕ → List ℕ → Bool
is word text = pointwise nat_eq word text

-- what is said of a place that the form does not have
abbrev pub no_phrase : List ℕ
no_phrase = codes "docs/FORMATS.md has it"

-- phrases of several places
abbrev object : List ℕ
object = codes "an object"

abbrev list : List ℕ
list = codes "a list"

abbrev name : List ℕ
name = codes "a name of 1 to 32 of the characters a to z, 0 to 9, - and _"

abbrev node_name : List ℕ
node_name = codes "a name of 1 to 32 of the characters a to z, 0 to 9, - and _, but not config"

abbrev node_address : List ℕ
node_address = codes "an address from 1.0.0.0 to 223.255.255.255"

abbrev address : List ℕ
address = codes "an address such as 10.1.0.5"

abbrev port_id : List ℕ
port_id = codes "a whole number from 0 to 524271"

abbrev sixteen_bits : List ℕ
sixteen_bits = codes "a whole number from 0 to 65535"

abbrev edit : List ℕ
edit = codes "an object with one member, put or delete"

-- the members of each object, in the order of docs/FORMATS.md; the document is that of the empty path
unfoldable pub document_member : List ℕ → List ℕ
document_member member =
    if is member (codes "") || is member (codes "topology") || is member (codes "configuration") then object
    else (if is member (codes "packets") || is member (codes "groups") || is member (codes "events")
    || is member (codes "steps") || is member (codes "edits") then list
    else (if is member (codes "capacity") then codes "a whole number from 1 to 65535"
    else no_phrase))

unfoldable pub topology_member : List ℕ → List ℕ
topology_member member =
    if is member (codes "as") then codes "a whole number from 1 to 4294967294, neither 23456 nor 65535"
    else (if is member (codes "controllers") then codes "a list of at least one control node"
    else (if is member (codes "nodes") then codes "a list of at least one compute node"
    else no_phrase))

unfoldable pub controller_member : List ℕ → List ℕ
controller_member member =
    if is member (codes "name") then node_name
    else (if is member (codes "address") then node_address
    else no_phrase)

unfoldable pub node_member : List ℕ → List ℕ
node_member member =
    if is member (codes "name") then node_name
    else (if is member (codes "address") then node_address
    else (if is member (codes "controllers") then codes "a list of one or two names"
    else no_phrase))

unfoldable pub configuration_member : List ℕ → List ℕ
configuration_member member =
    if is member (codes "networks") || is member (codes "ports") || is member (codes "policies")
    || is member (codes "services") || is member (codes "chains") then list
    else no_phrase

unfoldable pub network_member : List ℕ → List ℕ
network_member member =
    if is member (codes "name")
    then codes "a name of 1 to 32 of the characters a to z, 0 to 9, - and _, but not any"
    else (if is member (codes "id") then codes "a whole number from 1 to 16383"
    else (if is member (codes "subnets") then codes "a list of prefixes"
    else (if is member (codes "policies") then codes "a list of names"
    else no_phrase)))

unfoldable pub port_member : List ℕ → List ℕ
port_member member =
    if is member (codes "name") || is member (codes "network") || is member (codes "node") then name
    else (if is member (codes "id") then port_id
    else (if is member (codes "address") then address
    else no_phrase))

unfoldable pub policy_member : List ℕ → List ℕ
policy_member member =
    if is member (codes "name") then name
    else (if is member (codes "sequence") then sixteen_bits
    else (if is member (codes "rules") then list
    else no_phrase))

unfoldable pub rule_member : List ℕ → List ℕ
rule_member member =
    if is member (codes "direction") then codes "> or <>"
    else (if is member (codes "source") || is member (codes "destination")
    then codes "the name of a network, 1 to 32 of the characters a to z, 0 to 9, - and _, or any"
    else (if is member (codes "protocol") then codes "a whole number from 0 to 255, or any"
    else (if is member (codes "source_ports") || is member (codes "destination_ports")
    then codes "a list of two numbers, the first not above the second"
    else (if is member (codes "action") then codes "pass, deny or chain"
    else (if is member (codes "chain") then name
    else (if is member (codes "use") then codes "a whole number from 0 to 3071"
    else no_phrase))))))

unfoldable pub service_member : List ℕ → List ℕ
service_member member =
    if is member (codes "name") || is member (codes "node") then name
    else (if is member (codes "id") then sixteen_bits
    else no_phrase)

unfoldable pub chain_member : List ℕ → List ℕ
chain_member member =
    if is member (codes "name") then name
    else (if is member (codes "hops") then codes "a list of at least one name"
    else no_phrase)

unfoldable pub packet_member : List ℕ → List ℕ
packet_member member =
    if is member (codes "port") then port_id
    else (if is member (codes "to") then address
    else (if is member (codes "protocol") then codes "a whole number from 0 to 255"
    else (if is member (codes "sport") || is member (codes "dport") then sixteen_bits
    else (if is member (codes "expect")
    then codes "dropped, dropped and a reason such as denied, or an object with port and services"
    else no_phrase))))

-- what is wanted of a member of what is expected of a packet that is delivered
unfoldable pub expect_member : List ℕ → List ℕ
expect_member member =
    if is member (codes "port") then port_id
    else (if is member (codes "services")
    then codes "a list of numbers of services, in the order in which the packet passes them"
    else no_phrase)

unfoldable pub group_member : List ℕ → List ℕ
group_member member =
    if is member (codes "service")
    then codes "the name of a service of the configuration, which no earlier group names"
    else (if is member (codes "members") then codes "a list of 1 to 16 numbers, each below the next"
    else no_phrase)

-- what is wanted of a schedule's event, of a log's entry and of a step: each has one of these members
unfoldable pub event_member : List ℕ → List ℕ
event_member member =
    if is member (codes "edit") then edit
    else (if is member (codes "deliver") || is member (codes "deliver-bytes") || is member (codes "break")
    then codes "a list of two names and a number"
    else (if is member (codes "lose") || is member (codes "connect") then codes "a list of two names"
    else (if is member (codes "restart") || is member (codes "show") then name
    else (if is member (codes "trace") then object
    else (if is member (codes "opened") then codes "an OPEN without a fault of its frame or its parts, in pairs of hexadecimal digits"
    else (if is member (codes "update") then codes "an UPDATE without a fault of its frame or its parts, in pairs of hexadecimal digits; its attributes may have faults"
    else no_phrase))))))

unfoldable pub edit_member : List ℕ → List ℕ
edit_member member =
    if is member (codes "put") || is member (codes "delete")
    then codes "an object with one member: network, port, policy, service, chain or node"
    else no_phrase

-- what is wanted of a kind of object: in a put an object, in a delete a name
unfoldable pub kind_member : List ℕ → List ℕ → List ℕ
kind_member phrase member =
    if is member (codes "network") || is member (codes "port") || is member (codes "policy")
    || is member (codes "service") || is member (codes "chain") || is member (codes "node") then phrase
    else no_phrase

-- what is wanted of a member of an edit, by itself or in an event, and of what it puts and deletes
unfoldable pub edited_member : List ℕ → List ℕ → List ℕ
edited_member parent member =
    if is parent (codes "edit") || is parent (codes "edits") then edit_member member
    else (if is parent (codes "put") then kind_member object member
    else (if is parent (codes "delete") then kind_member name member
    else no_phrase))

-- what is wanted of a member of an object in a list of the commands: packets, groups, events, steps and edits
unfoldable pub listed_member : List ℕ → List ℕ → List ℕ
listed_member parent member =
    if is parent (codes "packets") || is parent (codes "trace") then packet_member member
    else (if is parent (codes "expect") then expect_member member
    else (if is parent (codes "groups") then group_member member
    else (if is parent (codes "events") || is parent (codes "steps") then event_member member
    else edited_member parent member)))

-- what is wanted of a member behind another: an object is in a list, or stands alone in an edit
unfoldable pub member_wanted : List ℕ → List ℕ → List ℕ
member_wanted parent member =
    if is parent (codes "") then document_member member
    else (if is parent (codes "topology") then topology_member member
    else (if is parent (codes "controllers") then controller_member member
    else (if is parent (codes "nodes") || is parent (codes "node") then node_member member
    else (if is parent (codes "configuration") then configuration_member member
    else (if is parent (codes "networks") || is parent (codes "network") then network_member member
    else (if is parent (codes "ports") || is parent (codes "port") then port_member member
    else (if is parent (codes "policies") || is parent (codes "policy") then policy_member member
    else (if is parent (codes "rules") then rule_member member
    else (if is parent (codes "services") || is parent (codes "service") then service_member member
    else (if is parent (codes "chains") || is parent (codes "chain") then chain_member member
    else listed_member parent member))))))))))

-- what is wanted of an item of three lists, by the object that the list is of
unfoldable pub controllers_item : List ℕ → List ℕ
controllers_item parent =
    if is parent (codes "topology") then object
    else (if is parent (codes "nodes") || is parent (codes "node") then name
    else no_phrase)

unfoldable pub policies_item : List ℕ → List ℕ
policies_item parent =
    if is parent (codes "configuration") then object
    else (if is parent (codes "networks") || is parent (codes "network") then name
    else no_phrase)

unfoldable pub services_item : List ℕ → List ℕ
services_item parent =
    if is parent (codes "configuration") then object
    else (if is parent (codes "expect") then sixteen_bits
    else no_phrase)

-- a word leads to the third item of its list
abbrev pub is_third : List ℕ → Bool
is_third word = ends_so (codes "[2]") word

-- what is wanted of an item of a list of two names and a number
abbrev pub item_of_three : List ℕ → List ℕ
item_of_three word = if is_third word then codes "a whole number from 1 to 1000000" else name

-- what is wanted of an item of a list that is a member behind another; the word has its place beside the member
unfoldable pub item_wanted : List ℕ → List ℕ → List ℕ → List ℕ
item_wanted parent member word =
    if is member (codes "controllers") then controllers_item parent
    else (if is member (codes "policies") then policies_item parent
    else (if is member (codes "services") then services_item parent
    else (if is member (codes "nodes") || is member (codes "networks") || is member (codes "ports")
    || is member (codes "chains") || is member (codes "rules")
    || is member (codes "packets") || is member (codes "groups") then object
    else (if is member (codes "edits") then edit
    else (if is member (codes "subnets") then codes "a prefix such as 10.1.0.0/24, with no bit set past its length"
    else (if is member (codes "source_ports") || is member (codes "destination_ports")
    || is member (codes "members") then sixteen_bits
    else (if is member (codes "hops") || is member (codes "lose") || is member (codes "connect") then name
    else (if is member (codes "deliver") || is member (codes "deliver-bytes") || is member (codes "break")
    then item_of_three word
    else (if is member (codes "steps") then codes "an object with one member, edit or trace"
    else (if is member (codes "events")
    then codes "of run round, settle or an object with one member: edit, deliver, deliver-bytes, lose, connect, restart, show, trace or break; of graceful closed, expired, show or an object with one member: opened or update"
    else no_phrase))))))))))

-- what is wanted at a path, by its last member and the one before
unfoldable pub wanted_at : List ℕ → List ℕ
wanted_at path =
    let word = behind_point path in
    let parent = member_name (behind_point (before_point path)) in
    if is_item word then item_wanted parent (member_name word) word else member_wanted parent (member_name word)
