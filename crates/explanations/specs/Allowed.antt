-- Which members an object of a document may have, as docs/FORMATS.md has them.
use Rattle.std.specs.Prelude.{ℕ, ◌==◌, ◌||◌, Bool, List, codes, nat_eq, if◌then◌else◌}
use Rattle.std.specs.Cmp.Lexicographic.{pointwise}
use Rattle.std.specs.List.{before_first}
use Rattle.explanations.specs.Wanted.{before_point, behind_point, member_name, no_phrase}

abbrev is : List ℕ → List ℕ → Bool
is word text = pointwise nat_eq word text

-- the first member of a path, without the place of an item
abbrev pub first_member : List ℕ → List ℕ
first_member path = member_name (before_first (λ c. c == 46) path)

-- the members of an object in a list of the commands, and of an edit in one: events, steps and edits have one member
unfoldable pub listed_members : List ℕ → List ℕ
listed_members parent =
    if is parent (codes "packets")
    then codes "port, to, protocol, sport and dport, and for inspect expect also expect"
    else (if is parent (codes "trace") then codes "port, to, protocol, sport and dport"
    else (if is parent (codes "expect") then codes "port and services"
    else (if is parent (codes "groups") then codes "service and members"
    else (if is parent (codes "events")
    then codes "one of edit, deliver, deliver-bytes, lose, connect, restart, show, trace and break in run, and of opened and update in graceful"
    else (if is parent (codes "steps") then codes "one of edit and trace"
    else (if is parent (codes "edit") || is parent (codes "edits") then codes "one of put and delete"
    else (if is parent (codes "put") || is parent (codes "delete")
    then codes "one of network, port, policy, service, chain and node"
    else no_phrase)))))))

-- the members of the object that stands in a list of this name, or under it; the document stands under none
unfoldable pub members_of : List ℕ → List ℕ
members_of parent =
    if is parent (codes "")
    then codes "compile and constrain take topology and configuration, reach packets too, scale groups and packets, run events, flows capacity and steps, and graceful takes events alone; of inspect, ways, diff and unused take what compile takes, why and expect what reach takes, and hitless edits too"
    else (if is parent (codes "topology") then codes "as, controllers and nodes"
    else (if is parent (codes "controllers") then codes "name and address"
    else (if is parent (codes "nodes") || is parent (codes "node") then codes "name, address and controllers"
    else (if is parent (codes "configuration") then codes "networks, ports, policies, services and chains"
    else (if is parent (codes "networks") || is parent (codes "network") then codes "name, id, subnets and policies"
    else (if is parent (codes "ports") || is parent (codes "port") then codes "name, id, network, address and node"
    else (if is parent (codes "policies") || is parent (codes "policy") then codes "name, sequence and rules"
    else (if is parent (codes "rules")
    then codes "direction, source, destination, protocol, source_ports, destination_ports and action, and with the action chain alone chain and use"
    else (if is parent (codes "services") || is parent (codes "service") then codes "name, id and node"
    else (if is parent (codes "chains") || is parent (codes "chain") then codes "name and hops"
    else listed_members parent))))))))))

-- a path begins with a member of the document in which there are objects, or has no point: other names may have points
unfoldable pub begins_in_form : List ℕ → Bool
begins_in_form path =
    let word = first_member path in
    is word (codes "") || (is word (codes "topology") || (is word (codes "configuration") || (is word (codes "packets")
    || (is word (codes "groups") || (is word (codes "events") || (is word (codes "steps") || is word (codes "edits")))))))

-- the members of the object that a path leads into
unfoldable pub allowed_at : List ℕ → List ℕ
allowed_at path =
    let front = before_point path in
    if begins_in_form front then members_of (member_name (behind_point front)) else members_of (codes "")
