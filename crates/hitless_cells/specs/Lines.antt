-- Which packets between two ports a change interrupts: one line for each two ports, of the least such packet.
use Rattle.std.specs.Prelude.{ℕ, ◌==◌, ◌&&◌, ◌||◌, nat_lt, not, Bool, true, false, List, [], ◌∷◌, find, flat_map}
use Rattle.std.specs.Prelude.{Option, Some, None, option_map, option_to_list, if◌then◌else◌}
use Rattle.ov_types.specs.Prefix.{Block, contains}
use Rattle.ov_types.specs.declared.packet.Tuple.{Tuple}
use Rattle.config_types.specs.declared.config.Network.{Network}
use Rattle.config_check.specs.Checked.{Checked}
use Rattle.hitless_cells.specs.Cells.{are_near, cells_of}
use Rattle.hitless_cells.specs.Ends.{ends_of}
use Rattle.hitless_cells.specs.Openings.{worse}
use Rattle.hitless_cells.specs.declared.cells.Cell.{Cell}
use Rattle.hitless_cells.specs.declared.changes.Change.{Change}
use Rattle.hitless_cells.specs.declared.changes.Change.TheVariants.{Same, Listening, Place}
use Rattle.hitless_cells.specs.declared.course.Course.{Course}
use Rattle.hitless_cells.specs.declared.course.Course.TheVariants.{Inside, Passing, Through}
use Rattle.hitless_cells.specs.declared.ends.Ends.{Ends}
use Rattle.hitless_cells.specs.declared.joints.Joint.{Joint}
use Rattle.hitless_cells.specs.declared.joints.Meeting.TheVariants.{ByNumber, ByAddress}
use Rattle.hitless_cells.specs.declared.lines.Difference.{Difference}
use Rattle.hitless_cells.specs.declared.lines.Difference.TheVariants as Is
use Rattle.hitless_cells.specs.declared.lines.Interruption.{Interruption}
use Rattle.hitless_cells.specs.declared.openings.Opening.{Opening}
use Rattle.hitless_cells.specs.declared.openings.Opening.TheVariants.{NotBefore, NotAfter, Both}

-- ---- what differs first
-- the subnet of a network that holds an address
abbrev pub subnet_at : Network → ℕ → Option Block
subnet_at n address = find (λ s. contains s address) n.subnets

abbrev pub same_found : Option Block → Option Block → Bool
same_found None other = false
same_found (Some p) None = false
same_found (Some p) (Some q) = (p.addr == q.addr) && (p.len == q.len)

-- one subnet holds an address before and after
abbrev pub same_subnet : Ends → ℕ → Bool
same_subnet to address = same_found (subnet_at to.before address) (subnet_at to.after address)

abbrev pub leads : Course → Bool
leads Inside = false
leads Passing = false
leads (Through use_no mirrored) = true

-- a way of a cell leads through a chain, and another subnet holds the address
abbrev pub subnet_counts : Ends → ℕ → Cell → Bool
subnet_counts to address cell = (leads cell.was || leads cell.becomes) && not (same_subnet to address)

abbrev pub is_place : Change → Bool
is_place Place = true
is_place Same = false
is_place Listening = false

abbrev pub listening : Change → Option Difference
listening Same = None
listening Listening = Some Is.ControlNodes
listening Place = Some Is.ControlNodes

-- what differs first where both ways lie open before and after: the networks' numbers, the compute nodes of the ports, the
-- services on the ways, the subnet, and then the control nodes that some of the compute nodes listen to
abbrev pub first_difference : Bool → Change → Change → Bool → Option Difference
first_difference same_numbers nodes services other_subnet =
    if not same_numbers then Some Is.Network
    else (if is_place nodes then Some Is.Node
    else (if is_place services then Some Is.Services
    else (if other_subnet then Some Is.Subnet
    else listening (worse nodes services))))

abbrev pub difference_by : Ends → Ends → Joint → Joint → Cell → Opening → Option Difference
difference_by from to source arrival cell NotBefore = Some Is.NotOfferedBefore
difference_by from to source arrival cell NotAfter = Some Is.NotOfferedAfter
difference_by from to source arrival cell (Both services) =
    first_difference ((from.before.id.0 == from.after.id.0) && (to.before.id.0 == to.after.id.0))
    (worse source.change arrival.change) services (subnet_counts to arrival.before.address.0 cell)

abbrev pub difference_of : Ends → Ends → Joint → Joint → Cell → Option Difference
difference_of from to source arrival cell = difference_by from to source arrival cell cell.opening

-- what differs first of a cell's packet between two ports
abbrev pub difference_at : Ends → Ends → Joint → Joint → Cell → Option Difference
difference_at from to source arrival cell =
    if arrival.before.id.0 == arrival.after.id.0 then difference_of from to source arrival cell
    else Some (Is.AnotherPort arrival.after.id)

-- ---- the line of two ports
abbrev pub line_with : Joint → Joint → Cell → Difference → Interruption
line_with source arrival cell d = record {
  from = source.before.id;
  to = arrival.before.id;
  tuple = cell.tuple;
  was = cell.was;
  becomes = cell.becomes;
  difference = d;
}

-- the line of a cell's packet, if it is not kept
abbrev pub line_on : Ends → Ends → Joint → Joint → Cell → Option Interruption
line_on from to source arrival cell =
    option_map (line_with source arrival cell) (difference_at from to source arrival cell)

-- tuples go by protocol, then by source port, then by destination port
abbrev pub comes_first : Tuple → Tuple → Bool
comes_first t u =
    if t.proto == u.proto
    then (if t.sport == u.sport then nat_lt t.dport u.dport else nat_lt t.sport u.sport)
    else nat_lt t.proto u.proto

-- the one of two lines with the lesser tuple
abbrev pub lesser : Option Interruption → Option Interruption → Option Interruption
lesser None other = other
lesser (Some l) None = Some l
lesser (Some l) (Some m) = if comes_first m.tuple l.tuple then Some m else Some l

abbrev pub best_line : Ends → Ends → Joint → Joint → Option Interruption → List Cell → Option Interruption
best_line from to source arrival best [] = best
best_line from to source arrival best (cell ∷ cells) =
    best_line from to source arrival (lesser best (line_on from to source arrival cell)) cells

abbrev pub lines_at : Ends → Ends → List Cell → Joint → Joint → List Interruption
lines_at from to cells source arrival = option_to_list (best_line from to source arrival None cells)

abbrev pub lines_from : Ends → Ends → List Cell → Joint → List Interruption
lines_from from to cells source = flat_map (lines_at from to cells source) to.joints

-- the lines of the ports of two networks
abbrev pub lines_of : Ends → Ends → List Cell → List Interruption
lines_of from to cells = flat_map (lines_from from to cells) from.joints

-- ---- all lines
abbrev pub lines_between : Checked → Checked → Ends → Ends → List Interruption
lines_between x y from to =
    if are_near x from.before to.before y from.after to.after
    then lines_of from to (cells_of x from.before to.before y from.after to.after)
    else []

abbrev pub lines_out : Checked → Checked → List Ends → Ends → List Interruption
lines_out x y arrivals from = flat_map (lines_between x y from) arrivals

-- the lines of all ports of two configurations
abbrev pub all_lines : Checked → Checked → List Interruption
all_lines x y = flat_map (lines_out x y (ends_of x y ByAddress)) (ends_of x y ByNumber)

-- ---- the order of lines
-- a line in its place by a number, before those of no lesser one
abbrev pub put_line : (Interruption → ℕ) → Interruption → List Interruption → List Interruption
put_line number l [] = l ∷ []
put_line number l (m ∷ ms) =
    if nat_lt (number m) (number l) then m ∷ put_line number l ms else l ∷ m ∷ ms

-- lines by a number, and those of one number in their order
abbrev pub by_number : (Interruption → ℕ) → List Interruption → List Interruption
by_number number [] = []
by_number number (l ∷ ls) = put_line number l (by_number number ls)

-- lines by the port that packets leave, and those of one by the port that they are delivered to before
abbrev pub by_ports : List Interruption → List Interruption
by_ports ls = by_number (λ l. l.from.0) (by_number (λ l. l.to.0) ls)

-- the packets that a change interrupts
abbrev pub interruptions : Checked → Checked → List Interruption
interruptions x y = by_ports (all_lines x y)
