-- The JSON values of what is said of edits. A port is named as in the configuration that the edit made.
use Rattle.std.specs.Prelude.{ℕ, ◌&&◌, nat_le, Bool, true, List, codes}
use Rattle.serde_json.specs.Data.{Data, member, no_members, null, object, string}
use Rattle.config_types.specs.declared.config.Config.{Config}
use Rattle.schedule_script.specs.declared.edits.TiedFault.{TiedFault}
use Rattle.hitless_cells.specs.declared.course.Course.{Course}
use Rattle.hitless_cells.specs.declared.course.Course.TheVariants.{Inside, Passing, Through}
use Rattle.hitless_cells.specs.declared.lines.Difference.{Difference}
use Rattle.hitless_cells.specs.declared.lines.Difference.TheVariants as Is
use Rattle.hitless_cells.specs.declared.lines.Interruption.{Interruption}
use Rattle.inspect_json.specs.OutcomeValues.{port_number_value}
use Rattle.inspect_json.specs.Values.{number_value}
use Rattle.hitless_answers.specs.Lines.{tied_fault_text}

-- the word of a way, and its use, which is `null` where it has none
abbrev pub course_word : Course → List ℕ
course_word Inside = codes "inside"
course_word Passing = codes "pass"
course_word (Through use_no mirrored) = codes "use"

abbrev pub course_use : Course → Data
course_use Inside = null
course_use Passing = null
course_use (Through use_no mirrored) = number_value use_no

unfoldable pub course_value : Course → Data
course_value course = object (member (codes "use") (course_use course)
    (member (codes "way") (string (course_word course)) no_members))

-- the word of what differs, and the other port, which is `null` where there is none
abbrev pub difference_word : Difference → List ℕ
difference_word Is.NotOfferedBefore = codes "not offered before"
difference_word Is.NotOfferedAfter = codes "not offered after"
difference_word Is.Network = codes "network"
difference_word Is.Node = codes "node"
difference_word Is.Services = codes "services"
difference_word Is.Subnet = codes "subnet"
difference_word Is.ControlNodes = codes "control nodes"
difference_word (Is.AnotherPort after) = codes "another port"

abbrev pub other_port_value : Config → Difference → Data
other_port_value c (Is.AnotherPort after) = port_number_value c after
other_port_value c _ = null

-- a packet that the edit of a number interrupts
unfoldable pub packet_value : Config → ℕ → Interruption → Data
packet_value c n l = object (member (codes "becomes") (course_value l.becomes)
    (member (codes "difference") (string (difference_word l.difference))
    (member (codes "dport") (number_value l.tuple.dport)
    (member (codes "edit") (number_value n)
    (member (codes "from") (port_number_value c l.from)
    (member (codes "other_port") (other_port_value c l.difference)
    (member (codes "protocol") (number_value l.tuple.proto)
    (member (codes "sport") (number_value l.tuple.sport)
    (member (codes "to") (port_number_value c l.to)
    (member (codes "was") (course_value l.was) no_members))))))))))

-- why the edit of a number is not made
unfoldable pub refused_value : ℕ → TiedFault → Data
refused_value n fault = object (member (codes "edit") (number_value n)
    (member (codes "refused") (string (tied_fault_text fault)) no_members))

-- how many pairs of ports the edit of a number interrupts
unfoldable pub count_value : ℕ → ℕ → Data
count_value n count = object (member (codes "edit") (number_value n)
    (member (codes "interrupts") (number_value count) no_members))

-- the numbers have the sizes that their types have
abbrev pub has_course_size : Course → Bool
has_course_size (Through use_no mirrored) = nat_le use_no 65535
has_course_size _ = true

abbrev pub has_other_port_size : Difference → Bool
has_other_port_size (Is.AnotherPort after) = nat_le after.0 0xffff_ffff
has_other_port_size _ = true

abbrev pub has_packet_size : Interruption → Bool
has_packet_size l = nat_le l.from.0 0xffff_ffff && nat_le l.to.0 0xffff_ffff && nat_le l.tuple.proto 65535 && nat_le l.tuple.sport 65535
    && nat_le l.tuple.dport 65535 && has_course_size l.was && has_course_size l.becomes && has_other_port_size l.difference
