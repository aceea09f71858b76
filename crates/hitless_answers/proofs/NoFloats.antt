-- No value of a line of JSON has a float.
use Rattle.std.proofs.Common.{◌≡◌, false, ℕ, refl}
use Rattle.serde_json.specs.Written.{has_float}
use Rattle.config_types.specs.declared.config.Config.{Config}
use Rattle.schedule_script.specs.declared.edits.TiedFault.{TiedFault}
use Rattle.hitless_cells.specs.declared.course.Course.{Course}
use Rattle.hitless_cells.specs.declared.course.Course.TheVariants.{Inside, Passing, Through}
use Rattle.hitless_cells.specs.declared.lines.Difference.{Difference}
use Rattle.hitless_cells.specs.declared.lines.Difference.TheVariants as Is
use Rattle.hitless_cells.specs.declared.lines.Interruption.{Interruption}
use Rattle.inspect_json.proofs.NoFloats.{port_number}
use Rattle.hitless_answers.specs.EditValues.{count_value, course_use, course_value, other_port_value, packet_value, refused_value}

uses : (x : Course) → has_float (course_use x) ≡ false
uses Inside = refl
uses Passing = refl
uses (Through use_no mirrored) = refl

way : (x : Course) → has_float (course_value x) ≡ false
unfolding course_value
way x = rw (uses x) refl

other_port : (c : Config) (difference : Difference) → has_float (other_port_value c difference) ≡ false
other_port c Is.NotOfferedBefore = refl
other_port c Is.NotOfferedAfter = refl
other_port c Is.Network = refl
other_port c Is.Node = refl
other_port c Is.Services = refl
other_port c Is.Subnet = refl
other_port c Is.ControlNodes = refl
other_port c (Is.AnotherPort after) = port_number c after

pub packet : (c : Config) (n : ℕ) (l : Interruption) → has_float (packet_value c n l) ≡ false
unfolding packet_value
packet c n l = rw (way l.becomes, port_number c l.from, other_port c l.difference, port_number c l.to, way l.was) refl

pub refused : (n : ℕ) (fault : TiedFault) → has_float (refused_value n fault) ≡ false
unfolding refused_value
refused n fault = refl

pub count : (n k : ℕ) → has_float (count_value n k) ≡ false
unfolding count_value
count n k = refl
