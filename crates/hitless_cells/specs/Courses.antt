-- By which way a tuple goes from one network into another.
use Rattle.std.specs.Prelude.{Bool, Option, Some, None, if◌then◌else◌}
use Rattle.ov_types.specs.First.{same_name}
use Rattle.ov_types.specs.declared.packet.Tuple.{Tuple}
use Rattle.config_types.specs.declared.config.Action.{Action}
use Rattle.config_types.specs.declared.config.Action.TheVariants as Does
use Rattle.config_types.specs.declared.config.Config.{Config}
use Rattle.config_types.specs.declared.config.Network.{Network}
use Rattle.policy_rules.specs.Matching.{deciding}
use Rattle.policy_rules.specs.declared.matching.Match.{Match}
use Rattle.hitless_cells.specs.Ways.{Way}
use Rattle.hitless_cells.specs.Ways.Way.{inside, passing, through}
use Rattle.hitless_cells.specs.declared.course.Course.{Course}
use Rattle.hitless_cells.specs.declared.course.Course.TheVariants.{Inside, Passing, Through}

-- the way that a course is
abbrev pub way_of : Course → Way
way_of Inside = inside
way_of Passing = passing
way_of (Through use_no mirrored) = through use_no mirrored

-- by which way an action lets packets through
abbrev pub course_of : Bool → Action → Option Course
course_of mirrored Does.Pass = Some Passing
course_of mirrored Does.Deny = None
course_of mirrored (Does.Through chain use_no) = Some (Through use_no mirrored)

-- by which way the rule that decides lets packets through
abbrev pub course_by : Option Match → Option Course
course_by None = None
course_by (Some m) = course_of m.mirrored m.rule.rule.action

-- the way by which a tuple goes, if it is let through: inside one network no rule is asked
abbrev pub course_on : Config → Network → Network → Tuple → Option Course
course_on c own target t = if same_name target.name own.name then Some Inside else course_by (deciding c own target t)
