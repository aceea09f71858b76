use Rattle.std.proofs.Common.{◌≡◌, ◌++◌, drop, flat_map}
use Rattle.hitless_cells.specs.Ends.{joints, joints_from}
use Rattle.hitless_cells.proofs.joints.joints.Given as goal

abbrev pub invariant-loop-port : goal.invariant-loop-port
invariant-loop-port l = l.list.items ++ flat_map (joints_from l.before l.after l.meeting) (drop l.port-index l.before.config.ports) ≡ joints l.before l.after l.meeting
