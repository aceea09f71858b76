use Rattle.std.proofs.Common.{◌≡◌, ◌++◌, drop, flat_map}
use Rattle.hitless_cells.specs.Ends.{joints_from, joints_if}
use Rattle.hitless_cells.proofs.joints.push_from.Given as goal

abbrev pub invariant-loop-other : goal.invariant-loop-other
invariant-loop-other l = l.list.items ++ flat_map (joints_if l.before l.after l.meeting l.port) (drop l.other-index l.after.config.ports) ≡ l.initial.list.items ++ joints_from l.before l.after l.meeting l.port
