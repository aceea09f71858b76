use Rattle.std.proofs.Common.{◌≡◌, ◌++◌, drop, filter}
use Rattle.ov_types.specs.First.{same_name}
use Rattle.hitless_cells.proofs.joints.of_network_before.Given as goal

abbrev pub invariant-loop-joint : goal.invariant-loop-joint
invariant-loop-joint l = l.list.items ++ filter (λ j. same_name j.before.network l.network) (drop l.joint-index l.joints) ≡ filter (λ j. same_name j.before.network l.network) l.joints
