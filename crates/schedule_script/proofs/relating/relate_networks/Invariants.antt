use Rattle.std.proofs.Common.{◌≡◌, ◌||◌, drop}
use Rattle.std.specs.List.{list_any}
use Rattle.ov_types.specs.declared.numbers.InstanceId.{InstanceId}
use Rattle.schedule_script.specs.Kept.{are_in}
use Rattle.schedule_script.specs.Relating.{relates_one}
use Rattle.schedule_script.proofs.relating.relate_networks.Given as goal

abbrev pub invariant-loop-network : goal.invariant-loop-network
invariant-loop-network l =
    (a b : InstanceId) → (are_in l.related.keys a b || list_any (relates_one l.config a b) (drop l.network-index l.network-items))
    ≡ (are_in l.fn.related.keys a b || list_any (relates_one l.config a b) l.config.networks)
