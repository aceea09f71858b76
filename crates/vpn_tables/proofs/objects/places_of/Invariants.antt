use Rattle.std.proofs.Common.{◌≡◌, map}
use Rattle.node_model.specs.Reaching.{below}
use Rattle.route_targets.specs.Numbers.{hop_instance_of}
use Rattle.vpn_tables.proofs.objects.places_of.Given as goal

abbrev pub invariant-loop-place : goal.invariant-loop-place
invariant-loop-place l = l.instances.items ≡ map (hop_instance_of l.number) (below l.place)
