use Rattle.std.proofs.Common.{◌≡◌, ◌<◌, ◌+◌, ◌++◌, [], length, map, option_map}
use Rattle.route_targets.specs.Forwarding.{walk}
use Rattle.packet_trace.specs.Lookups.{hop_of, lookups_from}
use Rattle.packet_trace.specs.Steps.{lookup_at}
use Rattle.packet_trace.proofs.tracing.walk.Given as goal

abbrev pub invariant-loop-left : goal.invariant-loop-left
invariant-loop-left g l =
    let agents = map g.V.Vrouter.forwarder l.agents in
    record {
      within : l.place.agent < length l.agents;
      walked : option_map (λ x. walk agents l.address.0 l.left x.agent l.services x.instance) (lookup_at agents l.place)
          ≡ option_map (λ x. walk agents l.address.0 l.lookups x.agent [] x.instance) (lookup_at agents l.fn.start);
      hopped : option_map (λ x. l.hops ++ map hop_of (lookups_from agents l.address.0 l.left x)) (lookup_at agents l.place)
          ≡ option_map (λ x. map hop_of (lookups_from agents l.address.0 l.lookups x)) (lookup_at agents l.fn.start);
      services : length l.services + l.left ≡ l.lookups;
      hops : length l.hops + l.left ≡ l.lookups;
    }

abbrev pub decreases-loop-left : goal.decreases-loop-left
decreases-loop-left g l = l.left
