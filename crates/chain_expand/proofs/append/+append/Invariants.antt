use Rattle.std.proofs.Common.{◌≡◌, ◌+◌, ◌*◌, ◌++◌, take}
use Rattle.std.specs.List.{flat_map}
use Rattle.chain_expand.specs.Room.{AreBarren}
use Rattle.chain_expand.specs.Expansion.{services_within}
use Rattle.chain_expand.proofs.append.+append.Given as goal

abbrev pub decreases-append_hop : goal.decreases-append_hop
decreases-append_hop l = 3 * l.depth

abbrev pub decreases-append_chain : goal.decreases-append_chain
decreases-append_chain l = 3 * l.depth + 2

abbrev pub decreases-append_hops : goal.decreases-append_hops
decreases-append_hops l = 3 * l.depth + 1

abbrev pub invariant-append_hops-loop-hop : goal.invariant-append_hops-loop-hop
invariant-append_hops-loop-hop l = record {
  found : l.found ≡ l.fn.found ++ flat_map (services_within l.depth l.config) (take l.hop-index l.hops);
  barren : AreBarren l.config l.barren;
}
