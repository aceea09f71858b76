use Rattle.std.proofs.Common.{◌≡◌, ◌++◌, map}
use Rattle.path_select.specs.NodeModel.Reaching.{below}
use Rattle.path_select.specs.NodeModel.Uses.{hop}
use Rattle.vpn_holdings.proofs.listing.push_places.Given as goal

abbrev pub invariant-loop-place : goal.invariant-loop-place
invariant-loop-place l =
    l.instances.items ≡ l.fn.instances.items ++ map (hop l.side.chain) (below l.place)
