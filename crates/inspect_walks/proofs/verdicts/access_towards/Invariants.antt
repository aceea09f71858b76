use Rattle.std.proofs.Common.{◌≡◌, drop}
use Rattle.ov_types.specs.Access.{access_towards, lesser}
use Rattle.inspect_walks.specs.Taking.{as_access}
use Rattle.inspect_walks.proofs.verdicts.access_towards.Given as goal

abbrev pub invariant-loop-list : goal.invariant-loop-list
invariant-loop-list l =
    lesser (as_access l.least) (access_towards l.network.0 l.address.0 (drop l.list-index l.lists))
    ≡ access_towards l.network.0 l.address.0 l.lists
