use Rattle.std.proofs.Common.{◌≡◌}
use Rattle.ov_types.specs.Access.{access_towards, lesser}
use Rattle.flow_acl.specs.Taking.{as_access}
use Rattle.flow_acl.proofs.verdicts.access_towards.Given as goal

abbrev pub invariant-loop-key : goal.invariant-loop-key
invariant-loop-key l =
    lesser (as_access l.least) (access_towards l.network.0 l.address.0 l.key-iterator)
    ≡ access_towards l.network.0 l.address.0 l.acls
