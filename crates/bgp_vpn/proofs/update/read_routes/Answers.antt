use Rattle.std.proofs.Common.{[], ap, ◌∙◌}
use Rattle.std.proofs.lemmas.Result.{err_from_is_err_and}
use Rattle.bgp_wire.proofs.Attributing.{some_split}
use Rattle.bgp_vpn.specs.Said.{changes_said}
use Rattle.bgp_vpn.proofs.UpdateLemmas.{makes, fails, one_changes}
use Rattle.bgp_vpn.proofs.SaidLemmas.{found_changes}
use Rattle.bgp_vpn.proofs.update.read_routes.Goals as goal

pub returns-in_err-found-clause-fault : goal.returns-in_err-found-clause-fault
returns-in_err-found-clause-fault c =
    let p = err_from_is_err_and c.from_residual.result c.from_residual.ensures.1 in
    rw (p.1, p.2) (fails _ _ _ (some_split c.args.part.now.attributes.now c.in_err-found.ensures.octets) c.in_err-found.ensures.checks)

pub returns-clause-said : goal.returns-clause-said
returns-clause-said c =
    makes _ _ _ (some_split c.args.part.now.attributes.now c.in_ok-found.ensures.octets) c.in_ok-found.ensures.checks
    (λ all withdrawn reached are gone announced.
    ap changes_said c.in_ok-said_in.ensures
    ∙ found_changes _ all withdrawn reached (c.in_ok-found.ensures.found all [] are) gone announced)

pub returns-clause-every_change : goal.returns-clause-every_change
returns-clause-every_change c = λ deltas changes. one_changes _ _ _ deltas (returns-clause-said c) changes
