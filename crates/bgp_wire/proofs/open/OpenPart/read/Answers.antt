use Rattle.std.proofs.Common.{arith, subst, ap, ◌∙◌}
use Rattle.std.proofs.lemmas.Grind.{merely}
use Rattle.byteorder.specs.Endian.{big_number}
use Rattle.bgp_wire.specs.Opens.{AreParameters}
use Rattle.bgp_wire.specs.Capabilities.{parameters_in}
use Rattle.bgp_wire.proofs.Octets.{range_from}
use Rattle.bgp_wire.proofs.OpenBodies.{open_is}
use Rattle.bgp_wire.proofs.open.OpenPart.read.Goals as goal

pub returns-clause-open : goal.returns-clause-open
returns-clause-open c =
    let body = c.args.body.now in
    open_is body _ (λ k. omega (arith, c.type_inv.body k)) (omega arith) c.in_ok-check_open.ensures
    (subst AreParameters (range_from 10 body) c.in_ok-check_parameters.ensures)
    (c.read_u16.ensures ∙ ap (big_number 2) (range_from 1 body))
    (c.read_u16-2.ensures ∙ ap (big_number 2) (range_from 3 body))
    (c.read_u32.ensures ∙ ap (big_number 4) (range_from 5 body))
    (ap parameters_in (range_from 10 body))

pub invariant_of-result : goal.invariant_of-result
invariant_of-result c = merely c.in_ok-check_parameters.ensures
