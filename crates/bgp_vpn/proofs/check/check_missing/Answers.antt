use Rattle.std.proofs.Common.{subst}
use Rattle.bgp_wire.specs.Faults.{Checks}
use Rattle.bgp_vpn.proofs.FoundLemmas.{lacking_is}
use Rattle.bgp_vpn.proofs.check.check_missing.Goals as goal

pub returns : goal.returns
returns c = λ all is. subst (Checks c.check_lacking.result) (lacking_is c.args.found.now c.args.routes_follow all is) c.check_lacking.ensures
