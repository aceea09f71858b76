use Rattle.std.proofs.Common.{subst, sym}
use Rattle.rt_membership.specs.Written.{MakesIt}
use Rattle.rt_membership.proofs.write.attributes_of.Goals as goal

pub returns-in-Put-clause-change : goal.returns-in-Put-clause-change
returns-in-Put-clause-change c =
    subst (λ d. MakesIt d c.args.next_hop) (sym c.in-Put.is) c.put_attributes.ensures.change
