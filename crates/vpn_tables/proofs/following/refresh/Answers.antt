use Rattle.std.proofs.Common.{◌∙◌}
use Rattle.vpn_tables.proofs.Keeping.{renewed_stored}
use Rattle.vpn_tables.proofs.following.refresh.Goals as goal

pub returns-clause-stored : goal.returns-clause-stored
returns-clause-stored g c = λ h are same k.
    c.drop_empty.ensures k
    ∙ renewed_stored c.args.stored.now c.refresh_each.new.stored c.args.touched.now h c.args.held.now are c.requires.places same c.refresh_each.ensures.entries k
