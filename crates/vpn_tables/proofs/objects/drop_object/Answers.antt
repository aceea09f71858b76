use Rattle.vpn_tables.proofs.Emptied.{object_stored}
use Rattle.vpn_tables.proofs.objects.drop_object.Goals as goal

pub returns-clause-stored : goal.returns-clause-stored
returns-clause-stored c =
    object_stored c.args.stored.now c.refresh_stored.new.stored c.args.held.now c.set_low.new.self c.args.of c.in_ok-set_low.ensures.ok c.requires c.refresh_stored.ensures
