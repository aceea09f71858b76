use Rattle.control_wants.specs.Held.{told_in}
use Rattle.control_wants.proofs.OneKey.{sliced_wanted}
use Rattle.control_wants.proofs.keyed.wanted_object.Goals as goal

pub returns : goal.returns
returns c =
    let h = c.args.tables.now in
    sliced_wanted h (told_in h.agents c.args.session) c.args.key.now c.address_of.result c.in_ok-object.object c.address_of.ensures c.in_ok-object.ensures
