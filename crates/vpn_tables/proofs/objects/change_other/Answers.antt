use Rattle.vpn_tables.proofs.ObjectMoved.{changed_entry}
use Rattle.vpn_tables.proofs.objects.change_other.Goals as goal

pub returns-clause-entries : goal.returns-clause-entries
returns-clause-entries c =
    changed_entry c.args.held.now c.set_low-changed.new.self c.args.delta c.set_low-changed.result c.set_low-changed.ensures.ok c.set_low-changed.ensures.err
    c.uses_are_short.ensures c.uses_are_short-2.ensures c.requires.none
