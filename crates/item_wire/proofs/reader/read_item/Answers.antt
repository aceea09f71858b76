use Rattle.std.proofs.Common.{rules}
use Rattle.item_wire.specs.Reading.{item_in}
use Rattle.item_wire.specs.Faults.{Gives}
use Rattle.item_wire.proofs.ReadLengths.{result_not_longer}
use Rattle.item_wire.proofs.reader.read_item.Goals as goal

pub returns-in-Some-clause-length : goal.returns-in-Some-clause-length
unfolding item_in
returns-in-Some-clause-length c =
    let given : Gives c.item_of.result (item_in c.args.bytes.now) = search rules in
    result_not_longer c.args.bytes.now c.item_of.result given c.item_of.ensures.form
