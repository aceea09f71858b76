use Rattle.vpn_holdings.proofs.Choosing.{chosen_from}
use Rattle.vpn_tables.proofs.following.choose.Goals as goal

pub returns-in-Some-clause-chosen : goal.returns-in-Some-clause-chosen
returns-in-Some-clause-chosen g c = chosen_from c.args.paths.now c.in-Some.place _ c.in-Some.ensures.first
