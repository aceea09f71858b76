use Rattle.hitless_cells.proofs.Both.{two_keep}
use Rattle.hitless_cells.proofs.laws.packets_are_kept_where_both_ways_are_offered_alike.Goals as goal

pub returns : goal.returns
returns c = two_keep
