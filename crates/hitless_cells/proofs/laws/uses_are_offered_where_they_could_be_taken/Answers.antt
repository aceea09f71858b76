use Rattle.hitless_cells.proofs.Speaking.{speaks_where_taken}
use Rattle.hitless_cells.proofs.laws.uses_are_offered_where_they_could_be_taken.Goals as goal

pub returns : goal.returns
returns c = speaks_where_taken
