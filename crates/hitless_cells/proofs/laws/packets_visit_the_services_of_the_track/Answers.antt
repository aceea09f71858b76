use Rattle.hitless_cells.proofs.Visits.{visits}
use Rattle.hitless_cells.proofs.laws.packets_visit_the_services_of_the_track.Goals as goal

pub returns : goal.returns
returns c = visits
