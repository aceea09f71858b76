use Rattle.std.proofs.Common.{◌≡◌, map, take, length}
use Rattle.scale_out.specs.Spread.{visit_by}
use Rattle.scale_out.proofs.spread.visits_of.Given as goal

abbrev pub invariant-loop-service : goal.invariant-loop-service
invariant-loop-service l = record {
  so_far : l.visits ≡ map (visit_by l.config l.groups l.key) (take l.service-index l.services);
  count : length l.visits ≡ l.service-index;
}
