use Rattle.std.proofs.Common.{◌≡◌, drop}
use Rattle.explanations.specs.Places.{place_behind}
use Rattle.explanations.proofs.place.TextPlace.behind.Given as goal

abbrev pub invariant-loop-octet : goal.invariant-loop-octet
invariant-loop-octet l = place_behind l.place (drop l.octet-index l.octets) ≡ place_behind l.fn.self l.fn.octets
