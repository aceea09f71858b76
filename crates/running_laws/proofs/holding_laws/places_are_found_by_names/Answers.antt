-- Each place is found by its two names.
use Rattle.running_laws.proofs.Written.{far_is, has_far, place_found, place_is}
use Rattle.running_laws.proofs.holding_laws.places_are_found_by_names.Goals as goal

pub returns-clause-named : goal.returns-clause-named
returns-clause-named c = λ x written numbers seats are p h. (has_far x written numbers seats are p h, place_found x written numbers seats are p h)

pub returns-clause-found : goal.returns-clause-found
returns-clause-found c = λ x written numbers seats are a b p e. (place_is x written numbers seats are a b p e, far_is x written numbers seats are a b p e)
