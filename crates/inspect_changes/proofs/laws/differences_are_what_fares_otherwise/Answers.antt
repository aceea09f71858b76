use Rattle.inspect_changes.proofs.Differing.{exact, on_one_at_most}
use Rattle.inspect_changes.proofs.laws.differences_are_what_fares_otherwise.Goals as goal

pub returns-clause-apart : goal.returns-clause-apart
returns-clause-apart g = λ c d a b a' b' t h. on_one_at_most c a b d a' b' t h

pub returns-clause-exact : goal.returns-clause-exact
returns-clause-exact g = λ c d a b a' b' t was becomes h. exact c a b d a' b' t was becomes h
