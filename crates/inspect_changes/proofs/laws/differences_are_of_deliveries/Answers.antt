use Rattle.inspect_changes.proofs.Delivered.{exact, told}
use Rattle.inspect_changes.proofs.laws.differences_are_of_deliveries.Goals as goal

pub returns-clause-exact : goal.returns-clause-exact
returns-clause-exact g = λ c d a b a' b' p number h k. exact c a b d a' b' p number h k

pub returns-clause-told : goal.returns-clause-told
returns-clause-told g = λ c d a b a' b' p number was becomes h k on. told c a b d a' b' p number was becomes h k on
