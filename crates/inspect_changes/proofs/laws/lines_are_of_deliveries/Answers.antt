use Rattle.inspect_changes.proofs.Throughout.{exact, told}
use Rattle.inspect_changes.proofs.laws.lines_are_of_deliveries.Goals as goal

pub returns-clause-exact : goal.returns-clause-exact
returns-clause-exact g = λ c d p a b number topology form valid h none. exact c d p a b number topology form valid h none

pub returns-clause-told : goal.returns-clause-told
returns-clause-told g = λ c d p a b number topology x form valid h none on. told c d p a b number topology form valid h none x on
