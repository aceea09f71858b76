use Rattle.node_laws.proofs.Worked.{heard_differs, slices_agree}
use Rattle.node_laws.proofs.premise_laws.agents_agree_at_their_slices.Goals as goal

pub returns-clause-agree : goal.returns-clause-agree
returns-clause-agree c = slices_agree

pub returns-clause-differ : goal.returns-clause-differ
returns-clause-differ c = heard_differs
