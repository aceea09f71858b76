use Rattle.ov_types.proofs.OneText.{address_has_one_text, prefix_has_one_text}
use Rattle.ov_types.proofs.laws.texts_are_one.Goals as goal

pub returns-clause-address : goal.returns-clause-address
returns-clause-address c = address_has_one_text

pub returns-clause-prefix : goal.returns-clause-prefix
returns-clause-prefix c = prefix_has_one_text
