use Rattle.std.proofs.Common.{◌∙◌, rules, ap}
use Rattle.ov_types.specs.First.{first_of}
use Rattle.config_check.specs.Rules.{nested_in, broken_nested}
use Rattle.config_check.proofs.subnets.broken_nested.Goals as goal

pub returns : goal.returns
unfolding broken_nested
returns c = c.first_of.ensures nested_in (λ x r h. search (rules, h.says.met, h.shows, ap)) ∙ ap (first_of nested_in) c.as_slice.ensures
