use Rattle.std.proofs.Common.{◌∙◌, rules, ap}
use Rattle.ov_types.specs.First.{first_of}
use Rattle.config_check.specs.Rules.{reserved_in, broken_reserved}
use Rattle.config_check.proofs.subnets.broken_reserved.Goals as goal

pub returns : goal.returns
unfolding broken_reserved
returns c = c.first_of.ensures reserved_in (λ x r h. search (rules, h.says.met, h.shows, ap)) ∙ ap (first_of reserved_in) c.as_slice.ensures
