use Rattle.std.proofs.Common.{sym, ◌∙◌}
use Rattle.config_check.proofs.Straight.{too_long_is}
use Rattle.config_check.proofs.chains.is_too_long.Goals as goal

pub returns : goal.returns
returns c = c.gives_too_many.ensures ∙ sym (too_long_is c.args.config.now c.args.chain.now c.requires.straight)
