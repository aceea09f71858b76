use Rattle.std.proofs.Common.{ap, ◌∙◌}
use Rattle.config_check.specs.Twice.{twice_of}
use Rattle.config_check.proofs.Straight.{twice_in_is}
use Rattle.config_check.proofs.chains.twice_in.Goals as goal

pub returns : goal.returns
returns c =
    c.twice_of.ensures ∙ ap (twice_of c.args.chain.now.name) c.expand_straight.ensures
    ∙ twice_in_is c.args.config.now c.args.chain.now c.requires.straight c.requires.short
