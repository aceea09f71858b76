use Rattle.std.proofs.Common.{sym, ap, ◌∙◌}
use Rattle.std.specs.Option.{option_copied}
use Rattle.config_check.specs.Rules.{overlap}
use Rattle.config_check.proofs.Lists.{met_here, not_met_here}
use Rattle.config_check.proofs.subnets.first_overlapping.Goals as goal

pub returns-in-Some : goal.returns-in-Some
returns-in-Some c =
    met_here overlap c.args.prefixes.now c.loop-index.index c.index-prefixes-index.result c.in-Some.earlier.now _
    c.loop-index-test.true c.index-prefixes-index.is (sym c.first_overlapped.ensures ∙ ap option_copied c.in-Some.is) c.loop-index.invariant

pub loop-index-preserved : goal.loop-index-preserved
loop-index-preserved c =
    not_met_here overlap c.args.prefixes.now c.loop-index.index c.index-prefixes-index.result _
    c.loop-index-test.true c.index-prefixes-index.is (sym c.first_overlapped.ensures ∙ ap option_copied c.in_default.is) c.loop-index.invariant
