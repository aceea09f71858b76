use Rattle.std.proofs.Common.{ap, ◌∙◌, get_or, length, ◌<◌}
use Rattle.config_check.proofs.Straight.{none_too_long}
use Rattle.config_check.proofs.chains.broken_twice.Goals as goal

pub twice_in-requires-clause-short : goal.twice_in-requires-clause-short
twice_in-requires-clause-short c =
    let i = c.loop-chain.chain-index in
    let within : i < length c.args.config.now.chains = rw (← c.as_slice-chain-items.ensures) c.loop-chain-test.true in
    none_too_long c.args.config.now i c.chain-item.result within
    (c.chain-item.is ∙ ap (λ xs. get_or xs i c.chain-item.result) c.as_slice-chain-items.ensures) c.requires.short
