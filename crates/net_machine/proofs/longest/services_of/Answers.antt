use Rattle.std.proofs.Common.{sym, ◌∙◌}
use Rattle.acl_compile.proofs.Kept.{chain_expands}
use Rattle.net_machine.proofs.longest.services_of.Goals as goal

pub unreachable-requires : goal.unreachable-requires
unreachable-requires c =
    let e = sym (chain_expands c.args.config.now c.args.chain.now c.requires) ∙ sym c.expand_straight.ensures ∙ c.in-Err.is in
    cc
