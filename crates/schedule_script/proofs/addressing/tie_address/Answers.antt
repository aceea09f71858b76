use Rattle.std.proofs.Common.{sym, ◌∙◌}
use Rattle.schedule_script.proofs.Adding.{put_address}
use Rattle.schedule_script.proofs.addressing.tie_address.Goals as goal

pub returns : goal.returns
returns c = λ name.
    c.in_ok-insert.ensures.updates.0 name
    ∙ put_address c.args.addresses.now.entries c.args.node.now.name name c.args.node.now.address (sym c.contains_key.ensures ∙ c.if-contains_key.false)
