use Rattle.std.proofs.Common.{ap, sym, ◌∙◌}
use Rattle.vpn_tables.specs.Changing.{rows_by_agent}
use Rattle.vpn_tables.specs.Stored.{entry_of}
use Rattle.vpn_tables.proofs.AgentMoved.{agent_entry}
use Rattle.vpn_tables.proofs.Keeping.{not_listed}
use Rattle.vpn_tables.proofs.agents.change_on.Goals as goal

pub returns-in-Ok-clause-stored : goal.returns-in-Ok-clause-stored
returns-in-Ok-clause-stored g c =
    let h = c.args.held.now in
    let keys = c.as_slice-keys.ensures.value ∙ c.in_ok-touched.ensures in
    c.refresh.ensures.stored h (λ k. c.make_places.ensures.stays k ∙ c.requires.stored k) (λ k none.
    agent_entry h c.args.session c.args.address c.agents_are_in_order.ensures c.uses_are_short.ensures k (not_listed c.as_slice-keys.result.now (rows_by_agent h c.args.session) k keys none)
    ∙ ap (λ g. entry_of g k) (sym c.in-Ok.ensures.ok))
