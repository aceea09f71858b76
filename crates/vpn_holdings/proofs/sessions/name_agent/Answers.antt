use Rattle.std.proofs.Common.{◌∙◌, ap, map}
use Rattle.vpn_holdings.specs.Views.{agent_of}
use Rattle.vpn_holdings.proofs.Agents.{named_taken, named_new}
use Rattle.vpn_holdings.proofs.sessions.name_agent.Goals as goal

pub returns-in-Taken-clause-ok : goal.returns-in-Taken-clause-ok
returns-in-Taken-clause-ok c =
    let t = rw c.as_slice.ensures.value at c.in-Taken.ensures in
    named_taken c.args.agents.now.items c.args.session c.in-Taken.index t c.index_mut-agent.result.now c.index_mut-agent.ensures.value c.args.address

pub returns-in_ok-insert-in-Free-clause-ok : goal.returns-in_ok-insert-in-Free-clause-ok
returns-in_ok-insert-in-Free-clause-ok c =
    let t = rw c.as_slice.ensures.value at c.in-Free.ensures in
    ap (map agent_of) c.in_ok-insert-in-Free.ensures.items
    ∙ named_new c.args.agents.now.items c.args.session c.args.address c.in-Free.index c.new-told.result c.new-told.ensures t.seat t.unlike
