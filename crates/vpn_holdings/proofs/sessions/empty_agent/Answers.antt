use Rattle.std.proofs.Common.{◌∙◌, ap}
use Rattle.std.specs.FinMap.{empty}
use Rattle.path_select.specs.NodeModel.Maps.{Map}
use Rattle.vpn_holdings.specs.Views.{told_of}
use Rattle.vpn_holdings.proofs.Agents.{told_taken, told_nowhere}
use Rattle.vpn_holdings.proofs.Images.{told-empty}
use Rattle.vpn_holdings.proofs.sessions.empty_agent.Goals as goal

pub returns-in-Taken : goal.returns-in-Taken
returns-in-Taken c =
    let t = rw c.as_slice.ensures.value at c.in-Taken.ensures in
    told_taken c.args.agents.now.items c.args.session c.in-Taken.index t c.index_mut-agent.result.now c.index_mut-agent.ensures.value
    (λ (m : Map). empty) c.reset.new.self (ap told_of c.reset.ensures ∙ told-empty)

pub returns-in-Free : goal.returns-in-Free
returns-in-Free c =
    let t = rw c.as_slice.ensures.value at c.in-Free.ensures in
    told_nowhere (λ (m : Map). empty) c.args.agents.now.items c.args.session c.in-Free.field-0 t.seat t.unlike
