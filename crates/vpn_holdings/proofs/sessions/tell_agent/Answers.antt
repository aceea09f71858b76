use Rattle.path_select.specs.NodeModel.Keys.{of_up}
use Rattle.path_select.specs.NodeModel.Values.{Label}
use Rattle.path_select.specs.NodeModel.Maps.{Map}
use Rattle.ov_sync.specs.Keyed.{changed}
use Rattle.ov_sync.specs.Embed.{moved_delta}
use Rattle.vpn_holdings.proofs.Agents.{told_taken, told_nowhere}
use Rattle.vpn_holdings.proofs.Images.{told-changed}
use Rattle.vpn_holdings.proofs.sessions.tell_agent.Goals as goal

pub returns-in_ok-apply-in-Taken-clause-ok : goal.returns-in_ok-apply-in-Taken-clause-ok
returns-in_ok-apply-in-Taken-clause-ok c =
    let t = rw c.as_slice.ensures.value at c.in-Taken.ensures in
    told_taken c.args.agents.now.items c.args.session c.in-Taken.index t c.index_mut-agent.result.now c.index_mut-agent.ensures.value
    (λ (m : Map). changed m (moved_delta of_up Label c.args.delta)) c.apply.new.self
    (told-changed c.index_mut-agent.result.now.told c.apply.new.self c.args.delta c.in_ok-apply-in-Taken.ensures.ok)

pub returns-in-Free-clause-ok : goal.returns-in-Free-clause-ok
returns-in-Free-clause-ok c =
    let t = rw c.as_slice.ensures.value at c.in-Free.ensures in
    told_nowhere (λ (m : Map). changed m (moved_delta of_up Label c.args.delta)) c.args.agents.now.items c.args.session c.in-Free.field-0 t.seat t.unlike
