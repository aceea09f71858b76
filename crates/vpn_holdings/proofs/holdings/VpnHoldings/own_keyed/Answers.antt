use Rattle.std.proofs.Common.{ap, sym, ◌∙◌, ◌+◌, List, map, drop}
use Rattle.std.specs.List.{flat_map}
use Rattle.std.specs.Option.{option_map}
use Rattle.path_select.specs.NodeModel.Paths.{Holdings, Told}
use Rattle.vpn_holdings.specs.Routes.{path_of}
use Rattle.vpn_holdings.specs.TouchedKeys.{first_keyed}
use Rattle.vpn_holdings.specs.Views.{agent_of}
use Rattle.vpn_holdings.proofs.Keyed.{found_first, not_found_first}
use Rattle.vpn_holdings.proofs.Walks.{agents_turn}
use Rattle.vpn_holdings.proofs.Walks.{own_of}
use Rattle.vpn_holdings.proofs.holdings.VpnHoldings.own_keyed.Goals as goal

pub returns-in-Some : goal.returns-in-Some
returns-in-Some c =
    let h = c.args.self.now in
    let k = c.loop-agent.agent-index in
    let items = c.deref-agent-items.result.now in
    let here = own_of h (agent_of c.agent-item.result) in
    let left = flat_map (own_of h) (map agent_of (drop (k + 1) items)) in
    found_first c.args.key.now here left (path_of c.in-Some.route) _
    (sym c.agents_keyed.ensures ∙ ap (option_map path_of) c.in-Some.is)
    (ap (first_keyed c.args.key.now) (sym (agents_turn h items k c.agent-item.result c.loop-agent-test.true c.agent-item.is)) ∙ c.loop-agent.invariant
    ∙ ap (λ (ts : List Told). first_keyed c.args.key.now (flat_map (own_of h) ts)) (ap (map agent_of) c.deref-agent-items.ensures.value ∙ ap (λ (h : Holdings). h.agents) c.self.view_is))

pub loop-agent-preserved : goal.loop-agent-preserved
loop-agent-preserved c =
    let h = c.args.self.now in
    let k = c.loop-agent.agent-index in
    let items = c.deref-agent-items.result.now in
    let here = own_of h (agent_of c.agent-item.result) in
    let left = flat_map (own_of h) (map agent_of (drop (k + 1) items)) in
    not_found_first c.args.key.now here left _
    (sym c.agents_keyed.ensures ∙ ap (option_map path_of) c.in_default.is)
    (ap (first_keyed c.args.key.now) (sym (agents_turn h items k c.agent-item.result c.loop-agent-test.true c.agent-item.is)) ∙ c.loop-agent.invariant)
