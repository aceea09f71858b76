use Rattle.std.proofs.Common.{◌≡◌, ◌≢◌, ◌-◌, ℕ, suc, ◌++◌, ap, ◌∙◌, arith}
use Rattle.std.specs.FinMap.{get}
use Rattle.vpn_holdings.specs.Moved.{map_at}
use Rattle.path_select.specs.NodeModel.Keys.{Vpn}
use Rattle.vpn_holdings.proofs.Before.{by_route, targets_told}
use Rattle.vpn_holdings.proofs.holdings.VpnHoldings.targets_by_route.Goals as goal

one_before : (session place : ℕ) → session ≢ 0 → place ≡ session - 1 → session ≡ suc place
one_before session place n e = omega arith

pub returns : goal.returns
returns c =
    by_route c.args.self.now c.args.session c.from-place.result c.args.delta.now c.new-targets.result.items c.push_before.new.targets.items c.push_after.new.targets.items
    (one_before c.args.session c.from-place.result c.if-session-eq0.false c.from-place.ensures) c.new-targets.ensures.items
    (c.in_ok-push_before.ensures c.args.session ∙ ap (λ k. c.new-targets.result.items ++ targets_told c.args.session (Vpn k) (get (map_at c.args.self.now.peers c.from-place.result) (Vpn k))) c.route_key.ensures)
    (c.in_ok-push_after.ensures c.args.session)
