use Rattle.std.proofs.Common.{◌==◌, ◌∙◌, ap}
use Rattle.std.specs.Prelude.{is_some}
use Rattle.std.specs.declared.option.Option.{Option}
use Rattle.std.proofs.Common.{ℕ}
use Rattle.std.specs.List.{list_any}
use Rattle.ov_types.specs.declared.numbers.InstanceId.{InstanceId}
use Rattle.path_select.specs.NodeModel.Paths.{Holdings}
use Rattle.path_select.specs.NodeModel.Wants.{networks_at}
use Rattle.vpn_holdings.specs.Views.{feed_of}
use Rattle.vpn_holdings.proofs.Counting.{any_counted}
use Rattle.vpn_holdings.proofs.holdings.VpnHoldings.has_port.Goals as goal

pub returns : goal.returns
returns c =
    let p = λ (n : InstanceId). n.0 == c.args.number in
    c.contains_key.ensures
    ∙ ap (λ (o : Option ℕ). is_some o) (c.self.invariant.2 (record { address = c.args.address; network = record { 0 = c.args.number } }))
    ∙ any_counted p (networks_at (feed_of c.self.inside.low.entries) c.args.address)
    ∙ ap (λ (h : Holdings). list_any p (networks_at h.feed c.args.address)) c.self.view_is
