use Rattle.std.proofs.Common.{ap, sym, ◌∙◌, Bor}
use Rattle.std.specs.Prelude.{Option, option_copied}
use Rattle.path_select.specs.NodeModel.Paths.{Told}
use Rattle.path_select.specs.NodeModel.Wants.{subscriptions}
use Rattle.vpn_holdings.specs.declared.holdings.Agent.{Agent}
use Rattle.vpn_holdings.specs.Listing.{told_by}
use Rattle.vpn_holdings.proofs.Listed.{none_subscribed}
use Rattle.vpn_holdings.proofs.holdings.VpnHoldings.subscriptions.Goals as goal

pub returns-in-None : goal.returns-in-None
returns-in-None c =
    c.new.ensures.items ∙ sym none_subscribed
    ∙ ap (λ (o : Option (Bor Agent)). subscriptions (told_by c.args.session (option_copied o)).map) (sym c.in-None.is)
    ∙ ap (λ (a : Told). subscriptions a.map) c.agent.ensures
