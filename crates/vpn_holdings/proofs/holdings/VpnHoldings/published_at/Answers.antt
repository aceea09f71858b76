use Rattle.std.proofs.Common.{ap, sym, ◌∙◌, refl, Bor}
use Rattle.std.specs.Prelude.{Option, None, option_copied}
use Rattle.path_select.specs.NodeModel.Paths.{Told}
use Rattle.vpn_holdings.specs.Indexed.{published_at}
use Rattle.vpn_holdings.specs.Listing.{told_by}
use Rattle.vpn_holdings.specs.declared.holdings.Agent.{Agent}
use Rattle.vpn_holdings.proofs.AgentsIndexed.{published_nothing}
use Rattle.vpn_holdings.proofs.holdings.VpnHoldings.published_at.Goals as goal

pub returns-in-Some : goal.returns-in-Some
returns-in-Some c =
    c.published_at.ensures
    ∙ ap (λ (o : Option (Bor Agent)). published_at (told_by c.args.session (option_copied o)) c.args.key.now) (sym c.in-Some.is)
    ∙ ap (λ (a : Told). published_at a c.args.key.now) c.agent.ensures

pub returns-in-None : goal.returns-in-None
returns-in-None c =
    sym (published_nothing (told_by c.args.session None) c.args.key.now refl)
    ∙ ap (λ (o : Option (Bor Agent)). published_at (told_by c.args.session (option_copied o)) c.args.key.now) (sym c.in-None.is)
    ∙ ap (λ (a : Told). published_at a c.args.key.now) c.agent.ensures
