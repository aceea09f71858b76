use Rattle.std.proofs.Common.{ap, refl, sym, ◌∙◌, Bor}
use Rattle.std.specs.Prelude.{Option, option_copied}
use Rattle.vpn_holdings.specs.declared.holdings.Agent.{Agent}
use Rattle.vpn_holdings.specs.Changes.{with_nothing}
use Rattle.vpn_holdings.specs.Gathered.{keys_told}
use Rattle.vpn_holdings.specs.Listing.{told_by}
use Rattle.vpn_holdings.proofs.Gathering.{none_told}
use Rattle.vpn_holdings.proofs.holdings.VpnHoldings.keys_told.Goals as goal

pub returns-in-None : goal.returns-in-None
returns-in-None c =
    c.new.ensures.items ∙ sym (none_told (with_nothing c.args.session (record { 0 = 0 })) refl)
    ∙ ap (λ (o : Option (Bor Agent)). keys_told (told_by c.args.session (option_copied o))) (sym c.in-None.is)
    ∙ ap keys_told c.agent.ensures
