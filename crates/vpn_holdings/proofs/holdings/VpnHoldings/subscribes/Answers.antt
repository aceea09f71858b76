use Rattle.std.proofs.Common.{ap, sym, ◌∙◌, Bor}
use Rattle.std.specs.Prelude.{Option, option_copied}
use Rattle.std.specs.Option.{is_some}
use Rattle.std.specs.FinMap.{get, get-empty}
use Rattle.path_select.specs.NodeModel.Keys.{Subscribe, key_cmp}
use Rattle.path_select.specs.NodeModel.Paths.{Told}
use Rattle.path_select.specs.NodeModel.Values.{Value}
use Rattle.vpn_holdings.specs.declared.holdings.Agent.{Agent}
use Rattle.vpn_holdings.specs.Listing.{told_by}
use Rattle.vpn_holdings.proofs.holdings.VpnHoldings.subscribes.Goals as goal

pub returns-in-Some : goal.returns-in-Some
returns-in-Some c =
    c.has_subscribed.ensures
    ∙ ap (λ (o : Option (Bor Agent)). is_some (get (told_by c.args.session (option_copied o)).map (Subscribe c.args.i))) (sym c.in-Some.is)
    ∙ ap (λ (a : Told). is_some (get a.map (Subscribe c.args.i))) c.agent.ensures

pub returns-in-None : goal.returns-in-None
returns-in-None c =
    sym (ap (λ (o : Option Value). is_some o) (get-empty key_cmp (Subscribe c.args.i)))
    ∙ ap (λ (o : Option (Bor Agent)). is_some (get (told_by c.args.session (option_copied o)).map (Subscribe c.args.i))) (sym c.in-None.is)
    ∙ ap (λ (a : Told). is_some (get a.map (Subscribe c.args.i))) c.agent.ensures
