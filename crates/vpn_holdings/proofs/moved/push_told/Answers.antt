use Rattle.std.proofs.Common.{◌++◌, Some, None, ap, sym, ◌∙◌}
use Rattle.std.specs.Option.{option_map}
use Rattle.std.proofs.lemmas.Result.{on_ok_weaker}
use Rattle.path_select.specs.NodeModel.Keys.{Vpn}
use Rattle.path_select.specs.NodeModel.Values.{Route}
use Rattle.vpn_holdings.proofs.Before.{targets_told, told_targets}
use Rattle.vpn_holdings.proofs.Images.{peer-get}
use Rattle.std.proofs.lemmas.List.{append-nil}
use Rattle.vpn_holdings.proofs.moved.push_told.Goals as goal

pub returns-in-Some : goal.returns-in-Some
returns-in-Some c =
    on_ok_weaker c.push_targets.result (λ f s. f ∙ ap (λ l. c.args.targets.now.items ++ l)
    (sym (ap (targets_told s (Vpn c.args.key)) (peer-get c.args.routes.now c.args.key ∙ ap (option_map Route) (sym c.in-Some.ensures)) ∙ told_targets s c.args.key (Some c.in-Some.route.now)))) c.push_targets.ensures

pub returns-in-None : goal.returns-in-None
returns-in-None c = λ s.
    sym (append-nil c.args.targets.now.items) ∙ ap (λ l. c.args.targets.now.items ++ l)
    (sym (ap (targets_told s (Vpn c.args.key)) (peer-get c.args.routes.now c.args.key ∙ ap (option_map Route) (sym c.in-None.ensures)) ∙ told_targets s c.args.key None))
