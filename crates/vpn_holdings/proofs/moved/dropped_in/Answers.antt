use Rattle.std.proofs.Common.{Some, None, ap, sym, ◌∙◌}
use Rattle.std.specs.Option.{option_map}
use Rattle.path_select.specs.NodeModel.Values.{Label}
use Rattle.vpn_holdings.specs.Views.{told_of}
use Rattle.vpn_holdings.proofs.Before.{dropped_place}
use Rattle.vpn_holdings.proofs.Images.{told-get}
use Rattle.vpn_holdings.proofs.moved.dropped_in.Goals as goal

pub returns-in-Some : goal.returns-in-Some
returns-in-Some c =
    sym (dropped_place (told_of c.args.agent.now.told) c.in-Publish.instance c.in-Publish.field-1 c.args.key.now (Some (Label c.in-Some.field-0.now)) c.in-Publish.is
    (told-get c.args.agent.now.told c.args.key.now ∙ ap (option_map Label) (sym c.in-Some.ensures)))

pub returns-in-None : goal.returns-in-None
returns-in-None c =
    sym (dropped_place (told_of c.args.agent.now.told) c.in-Publish.instance c.in-Publish.field-1 c.args.key.now None c.in-Publish.is
    (told-get c.args.agent.now.told c.args.key.now ∙ ap (option_map Label) (sym c.in-None.ensures)))
