use Rattle.std.proofs.Common.{ap, sym, ◌∙◌}
use Rattle.std.specs.Option.{is_some, option_map}
use Rattle.ov_types.specs.declared.keys.UpKey.TheVariants.{Subscribe}
use Rattle.path_select.specs.NodeModel.Values.{Label}
use Rattle.vpn_holdings.proofs.Images.{told-get}
use Rattle.vpn_holdings.proofs.keys.has_subscribed.Goals as goal

pub returns-in-Some : goal.returns-in-Some
returns-in-Some c = sym (ap is_some (told-get c.args.agent.now.told (Subscribe c.args.i) ∙ ap (option_map Label) (sym c.in-Some.ensures)))

pub returns-in-None : goal.returns-in-None
returns-in-None c = sym (ap is_some (told-get c.args.agent.now.told (Subscribe c.args.i) ∙ ap (option_map Label) (sym c.in-None.ensures)))
