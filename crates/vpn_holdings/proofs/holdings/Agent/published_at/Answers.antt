use Rattle.std.proofs.Common.{ap, sym, ◌∙◌}
use Rattle.std.specs.Option.{option_map}
use Rattle.ov_types.specs.declared.numbers.Label.{Label}
use Rattle.vpn_holdings.proofs.Images.{told-label}
use Rattle.vpn_holdings.proofs.holdings.Agent.published_at.Goals as goal

pub returns-in-Some : goal.returns-in-Some
returns-in-Some c = ap (option_map (λ (l : Label). (c.args.self.now.address, l))) (c.in-Some.ensures ∙ sym (told-label c.args.self.now.told c.args.key.now))

pub returns-in-None : goal.returns-in-None
returns-in-None c = ap (option_map (λ (l : Label). (c.args.self.now.address, l))) (c.in-None.ensures ∙ sym (told-label c.args.self.now.told c.args.key.now))
