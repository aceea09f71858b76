use Rattle.std.proofs.Common.{ap, sym, ◌∙◌}
use Rattle.vpn_holdings.specs.Moved.{place_in}
use Rattle.vpn_holdings.specs.Views.{told_of}
use Rattle.vpn_holdings.proofs.moved.place_in.Goals as goal

pub returns-in-Put : goal.returns-in-Put
returns-in-Put c = c.put_in.ensures (told_of c.args.agent.now.told) c.in-Put.field-1 ∙ ap (place_in (told_of c.args.agent.now.told)) (sym c.in-Put.is)
