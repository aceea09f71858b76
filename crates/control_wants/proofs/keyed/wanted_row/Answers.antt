use Rattle.std.proofs.Common.{ap, sym, ◌∙◌}
use Rattle.std.specs.Option.{option_map}
use Rattle.node_routes.specs.NodeModel.Values.{Entry}
use Rattle.control_wants.specs.Entries.{hop_of}
use Rattle.control_wants.specs.Held.{told_in}
use Rattle.control_wants.proofs.OneKey.{no_row_wanted, row_wanted}
use Rattle.control_wants.proofs.keyed.wanted_row.Goals as goal

pub returns-then-not-subscribes : goal.returns-then-not-subscribes
returns-then-not-subscribes c =
    let h = c.args.tables.now in
    no_row_wanted h (told_in h.agents c.args.session) c.args.instance c.args.prefix.now (sym c.subscribes.ensures ∙ c.if-not-subscribes.true)

pub returns : goal.returns
returns c =
    let h = c.args.tables.now in
    ap (option_map Entry) (c.entry_of.ensures ∙ ap (option_map hop_of) c.in_ok-row.ensures)
    ∙ row_wanted h (told_in h.agents c.args.session) c.args.instance c.args.prefix.now (sym c.subscribes.ensures ∙ c.if-not-subscribes.false)
