use Rattle.std.proofs.Common.{ap, sym, ◌∙◌, refl}
use Rattle.std.specs.List.{filter_map}
use Rattle.node_core.specs.Told.{change_of}
use Rattle.control_node.proofs.inputs.hear_from_feed.Goals as goal

pub returns-in-Some-clause-heard : goal.returns-in-Some-clause-heard
returns-in-Some-clause-heard c =
    let h = c.in_ok-heard.ensures.left in (
      filter_map change_of c.in_ok-heard.heard.records.items,
      record { inputs = h.0; leaves = h.1; changes_are = ap (filter_map change_of) h.2; state = h.4; cause_is = sym c.in-Some.is ∙ h.3 },
      refl,
    )
