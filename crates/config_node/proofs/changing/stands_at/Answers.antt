use Rattle.std.proofs.Common.{Some, sym, ◌∙◌, ap}
use Rattle.std.proofs.lemmas.Option.{slice_get-get_or}
use Rattle.config_types.specs.declared.config.Port.{Port}
use Rattle.config_node.proofs.Alike.{ports}
use Rattle.config_node.proofs.changing.stands_at.Goals as goal

pub returns-in-Some : goal.returns-in-Some
returns-in-Some c = λ h.
    slice_get-get_or c.args.ports.now c.args.place c.in-Some.other.now c.in-Some.ensures.lookup.3.0
    ∙ ap (λ (p : Port). Some p) (sym c.in-Some.ensures.lookup.1 ∙ ports c.in-Some.other.now c.args.port.now (sym c.eq.ensures ∙ h))
