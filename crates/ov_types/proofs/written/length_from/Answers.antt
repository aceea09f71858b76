use Rattle.std.proofs.Common.{sym, ◌∙◌}
use Rattle.ov_types.proofs.Lengths.{not_plain, reads_length, too_long, not_parsed}
use Rattle.ov_types.proofs.written.length_from.Goals as goal

pub returns-then-not-begins_plainly : goal.returns-then-not-begins_plainly
returns-then-not-begins_plainly c = not_plain c.args.text.now (sym c.begins_plainly.ensures ∙ c.if-not-begins_plainly.true)

pub returns-in-Ok : goal.returns-in-Ok
returns-in-Ok c = reads_length c.args.text.now c.in-Ok.len (sym c.begins_plainly.ensures ∙ c.if-not-begins_plainly.false) c.if-len-le-LONGEST.true c.in-Ok.ensures.value.0

pub returns-in_default : goal.returns-in_default
returns-in_default c = too_long c.args.text.now c.in-Ok.len (sym c.begins_plainly.ensures ∙ c.if-not-begins_plainly.false) c.if-len-le-LONGEST.false c.in-Ok.ensures.value.0

pub returns-in_default-2 : goal.returns-in_default-2
returns-in_default-2 c = not_parsed c.args.text.now c.in_default.field-0 (sym c.begins_plainly.ensures ∙ c.if-not-begins_plainly.false) c.in_default.ensures.value.0
