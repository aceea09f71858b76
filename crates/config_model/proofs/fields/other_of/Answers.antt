use Rattle.config_model.proofs.Members.{goes_on, stops}
use Rattle.config_model.proofs.fields.other_of.Goals as goal

pub loop-name-preserved : goal.loop-name-preserved
loop-name-preserved c =
    goes_on c.args.known.now c.in-Some.name.now c.in-Some.field-0-1.now c.loop-name.name-iterator c.next.new.self c.as_str.result.now c.is_among.result _ c.in-Some.ensures.steps c.as_str.ensures.value c.is_among.ensures c.if-not-is_among.false c.loop-name.invariant

pub returns-then-not-is_among : goal.returns-then-not-is_among
returns-then-not-is_among c =
    let found = stops c.args.known.now c.in-Some.name.now c.in-Some.field-0-1.now c.loop-name.name-iterator c.next.new.self c.as_str.result.now c.is_among.result _ c.in-Some.ensures.steps c.as_str.ensures.value c.is_among.ensures c.if-not-is_among.true c.loop-name.invariant in
    rw c.as_str-then-not-is_among.ensures.value found
