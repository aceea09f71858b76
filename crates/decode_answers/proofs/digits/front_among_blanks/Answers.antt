use Rattle.std.proofs.Common.{sym, ◌∙◌}
use Rattle.decode_answers.proofs.FoundOctets.{digits_among_blanks, is_nothing, no_digit, no_pair, one_digit, pair_among_blanks, split_first}
use Rattle.decode_answers.proofs.digits.front_among_blanks.Goals as goal

pub returns-then-is_empty : goal.returns-then-is_empty
returns-then-is_empty c =
    no_digit c.args.text.now c.behind_blanks-first.result.now c.behind_blanks-first.ensures.same
    (is_nothing _ (sym c.is_empty.ensures ∙ c.if-is_empty.true))

pub returns-then-is_empty-2 : goal.returns-then-is_empty-2
returns-then-is_empty-2 c =
    let first = split_first c.behind_blanks-first.result.now (sym c.is_empty.ensures ∙ c.if-is_empty.false) in
    one_digit c.args.text.now c.behind_blanks-first.result.now _ c.behind_blanks-second.result.now _ c.behind_blanks-first.ensures.same
    c.behind_blanks-first.ensures.digit first c.behind_blanks-second.ensures.same (is_nothing _ (sym c.is_empty-2.ensures ∙ c.if-is_empty-2.true))

pub returns-in-Some : goal.returns-in-Some
returns-in-Some c =
    let first = split_first c.behind_blanks-first.result.now (sym c.is_empty.ensures ∙ c.if-is_empty.false) in
    let second = split_first c.behind_blanks-second.result.now (sym c.is_empty-2.ensures ∙ c.if-is_empty-2.false) in
    let digits =
    digits_among_blanks c.args.text.now c.behind_blanks-first.result.now _ c.behind_blanks-second.result.now _ _ _
    c.behind_blanks-first.ensures.same c.behind_blanks-first.ensures.digit first c.behind_blanks-second.ensures.same
    c.behind_blanks-second.ensures.digit second in
    pair_among_blanks c.args.text.now c.behind_blanks-first.result.now _ c.behind_blanks-second.result.now _ _ _ c.in-Some.octet digits
    c.behind_blanks-first.ensures.length first c.behind_blanks-second.ensures.length second (sym c.pair_octet.ensures ∙ c.in-Some.is)

pub returns-in-None : goal.returns-in-None
returns-in-None c =
    let first = split_first c.behind_blanks-first.result.now (sym c.is_empty.ensures ∙ c.if-is_empty.false) in
    let second = split_first c.behind_blanks-second.result.now (sym c.is_empty-2.ensures ∙ c.if-is_empty-2.false) in
    let digits =
    digits_among_blanks c.args.text.now c.behind_blanks-first.result.now _ c.behind_blanks-second.result.now _ _ _
    c.behind_blanks-first.ensures.same c.behind_blanks-first.ensures.digit first c.behind_blanks-second.ensures.same
    c.behind_blanks-second.ensures.digit second in
    no_pair c.args.text.now _ _ _ digits (sym c.pair_octet.ensures ∙ c.in-None.is)
