use Rattle.std.proofs.Common.{rules}
use Rattle.std.proofs.lemmas.Fmt.{length-decimal-le}
use Rattle.report.proofs.line.Line.prepend_number.Goals as goal

pub prepend_digits-requires : goal.prepend_digits-requires
prepend_digits-requires c = search (rules, length-decimal-le 10)

pub returns-clause-short : goal.returns-clause-short
returns-clause-short c = search (rules, length-decimal-le 10)
