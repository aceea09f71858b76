use Rattle.decode_answers.proofs.SomeReport.{some_report}
use Rattle.decode_answers.proofs.laws.octets_have_a_report.Goals as goal

pub returns : goal.returns
returns c = some_report
