use Rattle.decode_answers.proofs.OneReport.{one_report}
use Rattle.decode_answers.proofs.laws.octets_have_one_report.Goals as goal

pub returns : goal.returns
returns c = one_report
