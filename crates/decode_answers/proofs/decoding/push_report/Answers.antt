use Rattle.decode_answers.proofs.Reports.{begins_found, faulty_ends, prefix_ends}
use Rattle.decode_answers.proofs.decoding.push_report.Goals as goal

pub returns-in-Faulty : goal.returns-in-Faulty
returns-in-Faulty c =
    let begins = begins_found c.args.octets.now _ c.in-Ok-Some.message c.in-Ok-Some.count c.in-Ok-Some.field-0-is c.in-Ok-Some.ensures.message in
    faulty_ends _ _ _ _ _ _ _ begins c.in-Faulty.is c.in_ok-push_message-in-Ok-Some.ensures

pub returns-in_ok-incomplete_lines-in-Ok-None : goal.returns-in_ok-incomplete_lines-in-Ok-None
returns-in_ok-incomplete_lines-in-Ok-None c =
    prefix_ends _ _ _ _ c.requires (c.in-Ok-None.ensures.none.0 cc) c.in_ok-incomplete_lines-in-Ok-None.ensures.ok
