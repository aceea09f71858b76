use Rattle.std.proofs.Common.{sym, ◌∙◌, rules}
use Rattle.bgp_vpn.specs.Updates.{parts_of}
use Rattle.decode_answers.proofs.LogTelling.{heard, refused}
use Rattle.decode_answers.proofs.entries.push_updated.Goals as goal

pub returns-in-Ok : goal.returns-in-Ok
returns-in-Ok c =
    heard c.did_lines.result c.args.restart.now c.update.new.self c.args.number c.args.octets.now (parts_of c.update_in.result)
    c.in-Ok.ensures.ok.0 c.args.out.now c.did_lines.new.out (search rules) c.update_in.ensures c.in-Ok.ensures.ok.1 c.in-Ok.ensures.ok.2
    c.did_lines.ensures.ok

pub returns-in-Err-Wire : goal.returns-in-Err-Wire
returns-in-Err-Wire c =
    refused c.faulty_lines.result c.args.restart.now c.update.new.self c.args.number c.args.octets.now (parts_of c.update_in.result)
    c.in-Err-Wire.fault c.args.out.now c.faulty_lines.new.out (search rules) c.update_in.ensures (search rules) c.in-Err-Wire.ensures.err
    c.faulty_lines.ensures.ok
