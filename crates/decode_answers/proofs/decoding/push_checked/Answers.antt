use Rattle.std.proofs.Common.{refl, ◌∙◌, ap, ◌++◌}
use Rattle.bgp_vpn.specs.Said.{changes_said}
use Rattle.bgp_vpn.specs.Updates.{parts_of}
use Rattle.decode_answers.specs.Decoding.{update_lines}
use Rattle.decode_answers.proofs.Reports.{fault_found}
use Rattle.decode_answers.proofs.decoding.push_checked.Goals as goal

pub returns-in_ok-push_both-in-Ok : goal.returns-in_ok-push_both-in-Ok
returns-in_ok-push_both-in-Ok c = record {
  said = update_lines (changes_said c.args.said.now) c.in-Ok.asks.items;
  says =
      record {
        changes = changes_said c.args.said.now;
        asks = c.in-Ok.asks.items;
        changed = c.requires;
        asked = c.in-Ok.ensures.changes c.args.wide (changes_said c.args.said.now) c.requires;
        is = refl;
      };
  appended = c.in_ok-push_both-in-Ok.ensures ∙ ap (λ asks. c.args.out.now ++ update_lines (changes_said c.args.said.now) asks) c.as_slice.ensures.value;
}

pub returns-in_ok-fault_lines-in-Err-Wire : goal.returns-in_ok-fault_lines-in-Err-Wire
returns-in_ok-fault_lines-in-Err-Wire c = record {
  parts = parts_of c.args.part.now;
  fault = c.in-Err-Wire.fault;
  update = refl;
  faulty = fault_found c.args.wide (parts_of c.args.part.now) _ c.in-Err-Wire.fault (changes_said c.args.said.now) c.in-Err-Wire.field-0-is c.in-Err-Wire.ensures.fault c.requires;
  appended = c.in_ok-fault_lines-in-Err-Wire.ensures.ok;
}
