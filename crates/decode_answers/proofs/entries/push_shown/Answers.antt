use Rattle.std.proofs.Common.{sym, subst}
use Rattle.bgp_restart.specs.Keeping.{AreRows}
use Rattle.decode_answers.proofs.LogTelling.{shown}
use Rattle.decode_answers.proofs.entries.push_shown.Goals as goal

pub returns : goal.returns
returns c =
    shown c.push_rows.result c.args.restart.now c.args.number c.as_slice.result.now c.args.out.now c.show_lines.new.out c.push_rows.new.out
    (subst (AreRows c.args.restart.now) (sym c.as_slice.ensures.value) c.in_ok-rows.ensures) c.in_ok-show_lines.ensures.ok c.push_rows.ensures
