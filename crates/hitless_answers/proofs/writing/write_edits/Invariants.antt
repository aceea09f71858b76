use Rattle.std.proofs.Common.{◌≡◌, ◌+◌, drop, true}
use Rattle.std.specs.List.{list_all}
use Rattle.ov_io.specs.Pieces.{IsOnItsWay}
use Rattle.config_types.specs.Form.{has_edit_form}
use Rattle.hitless_answers.specs.Judging.{judgements, standing}
use Rattle.hitless_answers.specs.FormLines.{lines_in}
use Rattle.hitless_answers.proofs.writing.write_edits.Given as goal

abbrev pub invariant-loop-index : goal.invariant-loop-index
invariant-loop-index g l = record {
  way : IsOnItsWay (g.K.Sink.taken l.fn.sink) (g.K.Sink.taken l.sink) l.gathered
      (lines_in l.form (l.index + 1) (drop l.index l.edits) (standing l.judge) (judgements (drop l.index l.edits) (standing l.judge)))
      (lines_in l.form 1 l.edits (standing l.fn.judge) (judgements l.edits (standing l.fn.judge)));
  form : list_all has_edit_form (drop l.index l.edits) ≡ true;
  kept : g.K.Sink.faults l.sink ≡ g.K.Sink.faults l.fn.sink;
}
