use Rattle.std.proofs.Common.{◌≡◌, ◌+◌, drop, true}
use Rattle.std.specs.List.{list_all}
use Rattle.ov_io.specs.Pieces.{IsOnItsWay}
use Rattle.flow_state.specs.Steps.{has_step_form}
use Rattle.flow_state.specs.Playing.{answers_in, playing}
use Rattle.flow_state.specs.Lines.{lines_from}
use Rattle.flow_state.proofs.replaying.write_steps.Given as goal

abbrev pub invariant-loop-index : goal.invariant-loop-index
invariant-loop-index g l = record {
  way : IsOnItsWay (g.K.Sink.taken l.fn.sink) (g.K.Sink.taken l.sink) l.gathered
      (lines_from (l.index + 1) (answers_in (drop l.index l.steps) (playing l.player)))
      (lines_from 1 (answers_in l.steps (playing l.fn.player)));
  form : list_all has_step_form (drop l.index l.steps) ≡ true;
  kept : g.K.Sink.faults l.sink ≡ g.K.Sink.faults l.fn.sink;
}
