use Rattle.std.proofs.Common.{List, subst}
use Rattle.std.specs.Prelude.{OnErr, OnOk}
use Rattle.std.specs.Io.KnownBytes.{Appends}
use Rattle.ov_io.specs.Inputs.{TookFront}
use Rattle.flow_state.specs.declared.answer.FlowAnswer.{FlowAnswer}
use Rattle.flow_state.specs.Lines.{flows_text, lines_from}
use Rattle.flow_state.proofs.replaying.write_replay.Goals as goal

pub returns-clause-ok : goal.returns-clause-ok
unfolding flows_text
returns-clause-ok g c =
    subst (λ (given : List FlowAnswer). OnOk c.write_steps.result (Appends (g.K.Sink.taken c.args.sink.now) (g.K.Sink.taken c.write_steps.new.sink) (lines_from 1 given)))
    (c.in_ok-player.ensures.answers c.args.steps.now) c.write_steps.ensures.ok

pub returns-clause-front : goal.returns-clause-front
unfolding flows_text
returns-clause-front g c =
    subst (λ (given : List FlowAnswer). OnErr c.write_steps.result (TookFront (g.K.Sink.taken c.args.sink.now) (g.K.Sink.taken c.write_steps.new.sink) (lines_from 1 given)))
    (c.in_ok-player.ensures.answers c.args.steps.now) c.write_steps.ensures.front
