use Rattle.std.proofs.Common.{List, [], subst}
use Rattle.ov_io.specs.Pieces.{TookText}
use Rattle.decode_answers.specs.declared.entry.LogEntry.{LogEntry}
use Rattle.decode_answers.specs.Logs.{IsLogText}
use Rattle.decode_answers.specs.LogAnswers.{log_in}
use Rattle.decode_answers.proofs.LogWritten.{answers, some_written, verdict_given, unrefused_given, text_given, front_given}
use Rattle.decode_answers.proofs.log_answer.answer_graceful.Goals as goal

pub returns-in-Err-clause-verdict : goal.returns-in-Err-clause-verdict
unfolding log_in
returns-in-Err-clause-verdict g c =
    let said = some_written c.args.octets.now in
    verdict_given c.write_unfit.result (log_in c.args.octets.now) said.0 (g.K.Sink.taken c.args.sink.now) (g.K.Sink.taken c.write_unfit.new.sink)
    (c.write_unfit.ensures.given _ (answers c.in-Err.unfit _ said.0 c.in-Err.ensures.unfit said.1))

pub returns-in-Err-clause-unrefused : goal.returns-in-Err-clause-unrefused
unfolding log_in
returns-in-Err-clause-unrefused g c =
    let said = some_written c.args.octets.now in
    unrefused_given c.write_unfit.result c.args.octets.now
    (verdict_given c.write_unfit.result (log_in c.args.octets.now) said.0 (g.K.Sink.taken c.args.sink.now) (g.K.Sink.taken c.write_unfit.new.sink)
    (c.write_unfit.ensures.given _ (answers c.in-Err.unfit _ said.0 c.in-Err.ensures.unfit said.1)))

pub returns-in-Err-clause-written : goal.returns-in-Err-clause-written
unfolding log_in
returns-in-Err-clause-written g c =
    let said = some_written c.args.octets.now in
    text_given c.write_unfit.result (log_in c.args.octets.now) said.0 _ _ said.1
    (c.write_unfit.ensures.given _ (answers c.in-Err.unfit _ said.0 c.in-Err.ensures.unfit said.1))

pub returns-in-Err-clause-front : goal.returns-in-Err-clause-front
unfolding log_in
returns-in-Err-clause-front g c =
    let said = some_written c.args.octets.now in
    front_given c.write_unfit.result (log_in c.args.octets.now) said.0 _ _ said.1
    (c.write_unfit.ensures.front _ (answers c.in-Err.unfit _ said.0 c.in-Err.ensures.unfit said.1))

pub returns-in_ok-write_log-in-Ok-clause-promise : goal.returns-in_ok-write_log-in-Ok-clause-promise
returns-in_ok-write_log-in-Ok-clause-promise g c = λ good. record {
  log = c.in-Ok.log.entries;
  are = c.in-Ok.ensures.read;
  taken =
      subst (λ (log : List LogEntry). TookText (IsLogText [] 1 log) (g.K.Sink.taken c.args.sink.now) (g.K.Sink.taken c.write_log.new.sink))
      c.as_slice.ensures c.in_ok-write_log-in-Ok.ensures.ok;
}
