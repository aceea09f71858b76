use Rattle.ov_io.proofs.PieceLemmas.{on_err}
use Rattle.decode_answers.proofs.Spelled.{nothing_spelled}
use Rattle.decode_answers.proofs.decoding.answer_decode.Goals as goal

pub returns-in_err-octets_of-clause-front : goal.returns-in_err-octets_of-clause-front
returns-in_err-octets_of-clause-front g c =
    on_err c.from_residual.result _ (nothing_spelled c.args.text.now (g.K.Sink.taken c.args.sink.now))
