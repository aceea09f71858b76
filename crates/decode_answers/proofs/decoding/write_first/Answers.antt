use Rattle.std.proofs.Common.{arith}
use Rattle.ov_io.proofs.PieceLemmas.{on_err}
use Rattle.decode_answers.proofs.Telling.{nothing_told, first_told, first_moves}
use Rattle.decode_answers.proofs.decoding.write_first.Goals as goal

pub returns-in_err-found-clause-front : goal.returns-in_err-found-clause-front
returns-in_err-found-clause-front g c =
    on_err c.from_residual.result _ (nothing_told _ _ _ _ (λ k. omega (arith, c.type_inv.octets k)))

pub returns-in_err-write_piece-clause-front : goal.returns-in_err-write_piece-clause-front
returns-in_err-write_piece-clause-front g c =
    on_err c.from_residual-in_err-write_piece.result _
    (first_told _ _ _ _ c.push_report.new.out c.args.octets.now c.in_ok-found.found (λ k. omega (arith, c.type_inv.octets k))
    c.in_ok-found.ensures c.in_err-write_piece.ensures.front)

pub returns-clause-told : goal.returns-clause-told
returns-clause-told g c =
    first_moves _ _ _ _ c.push_report.new.out _ c.args.octets.now c.in_ok-found.found c.in_ok-found.ensures c.in_ok-write_piece.ensures.ok
