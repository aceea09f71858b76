use Rattle.std.proofs.Common.{sym}
use Rattle.top_call.specs.Commands.{command_of}
use Rattle.top_call.proofs.SomeText.{nothing_written}
use Rattle.top_call.proofs.top.overlay.Goals as goal

pub returns-in-Err-NoMemory-clause-front : goal.returns-in-Err-NoMemory-clause-front
returns-in-Err-NoMemory-clause-front g c =
    λ cut. nothing_written (command_of c.args.words.now) (g.S.Source.left c.args.source.now) c.in-Some.command (g.K.Sink.taken c.args.sink.now)
    (sym c.in-Some.ensures.command)
