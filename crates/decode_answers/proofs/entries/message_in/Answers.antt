use Rattle.std.proofs.Common.{length}
use Rattle.decode_answers.proofs.Reading.{never_err}
use Rattle.decode_answers.proofs.entries.message_in.Goals as goal

pub unreachable-requires : goal.unreachable-requires
unreachable-requires c =
    never_err _ c.read_message.result c.in_default.field-0
    (c.read_message.ensures.every_message c.requires.0 (length c.args.octets.now) c.requires.1) c.in_default.is
