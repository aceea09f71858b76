-- The form of an entry of a log.
use Rattle.bgp_wire.specs.Content.{OpenFields, UpdateFields}
use Rattle.bgp_wire.specs.Messages.{AreOctets}
use Rattle.decode_answers.specs.declared.entry.LogEntry.{LogEntry}
use Rattle.decode_answers.specs.declared.entry.LogEntry.TheVariants.{Opened, Updated, Closed, Expired, Show}
use Rattle.decode_answers.specs.OneMessage.{IsOneOpen, IsOneUpdate}

-- an opening has the octets of one OPEN, and an update those of one UPDATE
abbrev pub HasEntryForm : LogEntry → Type 0
HasEntryForm (Opened octets) = AreOctets octets × ((fields : OpenFields) × IsOneOpen octets fields)
HasEntryForm (Updated octets) = AreOctets octets × ((parts : UpdateFields) × IsOneUpdate octets parts)
HasEntryForm Closed = Unit {0}
HasEntryForm Expired = Unit {0}
HasEntryForm Show = Unit {0}
