-- What to do about a run that told nothing of its own.
use Rattle.std.specs.Prelude.{ℕ, List, codes}
use Rattle.explanations.specs.declared.help.Advice.{Advice}
use Rattle.explanations.specs.declared.help.Advice.TheVariants as On

abbrev pub advice_text : Advice → List ℕ
advice_text On.ReadFault = codes "standard input could not be read: give it a file or a pipe that is open"
advice_text On.TooLong = codes "the input has more than 16,777,216 octets: leave out what is not asked for, or make two of it"
advice_text On.NotJson = codes "the input cannot be read: give a JSON text, or for decode pairs of hexadecimal digits"
advice_text On.EmptyInput = codes "the input is empty: give it a document, as those of examples/"
advice_text On.BlankInput = codes "the input is blanks alone: give it a document, as those of examples/"
advice_text On.ByteOrderMark = codes "the input begins with a byte order mark, which is no JSON: leave it out"
advice_text On.WideInput = codes "the input is UTF-16 or UTF-32, or no text: give it in UTF-8"
advice_text On.BadDocument =
    codes "the document breaks the form: docs/FORMATS.md has it, and docs/overlay.schema.json for an editor"
advice_text On.Refused = codes "the configuration breaks a rule: docs/MODEL.md has the rules"
advice_text On.WriteFault =
    codes "standard output could not be written: what takes it was closed, as by head, or there is no room where it goes"
advice_text On.NoMemory = codes "there was no memory: allow the program more, or give it a smaller input"
