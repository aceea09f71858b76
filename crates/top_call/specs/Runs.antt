-- What a run is told by: its words, and the octets that its source held.
use Rattle.std.specs.Prelude.{◌≡◌, ℕ, ◌≤◌, List, [], length, Option, Some, None, ⊤}
use Rattle.ov_io.specs.Inputs.{WasReadWhole}
use Rattle.compile_answers.specs.declared.unfit.Reception.{Reception}
use Rattle.compile_answers.specs.declared.unfit.Reception.TheVariants as Found
use Rattle.top_call.specs.declared.command.Command.{Command}
use Rattle.top_call.specs.declared.command.Command.TheVariants.{Gen}
use Rattle.top_call.specs.declared.top.Status.{Status}
use Rattle.top_call.specs.declared.top.Status.TheVariants as Ended
use Rattle.top_call.specs.Answers.{verdict_of}

-- whether a command reads an input: `gen` reads none
abbrev pub Reads : Command → Type 0
Reads (Gen n) = ⊥
Reads command = ⊤

-- the input of a command is what the source holds, where it tells; where nothing is read it is empty
unfoldable pub input_to : Command → Option (List ℕ) → Option (List ℕ)
input_to (Gen n) held = Some []
input_to command held = held

-- a fact of an input; nothing is said of one that the source does not tell
abbrev pub OfOctets : Option (List ℕ) → (List ℕ → Type 0) → Type 0
OfOctets None Fact = ⊤
OfOctets (Some octets) Fact = Fact octets

-- a fact of the command that was given and of its input
abbrev pub OfInput : Option Command → Option (List ℕ) → (Command → List ℕ → Type 0) → Type 0
OfInput None held Fact = ⊥
OfInput (Some command) held Fact = OfOctets (input_to command held) (Fact command)

-- a fact of the command that was given and of its input, where a command was given
abbrev pub IfInput : Option Command → Option (List ℕ) → (Command → List ℕ → Type 0) → Type 0
IfInput None held Fact = ⊤
IfInput (Some command) held Fact = OfOctets (input_to command held) (Fact command)

-- a command that reads an input was given
abbrev pub ReadsInput : Option Command → Type 0
ReadsInput None = ⊥
ReadsInput (Some command) = Reads command

-- a command that reads an input reads it to its end
abbrev pub ReadsWhole : Option (List ℕ) → Option (List ℕ) → Command → List ℕ → Type 0
ReadsWhole old new (Gen n) octets = ⊤
ReadsWhole old new command octets = WasReadWhole old new octets

-- the input is no longer than the limit, and is found to be this
abbrev pub IsFound : ℕ → Reception → Command → List ℕ → Type 0
IsFound limit verdict command octets = (length octets ≤ limit) × (verdict_of command octets ≡ verdict)

-- the status that tells a verdict
abbrev pub status_of : Reception → Status
status_of Found.Good = Ended.Done
status_of Found.NotJson = Ended.NotJson
status_of Found.BadDocument = Ended.BadDocument
status_of Found.Refused = Ended.Refused

-- the number of a status
abbrev pub number_of : Status → ℕ
number_of Ended.Done = 0
number_of Ended.Usage = 2
number_of Ended.ReadFault = 3
number_of Ended.TooLong = 4
number_of Ended.NotJson = 5
number_of Ended.BadDocument = 6
number_of Ended.Refused = 7
number_of Ended.WriteFault = 8
number_of Ended.NoMemory = 9

-- the status is that of an answer that was written whole
abbrev pub IsWritten : Status → Type 0
IsWritten Ended.Done = ⊤
IsWritten Ended.NotJson = ⊤
IsWritten Ended.BadDocument = ⊤
IsWritten Ended.Refused = ⊤
IsWritten _ = ⊥

-- the status is that of a run that may have written a front of its text
abbrev pub IsCut : Status → Type 0
IsCut Ended.WriteFault = ⊤
IsCut Ended.NoMemory = ⊤
IsCut _ = ⊥

-- the status is that of a run that wrote nothing
abbrev pub IsSilent : Status → Type 0
IsSilent Ended.Usage = ⊤
IsSilent Ended.ReadFault = ⊤
IsSilent Ended.TooLong = ⊤
IsSilent _ = ⊥
