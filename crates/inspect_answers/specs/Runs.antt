-- How a run ends, by what was asked and by the octets that its source held.
use Rattle.std.specs.Prelude.{◌≡◌, ℕ, ◌≤◌, List, length, Option, Some, None, ⊤}
use Rattle.hitless_answers.specs.Promise.{TookJudgements}
use Rattle.inspect_answers.specs.Answers.{answer}
use Rattle.inspect_answers.specs.Explained.{TookExplained}
use Rattle.inspect_answers.specs.Unused.{TookUnused}
use Rattle.inspect_answers.specs.Promise.{TookWays}
use Rattle.inspect_answers.specs.Unmet.{TookExpected}
use Rattle.inspect_answers.specs.declared.asked.Asked.{Asked}
use Rattle.inspect_answers.specs.declared.asked.Asked.TheVariants as Asks
use Rattle.inspect_answers.specs.declared.top.Status.{Status}
use Rattle.inspect_answers.specs.declared.top.Status.TheVariants as Ended
use Rattle.inspect_answers.specs.declared.verdict.Verdict.{Verdict}
use Rattle.inspect_answers.specs.declared.verdict.Verdict.TheVariants as Found

-- a fact of an input; nothing is said of one that the source does not tell
abbrev pub OfOctets : Option (List ℕ) → (List ℕ → Type 0) → Type 0
OfOctets None Fact = ⊤
OfOctets (Some octets) Fact = Fact octets

-- a fact of what was asked and of its input
abbrev pub OfInput : Option Asked → Option (List ℕ) → (Asked → List ℕ → Type 0) → Type 0
OfInput None held Fact = ⊥
OfInput (Some asked) held Fact = OfOctets held (Fact asked)

-- a fact of what was asked and of its input, where something was asked
abbrev pub IfInput : Option Asked → Option (List ℕ) → (Asked → List ℕ → Type 0) → Type 0
IfInput None held Fact = ⊤
IfInput (Some asked) held Fact = OfOctets held (Fact asked)

-- the input is no longer than the limit, and is found to be this
abbrev pub IsFound : ℕ → Verdict → Asked → List ℕ → Type 0
IsFound limit verdict asked octets = (length octets ≤ limit) × ((answer asked octets).verdict ≡ verdict)

-- the text is what is written of an input
abbrev pub Writes : Asked → List ℕ → List ℕ → Type 0
Writes asked octets text = text ≡ (answer asked octets).text

-- the status that tells a verdict
abbrev pub status_of : Verdict → Status
status_of Found.Good = Ended.Done
status_of Found.Differs = Ended.Differs
status_of Found.NotJson = Ended.NotJson
status_of Found.BadDocument = Ended.BadDocument
status_of Found.Refused = Ended.Refused

-- the number of a status
abbrev pub number_of : Status → ℕ
number_of Ended.Done = 0
number_of Ended.Differs = 1
number_of Ended.Usage = 2
number_of Ended.ReadFault = 3
number_of Ended.TooLong = 4
number_of Ended.NotJson = 5
number_of Ended.BadDocument = 6
number_of Ended.Refused = 7
number_of Ended.WriteFault = 8
number_of Ended.NoMemory = 9

-- the status is that of what is asked, answered whole
abbrev pub IsAnswered : Status → Type 0
IsAnswered Ended.Done = ⊤
IsAnswered Ended.Differs = ⊤
IsAnswered _ = ⊥

-- the status is that of an answer that was written whole
abbrev pub IsWritten : Status → Type 0
IsWritten Ended.Done = ⊤
IsWritten Ended.Differs = ⊤
IsWritten Ended.NotJson = ⊤
IsWritten Ended.BadDocument = ⊤
IsWritten Ended.Refused = ⊤
IsWritten _ = ⊥

-- the status is that of a run that may have written a front of its text
abbrev pub IsCut : Status → Type 0
IsCut Ended.WriteFault = ⊤
IsCut Ended.NoMemory = ⊤
IsCut _ = ⊥

-- the status is that of a run that wrote nothing
abbrev pub IsSilent : Status → Type 0
IsSilent Ended.Usage = ⊤
IsSilent Ended.ReadFault = ⊤
IsSilent Ended.TooLong = ⊤
IsSilent _ = ⊥

-- what is promised where what is asked is answered, by the status
abbrev pub Keeps : Asked → Status → List ℕ → Option (List ℕ) → Option (List ℕ) → Type 0
Keeps (Asks.Ways form pairs) status octets old new = (status ≡ Ended.Done) × TookWays form pairs octets old new
Keeps (Asks.Expect form) status octets old new = TookExpected form status octets old new
Keeps (Asks.Unused form) status octets old new = (status ≡ Ended.Done) × TookUnused form octets old new
Keeps (Asks.Why form) status octets old new = (status ≡ Ended.Done) × TookExplained form octets old new
Keeps (Asks.Hitless form) status octets old new = (status ≡ Ended.Done) × TookJudgements form octets old new
