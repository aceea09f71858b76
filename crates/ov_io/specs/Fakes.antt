-- The fakes over memory: what they hold, how many of their calls were made, and the numbers of those that fail.
use Rattle.std.specs.Prelude.{ℕ, ◌+◌, ◌-◌, ◌^◌, min, List, drop, Option, Some, Contains}
use Rattle.ov_io.specs.declared.source.MemSource.{MemSource}
use Rattle.ov_io.specs.declared.sink.MemSink.{MemSink}

-- the octets that are left to read
abbrev pub octets_left : MemSource → Option (List ℕ)
octets_left s = Some (drop s.at s.octets.items)

abbrev pub failed_reads : MemSource → ℕ
failed_reads s = s.faults

-- how many reads were made, in a count that stops at the last value of a u64
abbrev pub reads_made : MemSource → ℕ
reads_made s = s.calls

-- the numbers of the reads that fail
abbrev pub failing_reads : MemSource → List ℕ
failing_reads s = s.failing.items

-- the octets that were taken
abbrev pub octets_taken : MemSink → Option (List ℕ)
octets_taken s = Some s.octets.items

abbrev pub failed_writes : MemSink → ℕ
failed_writes s = s.faults

-- how many writes were made, in the same count
abbrev pub writes_made : MemSink → ℕ
writes_made s = s.calls

-- the numbers of the writes that fail
abbrev pub failing_writes : MemSink → List ℕ
failing_writes s = s.failing.items

-- the number of the call after so many
abbrev pub call_after : ℕ → ℕ
call_after made = min (made + 1) (2 ^ 64 - 1)

-- the call after so many is a listed one
abbrev pub IsListed : List ℕ → ℕ → Type 0
IsListed failing made = Contains failing (call_after made)
