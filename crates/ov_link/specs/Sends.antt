-- What a send may answer.
use Rattle.std.specs.Prelude.{◌≡◌, ℕ, ◌≤◌, List, IsTrue, not}
use Rattle.std.specs.declared.option.Option.{Option}
use Rattle.std.specs.declared.result.Result.{Result}
use Rattle.std.specs.declared.result.Result.TheVariants.{Ok, Err}
use Rattle.std.specs.Option.{IfSome, option_map}
use Rattle.ov_types.specs.Counts.{Rose}
use Rattle.ov_link.specs.declared.link.LinkFault.{LinkFault}
use Rattle.ov_link.specs.declared.link.LinkFault.TheVariants.{Failed, NoMemory}
use Rattle.ov_link.specs.Breaks.{is_break, counted}

-- a send that fails has a cause: the count of faults never falls, and rose. Any other leaves the count
abbrev pub HasCause : {T : Type 0} → ℕ → ℕ → Result T LinkFault → Type 0
HasCause before now (Err Failed) = (before ≤ now) × Rose before now
HasCause before now (Err NoMemory) = now ≡ before
HasCause before now (Ok _) = now ≡ before

-- where the breaks are told, a send fails exactly where it meets one, unless it finds no memory; and it counts for each
-- of them, unless it finds no memory
abbrev pub MeetsBreaks : {T : Type 0} → Option (List ℕ) → Option (List ℕ) → Result T LinkFault → Type 0
MeetsBreaks before now (Err Failed) =
    IfSome before (λ breaks. IsTrue (is_break breaks 1)) × (now ≡ option_map counted before)
MeetsBreaks before now (Err NoMemory) = now ≡ before
MeetsBreaks before now (Ok _) =
    IfSome before (λ breaks. IsTrue (not (is_break breaks 1))) × (now ≡ option_map counted before)
