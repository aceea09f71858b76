-- What a link took of a list of messages.
use Rattle.std.specs.Prelude.{◌≡◌, ℕ, zero, suc, ◌≤◌, List, ◌++◌, length, take, Bool, true, false, ◌&&◌, IsTrue, not}
use Rattle.std.specs.Prelude.{nat_lt, if◌then◌else◌}
use Rattle.std.specs.declared.option.Option.{Option}
use Rattle.std.specs.Option.{IfSome, option_map}
use Rattle.ov_types.specs.Counts.{Rose}
use Rattle.ov_link.specs.Breaks.{is_break, counted}

-- the breaks once n sends were made
abbrev pub counted_by : ℕ → List ℕ → List ℕ
counted_by zero breaks = breaks
counted_by (suc n) breaks = counted (counted_by n breaks)

-- whether none of the next n sends is to fail
abbrev pub all_pass : ℕ → List ℕ → Bool
all_pass zero breaks = true
all_pass (suc n) breaks = all_pass n breaks && not (is_break (counted_by n breaks) 1)

-- n sends passed, and then one failed or not
pub record Counts (n : ℕ) (failed : Bool) (before after : Option (List ℕ)) : Type 0 where
  pub passed : IfSome before (λ breaks. IsTrue (all_pass n breaks))
  pub met : failed ≡ true → IfSome before (λ breaks. IsTrue (is_break (counted_by n breaks) 1))
  pub left : after ≡ option_map (counted_by (if failed then suc n else n)) before

module _ {L : Type 0} (accepted : L → Option (List (List ℕ))) (breaks : L → Option (List ℕ)) (faults : L → ℕ) where
  -- a link took these messages, and then failed or not
  pub record Took (messages : List (List ℕ)) (failed : Bool) (before after : L) : Type 0 where
    pub told : accepted after ≡ option_map (λ sent. sent ++ messages) (accepted before)
    pub counts : Counts (length messages) failed (breaks before) (breaks after)
    pub rose : failed ≡ true → (faults before ≤ faults after) × Rose (faults before) (faults after)
    pub still : failed ≡ false → faults after ≡ faults before

  -- a link took the first of these messages, as many as it chose, and failed if it did not take all
  pub record Delivers (planned : List (List ℕ)) (failed : Bool) (before after : L) : Type 0 where
    pub count : ℕ
    pub within : count ≤ length planned
    pub whole : failed ≡ nat_lt count (length planned)
    pub took : Took (take count planned) failed before after
