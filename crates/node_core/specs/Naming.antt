-- Which link failed, by the counts of faults.
use Rattle.std.specs.Prelude.{◌≡◌, ℕ, ◌<◌, ◌≤◌, List, length}
use Rattle.std.specs.declared.option.Option.{Option}
use Rattle.std.specs.declared.option.Option.TheVariants.{Some, None}
use Rattle.ov_types.specs.Counts.{Rose}
use Rattle.node_model.specs.Step.{At}

module _ {L : Type 0} (faults : L → ℕ) (links links' : List L) where
  -- the count of a session's link is as it was
  abbrev pub Stayed : ℕ → Type 0
  Stayed i = (link link' : L) → At links i link → At links' i link' → faults link' ≡ faults link

  -- the count of a session's link never fell, and rose
  abbrev pub Rises : ℕ → Type 0
  Rises i =
      (link link' : L) → At links i link → At links' i link'
      → (faults link ≤ faults link') × Rose (faults link) (faults link')

  -- the count of the named session's link rose, and no lower one changed. Where none is named, no count changed
  abbrev pub Names : Option ℕ → Type 0
  Names None = (i : ℕ) → i < length links → Stayed i
  Names (Some s) = (s < length links) × Rises s × ((i : ℕ) → i < s → Stayed i)
