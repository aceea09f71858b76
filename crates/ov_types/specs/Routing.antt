-- The route that an address takes: of the prefixes that contain it the longest.
use Rattle.std.specs.Prelude.{ℕ, nat_le, List, [], ◌∷◌, Option, Some, None, if◌then◌else◌}
use Rattle.ov_types.specs.Prefix.{Block, contains}

-- the one of two routes with the longer prefix
abbrev pub longer : {A : Type 0} → Block × A → Option (Block × A) → Option (Block × A)
longer r None = Some r
longer r (Some s) = if nat_le s.0.len r.0.len then Some r else Some s

-- the route whose prefix is the longest of those that contain an address
abbrev pub longest : {A : Type 0} → ℕ → List (Block × A) → Option (Block × A)
longest a [] = None
longest a (r ∷ rs) = if contains r.0 a then longer r (longest a rs) else longest a rs
