-- The octets that a node keeps of its sessions, each list in the place of its session: those of a message that is not
-- whole yet.
use Rattle.std.specs.Prelude.{◌≡◌, ◌≤◌, ◌<◌, ℕ, List, [], ◌++◌, drop, length, replicate, true, if◌then◌else◌}
use Rattle.std.specs.List.{slice_index_or}
use Rattle.ov_link.specs.declared.step.Input.{Input}
use Rattle.ov_link.specs.declared.step.Input.TheVariants as input
use Rattle.node_model.specs.Step.{Post, is_idle, post}

abbrev pub kept_at : List (List ℕ) → ℕ → List ℕ
kept_at kept i = slice_index_or kept i []

-- nothing is kept of so many sessions
abbrev pub nothing_kept : ℕ → List (List ℕ)
nothing_kept n = replicate n []

-- each has at most 65,539 octets, one fewer than the longest message
abbrev pub AreFew : List (List ℕ) → Type 0
AreFew kept = (i : ℕ) → length (kept_at kept i) ≤ 65539

-- nothing is kept of an end that is closed
abbrev pub AreOfLive : List Post → List (List ℕ) → Type 0
AreOfLive posts kept = (i : ℕ) → is_idle (post posts i).phase ≡ true → kept_at kept i ≡ []

-- nothing is kept of an end that is closed, and of each other what was
pub record AreSwept (posts : List Post) (before after : List (List ℕ)) : Type 0 where
  pub long : length after ≡ length before
  pub each : (i : ℕ) → i < length before
      → kept_at after i ≡ (if is_idle (post posts i).phase then [] else kept_at before i)

-- ---- the octets of an input
-- how many it brings
abbrev pub size_of : Input → ℕ
size_of (input.Bytes session bytes) = length bytes.now
size_of _ = 0

-- what is left of them, once so many were taken
abbrev pub left_in : Input → ℕ → List ℕ
left_in (input.Bytes session bytes) taken = drop taken bytes.now
left_in _ taken = []

-- an input brings no octets
abbrev pub IsSilent : Input → Type 0
IsSilent (input.Bytes session bytes) = ⊥
IsSilent _ = Unit {0}

-- an input is another one with its octets behind those that were kept
abbrev pub IsBehind : List ℕ → Input → Input → Type 0
IsBehind kept (input.Bytes i bytes) (input.Bytes j whole) = (j ≡ i) × (whole.now ≡ kept ++ bytes.now)
IsBehind kept came whole = whole ≡ came
