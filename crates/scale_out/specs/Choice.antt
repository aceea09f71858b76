-- Which of a group's members a packet visits.
use Rattle.std.specs.Prelude.{◌≡◌, ℕ, ◌+◌, ◌*◌, ◌%◌, ◌≤◌, nat_le, Bool, List, find, unwrap_or}
use Rattle.std.specs.List.{All, Contains, list_all}

-- the score of a member for a packet's key
unfoldable pub score : ℕ → ℕ → ℕ
score key m = (key + 257 * m) * 40503 % 65536

-- no member has a greater score
abbrev pub is_greatest : List ℕ → ℕ → ℕ → Bool
is_greatest members key m = list_all (λ n. nat_le (score key n) (score key m)) members

-- the first member that none exceeds: in an ascending list, the least of those
abbrev pub chosen : List ℕ → ℕ → ℕ
chosen members key = unwrap_or (find (is_greatest members key) members) 0

-- a member has the greatest score, and is the least such
pub record IsChosen (members : List ℕ) (key m : ℕ) : Type 0 where
  pub stands : Contains members m
  pub greatest : All (λ n. score key n ≤ score key m) members
  pub least : All (λ n. score key n ≡ score key m → m ≤ n) members
