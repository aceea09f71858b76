-- Which of some paths counts.
use Rattle.std.specs.Prelude.{◌≡◌, ℕ, ◌<◌, List, [], ◌∷◌, Bool, true, false, Some}
use Rattle.std.specs.Ordering.{nat_cmp, is_lt}
use Rattle.std.specs.Cmp.Lexicographic.{slice_cmp}
use Rattle.std.specs.List.{slice_get}
use Rattle.node_model.specs.Paths as model
use Rattle.path_select.specs.declared.selection.Path.{Path}

-- what counts of a path that a control node received, besides its prefix and its targets
abbrev pub plain : model.Path → Path
plain p = record { session = p.session; rd = p.rd; next_hop = p.next_hop; label = p.label }

-- the lesser by next hop, then label, then distinguisher, then session
abbrev pub numbers : Path → List ℕ
numbers p = p.next_hop.0 ∷ p.label.0 ∷ p.rd.0 ∷ p.session ∷ []

abbrev pub is_better : Path → Path → Bool
is_better a b = is_lt (slice_cmp nat_cmp (numbers a) (numbers b))

-- a path stands at place i, no path is better, and it is better than each before it
pub record IsFirstOfLeast (paths : List Path) (i : ℕ) : Type 0 where
  pub path : Path
  pub stands : slice_get paths i ≡ Some path
  pub least : (k : ℕ) (p : Path) → slice_get paths k ≡ Some p → is_better p path ≡ false
  pub first : (k : ℕ) (p : Path) → slice_get paths k ≡ Some p → k < i → is_better path p ≡ true
