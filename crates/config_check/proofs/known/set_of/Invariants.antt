use Rattle.std.proofs.Common.{◌≡◌, ◌||◌, ℕ, List, drop}
use Rattle.std.specs.BTreeSet.{contains}
use Rattle.std.specs.Cmp.Lexicographic.{slice_cmp}
use Rattle.std.specs.List.{list_any}
use Rattle.std.specs.Ordering.{nat_cmp}
use Rattle.ov_types.specs.First.{same_name}
use Rattle.config_check.proofs.known.set_of.Given as goal

abbrev pub invariant-loop-name : goal.invariant-loop-name
invariant-loop-name l =
    (q : List ℕ) → (contains (slice_cmp nat_cmp) l.known q || list_any (same_name q) (drop l.name-index l.names)) ≡ list_any (same_name q) l.names
