-- Which chains the hops of chains name, as rows of marks: one row for the place of each chain, one mark for each place.
use Rattle.std.specs.Prelude.{◌≡◌, ℕ, zero, suc, ◌<◌, ◌==◌, ◌&&◌, ◌||◌, Bool, true, false, List, [], length, position}
use Rattle.std.specs.Prelude.{slice_get, slice_index_or, slice_set, Option, Some, None, if◌then◌else◌}
use Rattle.std.specs.List.{list_any, zip}
use Rattle.std.specs.Option.{option_map_or}
use Rattle.config_types.specs.declared.config.Config.{Config}
use Rattle.ov_types.specs.First.{same_name}
use Rattle.chain_expand.specs.Expansion.{names_chain, leads_within}

-- the place of the first chain of a name
abbrev pub place_of : Config → List ℕ → Option ℕ
place_of c name = position (λ d. same_name d.name name) c.chains

-- the place of the chain that a hop names
abbrev pub place_named : Config → List ℕ → Option ℕ
place_named c hop = if names_chain c hop then place_of c hop else None

-- the hops of the chain at a place
abbrev pub hops_at : Config → ℕ → List (List ℕ)
hops_at c place = option_map_or (λ d. d.hops) (slice_get c.chains place) []

-- the marks with one more
abbrev pub with_mark : List Bool → Option ℕ → List Bool
with_mark marks None = marks
with_mark marks (Some place) = slice_set marks place true

abbrev pub is_marked : List Bool → Option ℕ → Bool
is_marked marks None = false
is_marked marks (Some place) = slice_index_or marks place false

-- some place is marked in both
abbrev pub meets : List Bool → List Bool → Bool
meets row marks = list_any (λ p. p.0 && p.1) (zip row marks)

-- a row has the places that hops name: it meets those marks that mark one
abbrev pub HasNamed : Config → List (List ℕ) → List Bool → Type 0
HasNamed c hops row = (marks : List Bool) → length marks ≡ 128
    → meets row marks ≡ list_any (λ hop. is_marked marks (place_named c hop)) hops

-- each row has the places that the hops of the chain at its place name
abbrev pub IsLinked : Config → List (List Bool) → Type 0
IsLinked c rows = (place : ℕ) → place < 128 → HasNamed c (hops_at c place) (slice_index_or rows place [])

-- the chain at a place leads to another over at most n named chains
unfoldable pub leads_at : ℕ → Config → ℕ → List ℕ → Bool
leads_at zero c place to = false
leads_at (suc n) c place to =
    list_any (λ hop. names_chain c hop && (same_name hop to || leads_within n c hop to)) (hops_at c place)

-- what is marked is the target, or leads to it over at most n named chains
abbrev pub IsReached : Config → ℕ → ℕ → List Bool → Type 0
IsReached c target n marks = (to : List ℕ) (place : ℕ) → place_of c to ≡ Some target → place < 128
    → slice_index_or marks place false ≡ (place == target || leads_at n c place to)

-- one round on: a place is marked where it is the target, or its row meets the marks
abbrev pub IsRound : ℕ → List (List Bool) → List Bool → List Bool → Type 0
IsRound target rows marks next = (place : ℕ) → place < 128
    → slice_index_or next place false ≡ (place == target || meets (slice_index_or rows place []) marks)
