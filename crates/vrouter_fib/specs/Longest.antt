-- What a routing table is, and which of its routes is the longest towards an address.
use Rattle.std.specs.Prelude.{◌≢◌, ℕ, ◌≤◌, IsTrue, List}
use Rattle.std.specs.List.{All, AllPairs, Contains}
use Rattle.ov_types.specs.Prefix.{Block, contains, is_prefix}

-- the routes of a table: each has a prefix, and no two have one
pub record IsTable {A : Type 0} (routes : List (Block × A)) : Type 0 where
  pub prefixes : All (λ r. IsTrue (is_prefix r.0.addr r.0.len)) routes
  pub distinct : AllPairs (λ r s. r.0 ≢ s.0) routes

-- a route of the list that contains an address, while no route that contains it has a longer prefix
pub record IsLongest {A : Type 0} (routes : List (Block × A)) (address : ℕ) (route : Block × A) : Type 0 where
  pub listed : Contains routes route
  pub containing : IsTrue (contains route.0 address)
  pub longest : All (λ r. IsTrue (contains r.0 address) → r.0.len ≤ route.0.len) routes
