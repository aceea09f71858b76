-- Uses of chains by their numbers.
use Rattle.std.specs.Prelude.{◌≡◌, ◌==◌, ℕ, List, [], find, Option, None, Some, option_and_then, option_map}
use Rattle.std.specs.BTreeMap.{is_at}
use Rattle.std.specs.Borrow.{Bor}
use Rattle.std.specs.Map.{lookup}
use Rattle.std.specs.Ordering.{nat_cmp}
use Rattle.ov_types.specs.declared.numbers.InstanceId.{InstanceId}
use Rattle.route_targets.specs.Numbers.{hop_of}
use Rattle.config_types.specs.declared.config.Config.{Config}
use Rattle.config_types.specs.declared.topology.Topology.{Topology}
use Rattle.transform_model.specs.Tables.{Row, hop_rows}
use Rattle.transform_model.specs.Uses.{ConfiguredUse, uses}
use Rattle.schema_transform.specs.HeldUses.{use_of}
use Rattle.schema_transform.specs.declared.chain_use.ChainUse.{ChainUse}

-- the first use of a number
abbrev pub use_numbered : List ConfiguredUse → ℕ → Option ConfiguredUse
use_numbered us n = find (λ u. u.number == n) us

-- the use that is kept under a number
abbrev pub use_in : List (ℕ × Bor ChainUse) → ℕ → Option ConfiguredUse
use_in entries n = option_map (λ u. use_of u.now) (lookup (is_at (nat_cmp n)) entries)

-- under each number the use in effect that has it
abbrev pub AreUses : List (ℕ × Bor ChainUse) → Config → Type 0
AreUses entries c = (n : ℕ) → use_in entries n ≡ use_numbered (uses c) n

-- the use that an instance is a hop of, by what is under numbers
abbrev pub use_at : (ℕ → Option ConfiguredUse) → InstanceId → Option ConfiguredUse
use_at among i = option_and_then (λ h. among h.use_no) (hop_of i)

-- what a use gives an instance, where there is one
abbrev pub use_rows : Topology → Config → InstanceId → Option ConfiguredUse → List Row
use_rows t c i None = []
use_rows t c i (Some u) = hop_rows t c i u
