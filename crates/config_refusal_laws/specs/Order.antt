-- The written order of the rules.
use Rattle.std.specs.Prelude.{ℕ, ◌≤◌, Option}
use Rattle.std.specs.Option.{IsSomeAnd}
use Rattle.config_check.specs.declared.refusal.Refusal.{Refusal}
use Rattle.config_check.specs.declared.refusal.Refusal.TheVariants.{Limit, DuplicateName, DuplicateId, BadReference}
use Rattle.config_check.specs.declared.refusal.Refusal.TheVariants.{SubnetReserved, SubnetNested, AddressOutside}
use Rattle.config_check.specs.declared.refusal.Refusal.TheVariants.{AddressTaken, ChainNeedsNetworks}
use Rattle.config_check.specs.declared.refusal.Refusal.TheVariants.{ChainSameNetwork, ChainLoop, ChainTooLong}
use Rattle.config_check.specs.declared.refusal.Refusal.TheVariants.{ServiceTwice, SubnetOverlap}

-- which of the fourteen rules a refusal speaks of
abbrev pub rule_number : Refusal → ℕ
rule_number (Limit what) = 1
rule_number (DuplicateName name) = 2
rule_number (DuplicateId what id) = 3
rule_number (BadReference name) = 4
rule_number (SubnetReserved network prefix) = 5
rule_number (SubnetNested network first second) = 6
rule_number (AddressOutside port) = 7
rule_number (AddressTaken first second) = 8
rule_number (ChainNeedsNetworks rule) = 9
rule_number (ChainSameNetwork rule) = 10
rule_number (ChainLoop chain) = 11
rule_number (ChainTooLong chain) = 12
rule_number (ServiceTwice chain service) = 13
rule_number (SubnetOverlap first second) = 14

-- there is a refusal, and it speaks of this rule or of an earlier one
abbrev pub IsBrokenBy : ℕ → Option Refusal → Type 0
IsBrokenBy n found = IsSomeAnd found (λ first. rule_number first ≤ n)
