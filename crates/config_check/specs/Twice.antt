-- The rule on services that stand twice, read off what an expansion by numbers answers.
use Rattle.std.specs.Prelude.{ℕ, List, Option, Some, None, Result, Ok, Err}
use Rattle.ov_types.specs.declared.numbers.ServiceNo.{ServiceNo}
use Rattle.chain_expand.specs.declared.fault.ChainFault.{ChainFault}
use Rattle.chain_expand.specs.declared.fault.ChainFault.TheVariants.{Loop, TooLong, Twice}
use Rattle.config_check.specs.declared.refusal.Refusal.{Refusal}
use Rattle.config_check.specs.declared.refusal.Refusal.TheVariants.{ServiceTwice}

-- the refusal of a chain whose expansion has a service twice
abbrev pub twice_of : List ℕ → Result (List ServiceNo) ChainFault → Option Refusal
twice_of name (Ok numbers) = None
twice_of name (Err (Loop d)) = None
twice_of name (Err (TooLong d)) = None
twice_of name (Err (Twice d service)) = Some (ServiceTwice name service)
