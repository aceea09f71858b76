-- How many services a use has.
use Rattle.std.specs.Prelude.{ℕ, length}
use Rattle.std.specs.declared.option.Option.{Option}
use Rattle.std.specs.declared.option.Option.TheVariants.{Some, None}
use Rattle.transform_model.specs.Uses.{ConfiguredUse}

abbrev pub services_in : Option ConfiguredUse → ℕ
services_in None = 0
services_in (Some u) = length u.services
