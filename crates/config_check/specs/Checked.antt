-- What a check answers.
use Rattle.std.specs.Prelude.{◌≡◌, Option, Some}
use Rattle.config_types.specs.declared.config.Config.{Config}
use Rattle.config_types.specs.declared.topology.Topology.{Topology}
use Rattle.config_check.specs.declared.refusal.CheckRefusal.{CheckRefusal}
use Rattle.config_check.specs.declared.refusal.CheckRefusal.TheVariants.{Rule, NoMemory}
use Rattle.config_check.specs.declared.refusal.Refusal.{Refusal}

-- a topology and a configuration that were found valid
pub record Checked : Type 0 where
  pub topology : Topology
  pub config : Config

-- a refusal names the broken rule that was found; want of memory says nothing
abbrev pub Refuses : CheckRefusal → Option Refusal → Type 0
Refuses (Rule r) found = found ≡ Some r
Refuses NoMemory found = Unit {0}
