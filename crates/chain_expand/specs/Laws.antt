-- What a fault of a chain says.
use Rattle.std.specs.Prelude.{◌≡◌, List, ◌∷◌, ◌++◌, ℕ, Contains, Err}
use Rattle.config_types.specs.declared.config.Config.{Config}
use Rattle.config_types.specs.declared.config.Service.{Service}
use Rattle.chain_expand.specs.declared.fault.ChainFault.TheVariants.{Twice}
use Rattle.chain_expand.specs.Expansion.{expansion, expansion_of}

-- a service of this name stands after one of its number
pub record StandsAgain (services : List Service) (name : List ℕ) : Type 0 where
  pub earlier : Service
  pub later : Service
  pub front : List Service
  pub rest : List Service
  pub stands : services ≡ front ++ later ∷ rest
  pub is_before : Contains front earlier
  pub one_number : earlier.id.0 ≡ later.id.0
  pub has_name : later.name ≡ name

-- the fault of a chain that has a service twice names that chain, and the service where it stands again
abbrev pub TwiceNamesTheService : Type 0
TwiceNamesTheService = (c : Config) (name chain service : List ℕ) → expansion_of c name ≡ Err (Twice chain service)
    → (chain ≡ name) × StandsAgain (expansion c name) service
