-- What the transformer rests on.
use Rattle.std.specs.Prelude.{◌≢◌, ◌≤◌}
use Rattle.std.specs.List.{AllPairs}
use Rattle.config_types.specs.declared.config.Config.{Config}
use Rattle.ov_types.specs.declared.objects.LowValue.{LowValue}
use Rattle.ov_types.specs.declared.objects.LowValue.TheVariants.{AttachCircuit}
use Rattle.acl_compile.specs.Bounds.{KeepsBounds}
use Rattle.transform_model.specs.Uses.{uses}

-- a configuration keeps the bounds of a valid one, and no two of its services, and no two uses in effect, have one number
pub record IsSound (c : Config) : Type 0 where
  pub bounds : KeepsBounds c
  pub services : AllPairs (λ s u. s.id.0 ≢ u.id.0) c.services
  pub uses : AllPairs (λ u v. u.number ≢ v.number) (uses c)

-- the circuit of an object is one of a service
abbrev pub IsSmall : LowValue → Type 0
IsSmall (AttachCircuit circuit service node) = circuit ≤ 131070
IsSmall _ = Unit {0}
