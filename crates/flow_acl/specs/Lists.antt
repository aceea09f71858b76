-- What access lists are among the objects.
use Rattle.ov_types.specs.declared.objects.LowValue.{LowValue}
use Rattle.ov_types.specs.declared.objects.LowValue.TheVariants.{Acl}

-- an object is an access list's
abbrev pub IsAccessList : LowValue → Type 0
IsAccessList (Acl subnets rules) = Unit {0}
IsAccessList _ = ⊥
