-- What is asked of the low-level objects of a feed.
use Rattle.std.specs.Prelude.{◌≤◌, length}
use Rattle.ov_types.specs.declared.objects.LowKey.{LowKey}
use Rattle.ov_types.specs.declared.objects.LowKey.TheVariants as key
use Rattle.ov_types.specs.declared.objects.LowValue.{LowValue}
use Rattle.ov_types.specs.declared.objects.LowValue.TheVariants as low

-- a use's number is one of 3072, and it has at most 15 services
abbrev pub Fits : LowKey → LowValue → Type 0
Fits (key.ChainUse use_no) (low.ChainUse left right left_subnets right_subnets hops) =
    (use_no ≤ 3071) × (length hops ≤ 15)
Fits _ _ = Unit {0}
