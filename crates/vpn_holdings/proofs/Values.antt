-- The objects of a feed are within their ranges.
use Rattle.std.specs.Prelude.{◌≡◌, List, Option, Some, None, option_copied}
use Rattle.std.specs.Option.{IfSome}
use Rattle.std.specs.FinMap.{FinMap, get}
use Rattle.std.proofs.Common.{sym, subst, Bor}
use Rattle.ov_sync.specs.declared.Delta.{Delta}
use Rattle.ov_sync.specs.Keyed.{changed, map_of, Values, PutOf}
use Rattle.ov_sync.proofs.KeyedLaws.{changed_values}
use Rattle.vpn_holdings.specs.Views.{low_order}
use Rattle.ov_types.specs.declared.objects.LowKey.{LowKey}
use Rattle.ov_types.specs.declared.objects.LowValue.{LowValue}
use Rattle.vpn_holdings.specs.Ranges.{Fits}
use Rattle.path_select.proofs.NodeModel.Directions.{low_total, low_exact}

pub values_after : (P : LowKey → LowValue → Type 0) (es fs : List (LowKey × LowValue)) (d : Delta LowKey LowValue) → map_of low_order fs ≡ changed (map_of low_order es) d
    → Values P (map_of low_order es) → PutOf P d → Values P (map_of low_order fs)
values_after P es fs d e h p = subst (λ (m : FinMap low_order LowValue). Values P m) (sym e) (changed_values P low_total low_exact (map_of low_order es) d h p)

pub fits_at : (es : List (LowKey × LowValue)) (k : LowKey) (o : Option (Bor LowValue)) → Values Fits (map_of low_order es) → option_copied o ≡ get (map_of low_order es) k
    → IfSome o (λ v. Fits k v.now)
fits_at es k None h e = tt
fits_at es k (Some v) h e = h k v.now (sym e)
