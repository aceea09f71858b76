-- Entries that go into a map from the last to the first.
use Rattle.std.specs.Prelude.{◌≡◌, List, [], ◌∷◌, ◌++◌}
use Rattle.std.specs.declared.cmp.Ordering.{Ordering}
use Rattle.std.specs.FinMap.{FinMap, insert}
use Rattle.std.proofs.Common.{sym, ◌∙◌, ap}
use Rattle.ov_sync.specs.Keyed.{map_of}

put_last : {K V : Type 0} (R : K → K → Ordering) (rest : List (K × V)) (k : K) (v : V) (es fs : List (K × V)) → map_of R fs ≡ insert (map_of R es) k v
    → map_of R (rest ++ fs) ≡ map_of R ((rest ++ (k, v) ∷ []) ++ es)
put_last R [] k v es fs e = e
put_last {V = V} R (x ∷ rest) k v es fs e = ap (λ (m : FinMap R V). insert m x.0 x.1) (put_last R rest k v es fs e)

-- the last entry goes into the map
pub turn : {K V : Type 0} (R : K → K → Ordering) (rest before : List (K × V)) (k : K) (v : V) (es fs : List (K × V)) (whole : FinMap R V) → before ≡ rest ++ (k, v) ∷ []
    → map_of R fs ≡ insert (map_of R es) k v → map_of R (before ++ es) ≡ whole → map_of R (rest ++ fs) ≡ whole
turn {K = K} {V = V} R rest before k v es fs whole is e h =
    put_last R rest k v es fs e ∙ ap (λ (l : List (K × V)). map_of R (l ++ es)) (sym is) ∙ h
