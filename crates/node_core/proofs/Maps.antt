-- Maps in which all fits, under changes.
use Rattle.std.proofs.Common.{◌≡◌, true, false, cond, List, [], ◌∷◌, Option, Some, None, refl}
use Rattle.std.specs.FinMap.{get, empty}
use Rattle.std.specs.List.{AllByRecursion, filter_map, cons_option}
use Rattle.ov_sync.specs.declared.Delta.TheVariants.{Put, Drop}
use Rattle.ov_sync.specs.Keyed.{changed, after, change, change_at, keys_of_either, PutOf}
use Rattle.ov_sync.proofs.KeyedLaws.{changed_values, empty_values}
use Rattle.node_model.specs.Keys.{Key, Low, Row, Publish, Subscribe, key_cmp}
use Rattle.node_model.specs.Values.{Value, Entry, Label, same_value}
use Rattle.node_model.specs.Maps.{Map, Change, difference}
use Rattle.node_model.proofs.Orders.{key_total, key_exact}
use Rattle.node_core.specs.Told.{KeyFits, Fits, ChangeFits, AllFit}

-- a key under which something fits is in range
pub key_of_what_fits : (k : Key) (v : Value) → Fits k v → KeyFits k
key_of_what_fits (Low k) v h = h.0
key_of_what_fits (Row i prefix) (Entry hop) h = h.0
key_of_what_fits (Publish i prefix) (Label label) h = h.0
key_of_what_fits (Subscribe i) (Label label) h = h.0
key_of_what_fits _ _ h = absurd h

fits_at : (sent wanted : Map) (k : Key) (p q : Option Value) (cs : List Change) → get sent k ≡ p → get wanted k ≡ q → AllFit sent → AllFit wanted
    → AllByRecursion ChangeFits cs → AllByRecursion ChangeFits (cons_option (change same_value k p q) cs)
fits_at sent wanted k None None cs e f s w h = h
fits_at sent wanted k (Some v) None cs e f s w h = (key_of_what_fits k v (s k v e), h)
fits_at sent wanted k None (Some v) cs e f s w h = (w k v f, h)
fits_at sent wanted k (Some u) (Some v) cs e f s w h =
    elim (same_value u v) as (λ c. AllByRecursion ChangeFits (cons_option (cond c None (Some (Put k v))) cs)) [ true ↦ h | false ↦ (w k v f, h) ]

pub difference_fits : (sent wanted : Map) → AllFit sent → AllFit wanted → AllByRecursion ChangeFits (difference sent wanted)
difference_fits sent wanted s w = each (keys_of_either sent wanted)
  where
    each : (ks : List Key) → AllByRecursion ChangeFits (filter_map (change_at same_value sent wanted) ks)
    each [] = tt
    each (k ∷ ks) = fits_at sent wanted k (get sent k) (get wanted k) (filter_map (change_at same_value sent wanted) ks) refl refl s w (each ks)

put_fits : (c : Change) → ChangeFits c → PutOf Fits c
put_fits (Put k v) h = h
put_fits (Drop k) h = tt

pub nothing_fits : AllFit (empty {R = key_cmp})
nothing_fits = empty_values key_cmp Fits

pub changed_fits : (m : Map) (c : Change) → AllFit m → ChangeFits c → AllFit (changed m c)
changed_fits m c a h = changed_values Fits key_total key_exact m c a (put_fits c h)

pub after_fits : (m : Map) (cs : List Change) → AllFit m → AllByRecursion ChangeFits cs → AllFit (after m cs)
after_fits m [] a h = a
after_fits m (c ∷ cs) a h = after_fits (changed m c) cs (changed_fits m c a h.0) h.1
