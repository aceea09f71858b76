-- The changes that a session is told.
use Rattle.std.specs.Prelude.{◌≡◌, ◌<◌, ℕ, List, [], ◌∷◌, map, length, if◌then◌else◌}
use Rattle.std.specs.declared.option.Option.{Option}
use Rattle.std.specs.FinMap.{get}
use Rattle.std.specs.List.Sorted.{IsStrictlySortedBy}
use Rattle.std.specs.Ordering.{eq_by_cmp}
use Rattle.std.specs.List.{All, cons_option}
use Rattle.std.proofs.Common.{sym, ◌∙◌, ap, subst, get_or}
use Rattle.std.proofs.lemmas.List.{get_or-map, length-map}
use Rattle.std.proofs.lemmas.List.Elements.{All-from_recursion}
use Rattle.ov_sync.specs.declared.Delta.{Delta}
use Rattle.ov_sync.specs.Embed.{moved_delta}
use Rattle.ov_sync.specs.Keyed.{AgreeBut, change, map_of, set_key}
use Rattle.ov_sync.proofs.ByKeys.{set_by_keys, set_from, told_by_keys}
use Rattle.ov_types.specs.contracts.objects.LowValuePartialEq.TheImpl as low_values
use Rattle.ov_types.proofs.Values.{objects}
use Rattle.ov_types.specs.declared.objects.LowKey.{LowKey}
use Rattle.ov_types.specs.declared.objects.LowValue.{LowValue}
use Rattle.node_core.specs.Told.{AllFit, ChangeFits}
use Rattle.node_core.proofs.Maps.{difference_fits}
use Rattle.node_core.specs.NodeModel.Keys.{Low}
use Rattle.node_core.specs.NodeModel.Maps.{Change, difference}
use Rattle.node_core.specs.NodeModel.Values.{Object}
use Rattle.node_core.proofs.NodeModel.Directions.{low_exact, low_total}
use Rattle.config_node.specs.Ends.{Objects, low_of, low_order}
use Rattle.config_node.proofs.Images.{low_changes, low_differ}

pub fits_at : (ds : List (Delta LowKey LowValue)) (i : ℕ) (d : Delta LowKey LowValue) → i < length ds
    → d ≡ get_or ds i d → All ChangeFits (map (moved_delta Low Object) ds) → ChangeFits (moved_delta Low Object d)
fits_at ds i d lt is all =
    let n = all i (moved_delta Low Object d)
    (subst (λ n. i < n) (sym (length-map ds (moved_delta Low Object))) lt) in
    subst ChangeFits (get_or-map (moved_delta Low Object) ds i d (moved_delta Low Object d) lt
    ∙ ap (moved_delta Low Object) (sym is)) n

-- the changes of a session, among all keys and values
pub told_as : (sent wants : Objects) (ds : List (Delta LowKey LowValue)) → ds ≡ low_changes sent wants
    → map (moved_delta Low Object) ds ≡ difference (low_of sent) (low_of wants)
told_as sent wants ds e = ap (map (moved_delta Low Object)) e ∙ sym (low_differ sent wants)

pub told_fits : (sent wants : Objects) (ds : List (Delta LowKey LowValue)) → ds ≡ low_changes sent wants
    → AllFit (low_of sent) → AllFit (low_of wants) → All ChangeFits (map (moved_delta Low Object) ds)
told_fits sent wants ds e f g =
    subst (λ (cs : List Change). All ChangeFits cs) (sym (told_as sent wants ds e))
    (All-from_recursion ChangeFits (difference (low_of sent) (low_of wants))
    (difference_fits (low_of sent) (low_of wants) f g))

pub fits_by : (sent wants : Objects) (ds : List (Delta LowKey LowValue))
    → map (moved_delta Low Object) ds ≡ difference (low_of sent) (low_of wants) → AllFit (low_of sent)
    → AllFit (low_of wants) → All ChangeFits (map (moved_delta Low Object) ds)
fits_by sent wants ds e f g =
    subst (λ (cs : List Change). All ChangeFits cs) (sym e)
    (All-from_recursion ChangeFits (difference (low_of sent) (low_of wants))
    (difference_fits (low_of sent) (low_of wants) f g))

-- ---- where what was sent is what is wanted but for one key
one_sorted : (k : LowKey) → IsStrictlySortedBy low_order (k ∷ [])
unfolding IsStrictlySortedBy
one_sorted k = (tt, tt)

pub told_key : (sent wants : Objects) (k : LowKey) (ds : List (Delta LowKey LowValue))
    (d : Option (Delta LowKey LowValue)) (w : Option LowValue) → ds ≡ cons_option d []
    → d ≡ change low_values.ghosts.eq k (get (map_of low_order sent) k) w → w ≡ get (map_of low_order wants) k
    → AgreeBut (k ∷ []) (map_of low_order sent) (map_of low_order wants)
    → map (moved_delta Low Object) ds ≡ difference (low_of sent) (low_of wants)
told_key sent wants k ds d w is one wanted agree =
    told_as sent wants ds
    (is
    ∙ ap (λ (o : Option (Delta LowKey LowValue)). cons_option o [])
    (one ∙ ap (change low_values.ghosts.eq k (get (map_of low_order sent) k)) wanted)
    ∙ told_by_keys low_values.ghosts.eq low_total low_exact objects (map_of low_order sent) (map_of low_order wants)
    (k ∷ []) (one_sorted k) agree)

pub sent_key : (sent sent' wants : Objects) (k : LowKey) (w : Option LowValue)
    → ((q : LowKey) → get (map_of low_order sent') q
    ≡ (if eq_by_cmp low_order q k then w else get (map_of low_order sent) q))
    → w ≡ get (map_of low_order wants) k → AgreeBut (k ∷ []) (map_of low_order sent) (map_of low_order wants)
    → map_of low_order sent' ≡ map_of low_order wants
sent_key sent sent' wants k w so wanted agree =
    set_from low_total low_exact (map_of low_order sent) (map_of low_order sent') k w so
    ∙ ap (set_key (map_of low_order sent) k) wanted
    ∙ set_by_keys low_values.ghosts.eq low_total low_exact objects (map_of low_order sent) (map_of low_order wants)
    (k ∷ []) agree
