-- Low-level objects among the keys and values of all sessions.
use Rattle.std.specs.Prelude.{◌≡◌, List, [], ◌∷◌, cond, map}
use Rattle.std.specs.declared.option.Option.{Option}
use Rattle.std.specs.declared.option.Option.TheVariants.{Some, None}
use Rattle.std.specs.FinMap.{FinMap, empty, from_entries, get, get-insert, get-remove, insert}
use Rattle.std.specs.Option.{option_map}
use Rattle.std.specs.Ordering.{eq_by_cmp}
use Rattle.std.proofs.Common.{refl, sym, ◌∙◌, ap}
use Rattle.ov_sync.specs.declared.Delta.{Delta}
use Rattle.ov_sync.specs.declared.Delta.TheVariants.{Put, Drop}
use Rattle.ov_sync.specs.Keyed as keyed
use Rattle.ov_sync.specs.Keyed.{map_of, set_key}
use Rattle.ov_sync.specs.Embed.{embedded, moved_delta, moved_entry}
use Rattle.ov_sync.proofs.Ascending.{entries-empty}
use Rattle.ov_sync.proofs.EmbedLaws.{changed-embedded, difference-embedded}
use Rattle.ov_types.specs.contracts.objects.LowValuePartialEq.TheImpl as low_values
use Rattle.ov_types.specs.declared.objects.LowKey.{LowKey}
use Rattle.ov_types.specs.declared.objects.LowValue.{LowValue}
use Rattle.node_core.specs.NodeModel.Keys.{Low, key_cmp}
use Rattle.node_core.specs.NodeModel.Maps.{Map, difference}
use Rattle.node_core.specs.NodeModel.Values.{Object, same_value}
use Rattle.node_core.proofs.NodeModel.Directions.{low_keeps, low_total, low_exact}
use Rattle.node_core.proofs.NodeModel.Orders.{key_exact, key_total}
use Rattle.config_node.specs.Ends.{Objects, low_of, low_order}

pub low-empty : low_of [] ≡ empty
low-empty =
    ap (λ (es : Objects). from_entries {R = key_cmp} (map (moved_entry Low Object) es))
    (entries-empty {V = LowValue} low_order)

-- the changes between two maps of objects
abbrev pub low_changes : Objects → Objects → List (Delta LowKey LowValue)
low_changes sent wanted =
    keyed.difference low_values.ghosts.eq (map_of low_order sent) (map_of low_order wanted)

pub low_differ : (sent wanted : Objects)
    → difference (low_of sent) (low_of wanted) ≡ map (moved_delta Low Object) (low_changes sent wanted)
low_differ sent wanted =
    difference-embedded Low Object low_total key_total low_keeps low_values.ghosts.eq same_value (λ v w. refl) low_exact
    (map_of low_order sent) (map_of low_order wanted)

-- objects that are put one after the other, among all keys and values
put : (m : FinMap low_order LowValue) (k : LowKey) (v : LowValue)
    → embedded {S = key_cmp} Low Object (insert m k v) ≡ insert (embedded {S = key_cmp} Low Object m) (Low k) (Object v)
put m k v =
    sym (changed-embedded Low Object low_total key_total low_keeps low_exact key_exact m (Put k v))

pub low-entries : (es : Objects) → low_of es ≡ from_entries (map (moved_entry Low Object) es)
low-entries [] = low-empty
low-entries (e ∷ es) =
    put (map_of low_order es) e.0 e.1 ∙ ap (λ (m : Map). insert m (Low e.0) (Object e.1)) (low-entries es)

-- ---- one key set
pub low-set : (m : FinMap low_order LowValue) (k : LowKey) (w : Option LowValue)
    → embedded {S = key_cmp} Low Object (set_key m k w)
    ≡ set_key (embedded {S = key_cmp} Low Object m) (Low k) (option_map Object w)
low-set m k (Some v) = put m k v
low-set m k None = sym (changed-embedded Low Object low_total key_total low_keeps low_exact key_exact m (Drop k))

pub got_set : (m : FinMap low_order LowValue) (k : LowKey) (w : Option LowValue) (q : LowKey)
    → get (set_key m k w) q ≡ cond (eq_by_cmp low_order q k) w (get m q)
got_set m k None q = get-remove low_total m k q
got_set m k (Some v) q = get-insert low_total m k v q
