-- Of each key one route, as the entries of a map.
use Rattle.std.specs.Prelude.{◌≡◌, List, [], ◌∷◌, ◌++◌, map}
use Rattle.std.specs.declared.cmp.Ordering.{Ordering}
use Rattle.std.specs.Cmp.{IsTotalOrder}
use Rattle.std.specs.List.Sorted.{IsStrictlySortedBy}
use Rattle.std.specs.FinMap.{FinMap, entries, from_entries, insert, put, entries-insert}
use Rattle.std.proofs.Common.{refl, sym, ◌∙◌, ap, arith}
use Rattle.ov_sync.specs.Keyed.{map_of}
use Rattle.ov_sync.specs.Embed.{moved_entry}
use Rattle.ov_sync.proofs.Ascending.{entries-empty, entries-map_of, ascends}
use Rattle.ov_types.specs.declared.vpn.VpnKey.{VpnKey}
use Rattle.ov_types.specs.declared.vpn.VpnRoute.{VpnRoute}
use Rattle.vpn_tables.specs.NodeModel.Keys.{Key, Vpn, key_cmp}
use Rattle.vpn_tables.specs.NodeModel.Values as values
use Rattle.vpn_tables.specs.NodeModel.Values.{Value}
use Rattle.vpn_tables.specs.NodeModel.Paths.{Path}
use Rattle.vpn_tables.specs.NodeModel.Wants.{route_entry}
use Rattle.vpn_tables.proofs.NodeModel.Directions.{vpn_keeps, vpn_total}
use Rattle.vpn_tables.proofs.NodeModel.Orders.{key_total}
use Rattle.vpn_holdings.specs.declared.routes.Route.{Route}
use Rattle.vpn_tables.specs.Routes.{path_of}
use Rattle.vpn_tables.specs.Views.{vpn_order}
use Rattle.chain_reorigin.specs.Told.{told_path}
use Rattle.chain_reorigin.specs.Counting.{keyed, told_of, told_entry}

-- the last of the routes goes into the map
pub turn : (rs : List Route) (r : Route) (es fs : List (VpnKey × Route)) → map_of vpn_order fs ≡ insert (map_of vpn_order es) (keyed r).0 r
    → map_of vpn_order (map keyed rs ++ fs) ≡ map_of vpn_order (map keyed (rs ++ r ∷ []) ++ es)
turn [] r es fs e = e
turn (x ∷ rs) r es fs e = ap (λ (m : FinMap vpn_order Route). insert m (keyed x).0 x) (turn rs r es fs e)

module _ {K L V W : Type 0} {R : K → K → Ordering} {S : L → L → Ordering} (f : K → L) (g : V → W) (o : IsTotalOrder R) (p : IsTotalOrder S) (keeps : (x y : K) → S (f x) (f y) ≡ R x y) where
  put_moved : (k : K) (v : V) (es : List (K × V)) → put S (f k) (g v) (map (moved_entry f g) es) ≡ map (moved_entry f g) (put R k v es)
  put_moved k v [] = refl
  put_moved k v (e ∷ es) = rw (keeps k e.0) (grind (arith, put_moved k v es))

  pub entries_moved : (es : List (K × V)) → entries (from_entries {R = S} (map (moved_entry f g) es)) ≡ map (moved_entry f g) (entries (from_entries {R = R} es))
  entries_moved [] = entries-empty {V = W} S ∙ ap (map (moved_entry f g)) (sym (entries-empty {V = V} R))
  entries_moved (e ∷ es) =
      entries-insert p (from_entries (map (moved_entry f g) es)) (f e.0) (g e.1)
      ∙ ap (put S (f e.0) (g e.1)) (entries_moved es)
      ∙ put_moved e.0 e.1 (entries (from_entries {R = R} es))
      ∙ ap (map (moved_entry f g)) (sym (entries-insert o (from_entries es) e.0 e.1))

told_all : (rs : List Route) → map told_path (map path_of rs) ≡ map told_entry (map keyed rs)
told_all [] = refl
told_all (r ∷ rs) = ap (λ (l : List (VpnKey × VpnRoute)). told_path (path_of r) ∷ l) (told_all rs)

-- the routes that count, as they are told
pub told_is : (rs : List Route) (es : List (VpnKey × Route)) (ps : List Path) → IsStrictlySortedBy vpn_order (map (λ e. e.0) es)
    → map_of vpn_order es ≡ from_entries (map keyed rs) → map path_of rs ≡ ps
    → map told_entry es ≡ entries (from_entries {R = vpn_order} (map told_path ps))
told_is rs es ps sorted e led =
    ap (map told_entry) (sym (entries-map_of vpn_order vpn_total es (ascends vpn_order es sorted)) ∙ ap entries e)
    ∙ sym (entries_moved (λ (k : VpnKey). k) told_of vpn_total vpn_total (λ x y. refl) (map keyed rs))
    ∙ ap (λ (l : List (VpnKey × VpnRoute)). entries (from_entries {R = vpn_order} l)) (sym (told_all rs) ∙ ap (map told_path) led)

pub entries_all : (ps : List Path) → map (moved_entry Vpn values.Route) (map told_path ps) ≡ map route_entry ps
entries_all [] = refl
entries_all (p ∷ ps) = ap (λ (l : List (Key × Value)). route_entry p ∷ l) (entries_all ps)

-- they are those of the definitions of all sessions
pub of_all_sessions : (ps : List Path) → map (moved_entry Vpn values.Route) (entries (from_entries {R = vpn_order} (map told_path ps))) ≡ entries (from_entries {R = key_cmp} (map route_entry ps))
of_all_sessions ps =
    sym (entries_moved Vpn values.Route vpn_total key_total vpn_keeps (map told_path ps))
    ∙ ap (λ (l : List (Key × Value)). entries (from_entries {R = key_cmp} l)) (entries_all ps)
