-- What is wanted, from the typed entries.
use Rattle.std.specs.Prelude.{◌≡◌, List, [], ◌∷◌, ◌++◌, map}
use Rattle.std.specs.List.{flat_map}
use Rattle.std.specs.FinMap.{FinMap, entries, from_entries}
use Rattle.std.proofs.Common.{refl, sym, ◌∙◌, ap}
use Rattle.std.proofs.lemmas.List.{map-append}
use Rattle.ov_sync.specs.Embed.{embedded, moved_entry}
use Rattle.ov_sync.specs.Keyed.{map_of}
use Rattle.ov_types.specs.Prefix.{Block}
use Rattle.ov_types.specs.declared.keys.DownKey.{DownKey}
use Rattle.ov_types.specs.declared.keys.DownValue.{DownValue}
use Rattle.ov_types.specs.declared.numbers.InstanceId.{InstanceId}
use Rattle.ov_types.specs.declared.objects.LowKey.{LowKey}
use Rattle.ov_types.specs.declared.objects.LowValue.{LowValue}
use Rattle.ov_types.specs.declared.prefix.Addr.{Addr}
use Rattle.ov_types.specs.declared.rows.TableRow.{TableRow}
use Rattle.ov_types.specs.declared.vpn.VpnKey.{VpnKey}
use Rattle.ov_types.specs.declared.vpn.VpnRoute.{VpnRoute}
use Rattle.node_core.specs.Told.{down_of, down_order, down_value}
use Rattle.node_routes.specs.NodeModel.Keys.{Key, Row, Vpn, key_cmp, of_down}
use Rattle.node_routes.specs.NodeModel.Values.{Value, Entry, Route}
use Rattle.node_routes.specs.NodeModel.Paths.{Holdings, Path, Told, own_paths}
use Rattle.node_routes.specs.NodeModel.Reaching.{reoriginated_paths}
use Rattle.node_routes.specs.NodeModel.Tables.{table, table_row}
use Rattle.node_routes.specs.NodeModel.Wants.{route_entry, rows_of, slice, slice_entry, subscriptions, wanted_by_agent, wanted_by_peers}
use Rattle.node_routes.proofs.NodeModel.Directions.{down_keeps, down_total, vpn_total, vpn_keeps}
use Rattle.node_routes.proofs.NodeModel.Orders.{key_total}
use Rattle.vpn_tables.specs.Views.{peer_of, vpn_order}
use Rattle.chain_reorigin.specs.Told.{told_path}
use Rattle.chain_reorigin.proofs.Telling.{entries_all}
use Rattle.control_wants.specs.Entries.{shown_row, shown_rows, told_object, told_row, told_rows}
use Rattle.control_wants.proofs.Counting.{embedded_first, put_again}

-- ---- towards peers
pub peers_wanted : (h : Holdings) (es own led : List (VpnKey × VpnRoute)) → map_of vpn_order es ≡ from_entries (own ++ led) → own ≡ map told_path (own_paths h)
    → map (moved_entry Vpn Route) led ≡ entries (from_entries {R = key_cmp} (map route_entry (reoriginated_paths h)))
    → peer_of es ≡ wanted_by_peers h
peers_wanted h es own led first own_is led_is =
    ap (λ (m : FinMap vpn_order VpnRoute). embedded {S = key_cmp} Vpn Route m) first
    ∙ embedded_first Vpn Route vpn_total key_total vpn_keeps (own ++ led)
    ∙ ap (λ (l : List (Key × Value)). from_entries {R = key_cmp} l) (map-append (moved_entry Vpn Route) own led)
    ∙ (λ i. from_entries {R = key_cmp} ((ap (map (moved_entry Vpn Route)) own_is ∙ entries_all (own_paths h)) i ++ led_is i))
    ∙ put_again key_cmp key_total (map route_entry (own_paths h)) (map route_entry (reoriginated_paths h))
    ∙ ap (λ (l : List (Key × Value)). from_entries {R = key_cmp} l) (sym (map-append route_entry (own_paths h) (reoriginated_paths h)))

-- ---- towards an agent
objects_moved : (es : List (LowKey × LowValue)) → map (moved_entry of_down down_value) (map told_object es) ≡ map slice_entry es
objects_moved [] = refl
objects_moved (e ∷ es) = ap (λ (l : List (Key × Value)). slice_entry e ∷ l) (objects_moved es)

abbrev row_entry : InstanceId → Block × Path → Key × Value
row_entry i e = (Row i e.0, Entry (record { next_hop = e.1.next_hop; label = e.1.label }))

rows_moved : (h : Holdings) (is : List InstanceId) → map (moved_entry of_down down_value) (flat_map (told_rows h) is) ≡ flat_map (rows_of h) is
rows_moved h [] = refl
rows_moved h (i ∷ is) =
    map-append (moved_entry of_down down_value) (told_rows h i) (flat_map (told_rows h) is)
    ∙ (λ j. each (entries (table h i)) j ++ rows_moved h is j)
  where
    each : (es : List (Block × Path)) → map (moved_entry of_down down_value) (map (told_row i) (map (λ e. (e.0, table_row e.1)) es)) ≡ map (row_entry i) es
    each [] = refl
    each (e ∷ es) = ap (λ (l : List (Key × Value)). row_entry i e ∷ l) (each es)

pub agent_wanted : (h : Holdings) (a : Told) (es told : List (DownKey × DownValue)) (objects : List (LowKey × LowValue)) (address : Addr) (instances : List InstanceId)
    → map_of down_order es ≡ from_entries told → told ≡ map told_object objects ++ flat_map (told_rows h) instances
    → objects ≡ slice h.feed address → address ≡ a.address → instances ≡ subscriptions a.map
    → down_of es ≡ wanted_by_agent h a
agent_wanted h a es told objects address instances first told_is objects_are address_is instances_are =
    ap (λ (m : FinMap down_order DownValue). embedded {S = key_cmp} of_down down_value m) first
    ∙ embedded_first of_down down_value down_total key_total down_keeps told
    ∙ ap (λ (l : List (DownKey × DownValue)). from_entries {R = key_cmp} (map (moved_entry of_down down_value) l)) told_is
    ∙ ap (λ (l : List (Key × Value)). from_entries {R = key_cmp} l)
    (map-append (moved_entry of_down down_value) (map told_object objects) (flat_map (told_rows h) instances)
    ∙ (λ i. objects_moved objects i ++ rows_moved h instances i)
    ∙ (λ i. map slice_entry ((objects_are ∙ ap (slice h.feed) address_is) i) ++ flat_map (rows_of h) (instances_are i)))

-- ---- what is shown
pub rows_shown : (h : Holdings) (is : List InstanceId) → flat_map (shown_rows h) is ≡ flat_map (λ i. map (λ e. ((i, e.0), table_row e.1)) (entries (table h i))) is
rows_shown h [] = refl
rows_shown h (i ∷ is) = λ j. each (entries (table h i)) j ++ rows_shown h is j
  where
    each : (es : List (Block × Path)) → map (shown_row i) (map (λ e. (e.0, table_row e.1)) es) ≡ map (λ e. ((i, e.0), table_row e.1)) es
    each [] = refl
    each (e ∷ es) = ap (λ (l : List ((InstanceId × Block) × TableRow)). ((i, e.0), table_row e.1) ∷ l) (each es)
