-- What low-level objects compile to at an agent's address is what the configuration does.
use Rattle.std.specs.FinMap.{FinMap, entries, entries_sorted, from_entries, get}
use Rattle.std.specs.List.{AllPairs, filter, filter_map, flat_map}
use Rattle.std.specs.Ordering.{is_lt}
use Rattle.std.specs.Prelude.{Bool, IsTrue, List, T, cond, map, [], ◌∷◌, ◌≡◌}
use Rattle.std.specs.declared.cmp.Ordering.TheVariants.{Less}
use Rattle.std.specs.declared.cmp.Ordering.{Ordering}
use Rattle.std.specs.declared.option.Option.TheVariants.{Some}
use Rattle.std.proofs.Common.{ap, refl, subst, sym, ◌∙◌}
use Rattle.std.proofs.lemmas.List.Elements.{All-contains}
use Rattle.std.proofs.lemmas.Option.{same_Some}
use Rattle.ov_types.specs.Keys.{row_key_cmp}
use Rattle.ov_types.specs.Prefix.{Block}
use Rattle.ov_types.specs.declared.numbers.InstanceId.{InstanceId}
use Rattle.ov_types.specs.declared.objects.LowKey.TheVariants as key
use Rattle.ov_types.specs.declared.objects.LowKey.{LowKey}
use Rattle.ov_types.specs.declared.objects.LowValue.{LowValue}
use Rattle.ov_types.specs.declared.prefix.Addr.{Addr}
use Rattle.ov_types.specs.declared.rows.Entry.{Entry as RouteEntry}
use Rattle.ov_types.specs.declared.rows.TableRow.{TableRow}
use Rattle.ov_types.proofs.FirstLemmas.{pairs_head, pairs_tail}
use Rattle.config_types.specs.Form.{has_config_form}
use Rattle.machine_model.specs.Setup.{Setup}
use Rattle.schedule_script.specs.ConfigCheck.Sentences.{IsValid}
use Rattle.transform_model.specs.Compiled as compiled_rows
use Rattle.transform_model.specs.Compiled.{concerns, route_of, slice_of}
use Rattle.transform_model.specs.IsNeeded.{IsNeeded as IsNeededThere}
use Rattle.transform_model.specs.IsNeeded.{IsRoute}
use Rattle.transform_model.specs.IsRow.{IsRow}
use Rattle.transform_model.specs.Objects.{LowObject}
use Rattle.transform_model.specs.Objects.{low_objects}
use Rattle.transform_model.proofs.AgentRows.{routes_iff, routes_in_order}
use Rattle.transform_model.proofs.Needed.{needed_iff}
use Rattle.node_laws.specs.NodeModel.Agent.{acl_entry, attached, needed_by}
use Rattle.node_laws.specs.NodeModel.Maps.{Map, objects}
use Rattle.node_laws.specs.NodeModel.Members.{Member}
use Rattle.node_laws.specs.NodeModel.Wants.{is_in_slice, slice}
use Rattle.node_laws.proofs.NodeModel.Heard.{row_exact, row_total}
use Rattle.node_laws.proofs.NodeModel.Members.{entry_in, from_entry, from_flat_map, from_map, get_member, in_flat_map, in_map, member_get, contains_of, member_of}
use Rattle.node_laws.proofs.NodeModel.Orders.{prefix_exact, prefix_total}
use Rattle.machine_model.specs.Setup.{low as low_map}
use Rattle.machine_model.proofs.Feed.{objects-low}
use Rattle.machine_laws.specs.Compiled as compiled
use Rattle.machine_laws.specs.Compiled.{compiled_table, row_at, rows_in, table_rows}
use Rattle.machine_laws.proofs.OneRow.{has_one_row}
use Rattle.machine_laws.proofs.Sorted.{Rises, same_sorted, sorted_from}
use Rattle.machine_laws.proofs.CompiledShown.{entry_row}
use Rattle.machine_laws.proofs.Hosts.{entry}
use Rattle.machine_laws.proofs.Rows.{row_is}
use Rattle.machine_laws.proofs.RowsIn.{row_in}
use Rattle.machine_laws.proofs.Sound.{is_sound}

-- ---- what concerns an address
concerned : (feed : Map) (a : Addr) (k : LowKey) (w : LowValue) → is_in_slice feed a k w ≡ concerns (objects feed) a k w
concerned feed a (key.Attach label) w = refl
concerned feed a (key.Acl from to) w = refl
concerned feed a (key.Instance n) w = refl
concerned feed a (key.ChainUse u) w = refl

filters_same : (p q : LowObject → Bool) (os : List LowObject) → ((o : LowObject) → p o ≡ q o) → filter p os ≡ filter q os
filters_same p q [] h = refl
filters_same p q (o ∷ os) h = λ i. cond (h o i) (o ∷ filters_same p q os h i) (filters_same p q os h i)

pub slice_is : (x : Setup) (a : Addr) → slice (low_map x) a ≡ slice_of (low_objects x.topology x.config) a
slice_is x a =
    filters_same (λ o. is_in_slice (low_map x) a o.0 o.1) (λ o. concerns (objects (low_map x)) a o.0 o.1) (objects (low_map x)) (λ o. concerned (low_map x) a o.0 o.1)
    ∙ ap (λ (os : List LowObject). slice_of os a) (objects-low x)

-- ---- lists in order
pub pairs_rise : {V : Type 0} (es : List ((InstanceId × Block) × V)) → AllPairs (λ r s. row_key_cmp r.0 s.0 ≡ Less) es → Rises row_key_cmp es
pairs_rise [] h = tt
pairs_rise {V = V} (e ∷ es) h = (
  (λ f m. less_to (row_key_cmp e.0 f.0) (All-contains (λ (s : (InstanceId × Block) × V). row_key_cmp e.0 s.0 ≡ Less) es f (pairs_head (λ r s. row_key_cmp r.0 s.0 ≡ Less) e es h) (contains_of es f m))),
  pairs_rise es (pairs_tail (λ r s. row_key_cmp r.0 s.0 ≡ Less) e es h),
)
  where
    less_to : (o : Ordering) → o ≡ Less → T (is_lt o)
    less_to o e = subst (λ (o : Ordering). T (is_lt o)) (sym e) tt

abbrev compiled_map : Map → Addr → FinMap row_key_cmp RouteEntry
compiled_map feed a = from_entries {R = row_key_cmp} (map route_of (flat_map (rows_in feed) (needed_by (slice feed a))))

module _ (x : Setup) (form : IsTrue (has_config_form x.config)) (v : IsValid x.topology x.config) where
  abbrev feed : Map
  feed = low_map x

  -- the table of an instance, by rows
  pub table_is : (i : InstanceId) (p : Block) (r : TableRow) → get (compiled_table feed i) p ≡ Some r → IsRow x.topology x.config i (entry i p r)
  table_is i p r h = row_is x form v i p r (from_entry prefix_total prefix_exact p r (table_rows feed i) h)

  pub in_table : (i : InstanceId) (p : Block) (r : TableRow) → IsRow x.topology x.config i (entry i p r) → get (compiled_table feed i) p ≡ Some r
  in_table i p r h =
      let m = row_in x form v i (entry i p r) h in
      let f = entry_in prefix_total (row_at p r) (table_rows feed i) m in
      f.1 ∙ ap Some (has_one_row feed (is_sound x form v) i p f.0 r (from_entry prefix_total prefix_exact p f.0 (table_rows feed i) f.1) m)

  -- ---- an agent
  abbrev Route' : Type 0
  Route' = (InstanceId × Block) × RouteEntry

  abbrev needs : Addr → List InstanceId
  needs a = needed_by (slice feed a)

  abbrev routes_at : Addr → List Route'
  routes_at a = map route_of (flat_map (rows_in feed) (needs a))

  needed_is_needed : (a : Addr) (i : InstanceId) → Member i (needs a) → IsNeededThere x.topology x.config a i
  needed_is_needed a i m = (needed_iff x.topology x.config v form a i).0 (contains_of (needed_by (slice_of (low_objects x.topology x.config) a)) i (subst (λ (os : List LowObject). Member i (needed_by os)) (slice_is x a) m))

  is_needed_there : (a : Addr) (i : InstanceId) → IsNeededThere x.topology x.config a i → Member i (needs a)
  is_needed_there a i h = subst (λ (os : List LowObject). Member i (needed_by os)) (sym (slice_is x a)) (member_of (needed_by (slice_of (low_objects x.topology x.config) a)) i ((needed_iff x.topology x.config v form a i).1 h))

  record Listed (a : Addr) (e : Route') : Type 0 where
    pub instance : InstanceId
    pub prefix : Block
    pub row : TableRow
    pub needed : Member instance (needs a)
    pub at : get (compiled_table feed instance) prefix ≡ Some row
    pub is : route_of (entry instance prefix row) ≡ e

  listed : (a : Addr) (e : Route') → Member e (routes_at a) → Listed a e
  listed a e m =
      let q = from_map route_of e (flat_map (rows_in feed) (needs a)) m in
      let o = from_flat_map (rows_in feed) q.0 (needs a) q.1 in
      let w = from_map (entry_row o.0) q.0 (entries (compiled_table feed o.0)) o.2 in
      record { instance = o.0; prefix = w.0.0; row = w.0.1; needed = o.1; at = get_member prefix_total (compiled_table feed o.0) w.0.0 w.0.1 w.1; is = ap route_of w.2 ∙ q.2 }

  is_listed : (a : Addr) (i : InstanceId) (p : Block) (r : TableRow) → Member i (needs a) → get (compiled_table feed i) p ≡ Some r → Member (route_of (entry i p r)) (routes_at a)
  is_listed a i p r m h =
      in_map route_of (entry i p r) (flat_map (rows_in feed) (needs a))
      (in_flat_map (rows_in feed) i (entry i p r) (needs a) m
      (in_map (entry_row i) (p, r) (entries (compiled_table feed i)) (member_get prefix_total prefix_exact (compiled_table feed i) p r h)))

  route_there : (a : Addr) (e : Route') → Member e (entries (compiled_map feed a)) → Member e (compiled_rows.agent_rows x.topology x.config a).routes
  route_there a e m =
      let l = listed a e (from_entry row_total row_exact e.0 e.1 (routes_at a) (get_member row_total (compiled_map feed a) e.0 e.1 m)) in
      let route : IsRoute x.topology x.config a e = record {
        row = entry l.instance l.prefix l.row;
        needed = needed_is_needed a l.instance l.needed;
        stands = table_is l.instance l.prefix l.row l.at;
        key = ap (λ (q : Route'). q.0) (sym l.is);
        next_hop = ap (λ (q : Route'). q.1.next_hop) (sym l.is);
        label = ap (λ (q : Route'). q.1.label) (sym l.is);
      } in
      member_of (compiled_rows.agent_rows x.topology x.config a).routes e ((routes_iff x.topology x.config v form a e).1 route)

  route_back : (a : Addr) (e : Route') → Member e (compiled_rows.agent_rows x.topology x.config a).routes → Member e (entries (compiled_map feed a))
  route_back a e m =
      let q = (routes_iff x.topology x.config v form a e).0 (contains_of (compiled_rows.agent_rows x.topology x.config a).routes e m) in
      let i = q.row.0.0 in let p = q.row.0.1 in
      let held = in_table i p q.row.1 q.stands in
      let there : Member (route_of q.row) (routes_at a) = is_listed a i p q.row.1 (is_needed_there a i q.needed) held in
      let f = entry_in row_total (route_of q.row) (routes_at a) there in
      let l = listed a (q.row.0, f.0) (from_entry row_total row_exact q.row.0 f.0 (routes_at a) f.1) in
      let same_instance' : l.instance ≡ i = ap (λ (e : Route'). e.0.0) l.is in
      let same_prefix' : l.prefix ≡ p = ap (λ (e : Route'). e.0.1) l.is in
      let one : l.row ≡ q.row.1 = same_Some l.row q.row.1 (sym l.at ∙ (λ k. get (compiled_table feed (same_instance' k)) (same_prefix' k)) ∙ held) in
      let hop : f.0 ≡ e.1 = ap (λ (e : Route'). e.1) (sym l.is) ∙ (λ k. record { next_hop = (one k).next_hop; label = (one k).label }) ∙ (λ k. record { next_hop = sym q.next_hop k; label = sym q.label k }) in
      member_get row_total row_exact (compiled_map feed a) e.0 e.1 (ap (get (compiled_map feed a)) q.key ∙ f.1 ∙ ap Some hop)

  pub agent_is : (a : Addr) → compiled.agent_rows feed a ≡ compiled_rows.agent_rows x.topology x.config a
  unfolding compiled_rows.agent_rows
  agent_is a =
      let there = compiled_rows.agent_rows x.topology x.config a in
      let routes : entries (compiled_map feed a) ≡ there.routes =
      same_sorted row_total row_exact (entries (compiled_map feed a)) there.routes (entries_sorted (compiled_map feed a)) (sorted_from row_key_cmp there.routes (pairs_rise there.routes (routes_in_order x.topology x.config a))) (route_there a) (route_back a) in
      λ j. record { labels = filter_map (λ e. attached e.0 e.1) (slice_is x a j); acls = filter_map (λ e. acl_entry e.0 e.1) (slice_is x a j); routes = routes j }
