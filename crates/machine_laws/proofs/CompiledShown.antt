-- What is shown of the compiled holdings is compiled.
use Rattle.std.specs.FinMap.{FinMap, entries, entries_sorted, from_entries, get, is_sorted}
use Rattle.std.specs.List.{filter_map, flat_map}
use Rattle.std.specs.Option.{option_map}
use Rattle.std.specs.Ordering.{is_lt}
use Rattle.std.specs.Prelude.{List, T, map, true, ℕ, [], ◌++◌, ◌==◌, ◌∷◌, ◌≡◌}
use Rattle.std.specs.declared.option.Option.TheVariants.{None, Some}
use Rattle.std.specs.declared.option.Option.{Option}
use Rattle.std.proofs.Common.{ap, refl, subst, sym, ◌∙◌}
use Rattle.std.proofs.lemmas.Option.{same_Some}
use Rattle.ov_types.specs.Keys.{row_key_cmp}
use Rattle.ov_types.specs.Prefix.{Block, block_cmp}
use Rattle.ov_types.specs.declared.numbers.InstanceId.{InstanceId}
use Rattle.ov_types.specs.declared.objects.LowKey.{LowKey}
use Rattle.ov_types.specs.declared.objects.LowValue.{LowValue}
use Rattle.ov_types.specs.declared.prefix.Addr.{Addr}
use Rattle.ov_types.specs.declared.rows.Entry.{Entry as RouteEntry}
use Rattle.ov_types.specs.declared.rows.TableRow.{TableRow}
use Rattle.transform_model.specs.Compiled.{route_of}
use Rattle.transform_model.specs.Tables.{Row as TableEntry}
use Rattle.node_laws.specs.NodeModel.Agent as agent
use Rattle.node_laws.specs.NodeModel.Agent.{acl_entry, as_hop, attached, is_needed, needed_by, slice_in_use}
use Rattle.node_laws.specs.NodeModel.Keys.{Row}
use Rattle.node_laws.specs.NodeModel.Maps.{Map}
use Rattle.node_laws.specs.NodeModel.Members.{Member}
use Rattle.node_laws.specs.NodeModel.Paths.{Holdings, Path}
use Rattle.node_laws.specs.NodeModel.Tables.{known_instances, table, table_row}
use Rattle.node_laws.specs.NodeModel.Tables.{rows as control_rows_of}
use Rattle.node_laws.specs.NodeModel.Uses.{hop}
use Rattle.node_laws.specs.NodeModel.Values.{Entry}
use Rattle.node_laws.specs.NodeModel.Wants.{slice}
use Rattle.node_laws.proofs.NodeModel.Heard.{first_rows, route_is, row_exact, row_total}
use Rattle.node_laws.proofs.NodeModel.Members.{any_in, entry_in, from_any, from_entry, from_flat_map, from_map, get_member, in_flat_map, in_map, member_get, none_some}
use Rattle.node_laws.proofs.NodeModel.Orders.{prefix_exact, prefix_total}
use Rattle.machine_laws.specs.Compiled.{Agents, agent_rows, compiled_holdings, compiled_table, control_rows, row_at, rows_in, told_to_agent}
use Rattle.machine_laws.specs.Sound.{IsServed, IsSound}
use Rattle.machine_laws.proofs.AgentMaps.{hop_of, rows-told_to_agent}
use Rattle.machine_laws.proofs.Numbers.{instance_is, instance_same}
use Rattle.machine_laws.proofs.OneRow.{has_one_row}
use Rattle.machine_laws.proofs.Sorted.{Rises, rises_filter, rises_from, same_sorted, sorted_from}
use Rattle.machine_laws.proofs.TableRows.{table_is_compiled}
use Rattle.machine_laws.proofs.Tables.{row_of_table}

abbrev row_of_hop : InstanceId → Block → RouteEntry → (InstanceId × Block) × RouteEntry
row_of_hop i p hop = ((i, p), hop)

abbrev pub entry_row : InstanceId → Block × TableRow → TableEntry
entry_row i e = ((i, e.0), e.1)

-- ---- a control node
module _ (asn : ℕ) (feed : Map) (agents : Agents) (peers : List Agents) (sound : IsSound feed) (served : IsServed feed agents peers) where
  abbrev now : Holdings
  now = compiled_holdings asn feed agents peers

  abbrev path_entry : Block × Path → Block × TableRow
  path_entry e = (e.0, table_row e.1)

  entries_are : (i : InstanceId) → map path_entry (entries (table now i)) ≡ entries (compiled_table feed i)
  entries_are i =
      same_sorted prefix_total prefix_exact (map path_entry (entries (table now i))) (entries (compiled_table feed i)) (mapped_sorted (entries (table now i)) (entries_sorted (table now i))) (entries_sorted (compiled_table feed i))
      (λ e m.
      let q = from_map path_entry e (entries (table now i)) m in
      let h : get (compiled_table feed i) q.0.0 ≡ Some (table_row q.0.1) = sym (is i q.0.0) ∙ ap (option_map table_row) (get_member prefix_total (table now i) q.0.0 q.0.1 q.1) in
      subst (λ (e : Block × TableRow). Member e (entries (compiled_table feed i))) q.2 (member_get prefix_total prefix_exact (compiled_table feed i) q.0.0 (table_row q.0.1) h))
      (λ e m.
      let p = row_of_table (get (table now i) e.0) e.1 (is i e.0 ∙ get_member prefix_total (compiled_table feed i) e.0 e.1 m) in
      subst (λ (r : TableRow). Member (row_at e.0 r) (map path_entry (entries (table now i)))) p.2
      (in_map path_entry (at_path e.0 p.0) (entries (table now i)) (member_get prefix_total prefix_exact (table now i) e.0 p.0 p.1)))
    where
      at_path : Block → Path → Block × Path
      at_path prefix p = (prefix, p)

      is : (i : InstanceId) (x : Block) → option_map table_row (get (table now i) x) ≡ get (compiled_table feed i) x
      is i x = table_is_compiled asn feed agents peers sound served i (has_one_row feed sound i) x

      mapped_rises : (es : List (Block × Path)) → Rises block_cmp es → Rises block_cmp (map path_entry es)
      mapped_rises [] r = tt
      mapped_rises (e ∷ es) r = (
        (λ f m. let q = from_map path_entry f es m in subst (λ (f : Block × TableRow). T (is_lt (block_cmp e.0 f.0))) q.2 (r.0 q.0 q.1)),
        mapped_rises es r.1,
      )

      mapped_sorted : (es : List (Block × Path)) → T (is_sorted block_cmp es) → T (is_sorted block_cmp (map path_entry es))
      mapped_sorted es s = sorted_from block_cmp (map path_entry es) (mapped_rises es (rises_from prefix_total es s))

  twice : {X Y Z : Type 0} (f : Y → Z) (g : X → Y) (xs : List X) → map (λ x. f (g x)) xs ≡ map f (map g xs)
  twice f g [] = refl
  twice f g (x ∷ xs) = λ i. f (g x) ∷ twice f g xs i

  flat_map_same : (f g : InstanceId → List TableEntry) (is : List InstanceId) → ((i : InstanceId) → f i ≡ g i) → flat_map f is ≡ flat_map g is
  flat_map_same f g [] h = refl
  flat_map_same f g (i ∷ is) h = λ j. h i j ++ flat_map_same f g is h j

  pub rows_compiled : control_rows_of now ≡ control_rows feed
  rows_compiled = flat_map_same (λ i. map (λ e. ((i, e.0), table_row e.1)) (entries (table now i))) (rows_in feed) (known_instances feed)
      (λ i. twice (entry_row i) path_entry (entries (table now i)) ∙ ap (map (entry_row i)) (entries_are i))

-- ---- an agent
abbrev needs : Map → Addr → List InstanceId
needs feed address = needed_by (slice feed address)

abbrev routes_of : Map → Addr → List ((InstanceId × Block) × RouteEntry)
routes_of feed address = map route_of (flat_map (rows_in feed) (needs feed address))

route_parts : (feed : Map) (address : Addr) (i : InstanceId) (p : Block) (hop : RouteEntry) → Member (row_of_hop i p hop) (routes_of feed address) → (r : TableRow) × Member i (needs feed address) × (get (compiled_table feed i) p ≡ Some r) × (hop_of r ≡ hop)
route_parts feed address i p hop m =
    let q = from_map route_of (row_of_hop i p hop) (flat_map (rows_in feed) (needs feed address)) m in
    let o = from_flat_map (rows_in feed) q.0 (needs feed address) q.1 in
    let e = from_map (entry_row o.0) q.0 (entries (compiled_table feed o.0)) o.2 in
    let whole : route_of (entry_row o.0 e.0) ≡ row_of_hop i p hop = ap route_of e.2 ∙ q.2 in
    let at : o.0 ≡ i = ap (λ (x : (InstanceId × Block) × RouteEntry). x.0.0) whole in
    let prefix : e.0.0 ≡ p = ap (λ (x : (InstanceId × Block) × RouteEntry). x.0.1) whole in (
      e.0.1,
      subst (λ (i : InstanceId). Member i (needs feed address)) at o.1,
      (λ k. get (compiled_table feed (sym at k)) (sym prefix k)) ∙ get_member prefix_total (compiled_table feed o.0) e.0.0 e.0.1 e.1,
      ap (λ (x : (InstanceId × Block) × RouteEntry). x.1) whole,
    )

in_routes : (feed : Map) (address : Addr) (i : InstanceId) (p : Block) (r : TableRow) → Member i (needs feed address) → get (compiled_table feed i) p ≡ Some r → Member (row_of_hop i p (hop_of r)) (routes_of feed address)
in_routes feed address i p r m h =
    in_map route_of (entry_row i (p, r)) (flat_map (rows_in feed) (needs feed address))
    (in_flat_map (rows_in feed) i (entry_row i (p, r)) (needs feed address) m
    (in_map (entry_row i) (p, r) (entries (compiled_table feed i)) (member_get prefix_total prefix_exact (compiled_table feed i) p r h)))

same_number : (i j : InstanceId) → (i.0 == j.0) ≡ true → i ≡ j
same_number i j e = instance_is i j e

module _ (feed : Map) (address : Addr) (held : agent.Holdings) (slice_is : slice_in_use held ≡ slice feed address) where
  abbrev told_hop : InstanceId → Block → Option RouteEntry
  told_hop i p = as_hop (get (told_to_agent feed address) (Row i p))

  abbrev compiled_routes_map : FinMap row_key_cmp RouteEntry
  compiled_routes_map = from_entries {R = row_key_cmp} (routes_of feed address)

  needed_from : (i : InstanceId) → is_needed held i ≡ true → Member i (needs feed address)
  needed_from i e =
      let q = from_any (λ (n : InstanceId). n.0 == i.0) (needed_by (slice_in_use held)) e in
      subst (λ (es : List (LowKey × LowValue)). Member i (needed_by es)) slice_is (subst (λ (n : InstanceId). Member n (needed_by (slice_in_use held))) (same_number q.0 i q.2) q.1)

  needed_to : (i : InstanceId) → Member i (needs feed address) → is_needed held i ≡ true
  needed_to i m =
      any_in (λ (n : InstanceId). n.0 == i.0) i (needed_by (slice_in_use held)) (subst (λ (es : List (LowKey × LowValue)). Member i (needed_by es)) (sym slice_is) m) (instance_same i i refl)

  some_hop : (o : Option TableRow) (hop : RouteEntry) → as_hop (option_map (λ r. Entry (hop_of r)) o) ≡ Some hop → (r : TableRow) × (o ≡ Some r) × (hop_of r ≡ hop)
  some_hop None hop e = absurd (none_some hop e)
  some_hop (Some r) hop e = (r, refl, same_Some (hop_of r) hop e)

  module _ (routes_are : (i : InstanceId) (p : Block) → agent.route_from held i p ≡ told_hop i p) where
    into : (e : (InstanceId × Block) × RouteEntry) → Member e (agent.routes held) → Member e (entries compiled_routes_map)
    into e m =
        let i = e.0.0 in let p = e.0.1 in
        let is = (route_is held i p e.1).0 m in
        let needed = needed_from i is.0 in
        let r = some_hop (get (compiled_table feed i) p) e.1 (ap as_hop (sym (rows-told_to_agent feed address i p needed)) ∙ sym (routes_are i p) ∙ is.1) in
        let f = entry_in row_total (row_of_hop i p (hop_of r.0)) (routes_of feed address) (in_routes feed address i p r.0 needed r.1) in
        let back = route_parts feed address i p f.0 (from_entry row_total row_exact e.0 f.0 (routes_of feed address) f.1) in
        let one : back.0 ≡ r.0 = same_Some back.0 r.0 (sym back.2 ∙ r.1) in
        member_get row_total row_exact compiled_routes_map e.0 e.1 (f.1 ∙ ap Some (sym back.3 ∙ ap hop_of one ∙ r.2))

    back : (e : (InstanceId × Block) × RouteEntry) → Member e (entries compiled_routes_map) → Member e (agent.routes held)
    back e m =
        let i = e.0.0 in let p = e.0.1 in
        let r = route_parts feed address i p e.1 (from_entry row_total row_exact e.0 e.1 (routes_of feed address) (get_member row_total compiled_routes_map e.0 e.1 m)) in
        (route_is held i p e.1).1 (
          needed_to i r.1,
          routes_are i p ∙ ap as_hop (rows-told_to_agent feed address i p r.1 ∙ ap (option_map (λ r. Entry (hop_of r))) r.2) ∙ ap Some r.3,
        )

    routes_sorted : T (is_sorted row_key_cmp (agent.routes held))
    routes_sorted =
        sorted_from row_key_cmp (agent.routes held)
        (rises_filter row_key_cmp (λ (r : (InstanceId × Block) × RouteEntry). is_needed held r.0.0) (entries (first_rows held)) (rises_from row_total (entries (first_rows held)) (entries_sorted (first_rows held))))

    pub agent_compiled : agent.rows held ≡ agent_rows feed address
    agent_compiled =
        let routes : agent.routes held ≡ entries compiled_routes_map = same_sorted row_total row_exact (agent.routes held) (entries compiled_routes_map) routes_sorted (entries_sorted compiled_routes_map) into back in
        λ j. record { labels = filter_map (λ e. attached e.0 e.1) (slice_is j); acls = filter_map (λ e. acl_entry e.0 e.1) (slice_is j); routes = routes j }
