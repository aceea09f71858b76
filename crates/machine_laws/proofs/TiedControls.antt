-- What a control node wants is tied where all that it holds is.
use Rattle.std.specs.FinMap.{entries}
use Rattle.std.specs.List.{enumerate_from, filter, filter_map, flat_map}
use Rattle.std.specs.Prelude.{List, map, suc, ℕ, [], ◌+◌, ◌++◌, ◌∷◌, ◌≡◌}
use Rattle.std.specs.declared.option.Option.TheVariants.{Some}
use Rattle.std.proofs.Common.{ap, inl, inr, subst, sym}
use Rattle.std.proofs.lemmas.Option.{same_Some}
use Rattle.ov_types.specs.Prefix.{Block}
use Rattle.ov_types.specs.declared.numbers.InstanceId.{InstanceId}
use Rattle.ov_types.specs.declared.objects.LowKey.{LowKey}
use Rattle.ov_types.specs.declared.objects.LowValue.{LowValue}
use Rattle.route_targets.specs.Numbers.{circuit_instance_of, target_of}
use Rattle.node_laws.specs.NodeModel.Keys.{Key, Low, Publish, Row, Subscribe, Vpn}
use Rattle.node_laws.specs.NodeModel.Maps.{Map, objects}
use Rattle.node_laws.specs.NodeModel.Members.{Member}
use Rattle.node_laws.specs.NodeModel.Paths.{Holdings, Path, Told, has_target, own_paths, peer_path, peer_paths, received}
use Rattle.node_laws.specs.NodeModel.Reaching.{circuit_at, hop_at, reoriginated_paths}
use Rattle.node_laws.specs.NodeModel.Tables.{IsLeast, paths_of, table}
use Rattle.node_laws.specs.NodeModel.Uses.{imports}
use Rattle.node_laws.specs.NodeModel.Values.{Entry, Label, Object, Route, Value}
use Rattle.node_laws.specs.NodeModel.Wants.{is_in_slice, route_entry, rows_of, slice, slice_entry, subscriptions, wanted_by_agent, wanted_by_peers}
use Rattle.node_laws.proofs.NodeModel.Members.{from_entry, from_filter, from_filter_map, from_flat_map, from_map, get_member, in_either, none_some}
use Rattle.node_laws.proofs.NodeModel.Orders.{key_exact, key_total, prefix_total}
use Rattle.node_laws.proofs.NodeModel.Routes.{own_route_from, reoriginated_from}
use Rattle.node_laws.proofs.NodeModel.Selection.{selected_least}
use Rattle.node_laws.proofs.NodeModel.Unknown.{target_from}
use Rattle.node_laws.proofs.NodeModel.Wanted.{row_of_path}
use Rattle.machine_laws.specs.Compiled.{circuit_prefix}
use Rattle.machine_laws.proofs.Numbers.{circuit_at-instance}
use Rattle.machine_laws.proofs.Told.{pair}
use Rattle.schedule_script.specs.Ties.{Ties}
use Rattle.machine_laws.specs.Tied.{AreTied, IsOwnLabel, IsRowLabel, IsTied}
use Rattle.machine_laws.proofs.Labels.{object_tied, own_leads, publishes_circuit}
use Rattle.machine_laws.proofs.TiedImports.{imports_lead}

enumerated : {X : Type 0} (n : ℕ) (x : ℕ × X) (xs : List X) → Member x (enumerate_from n xs) → Member x.1 xs
enumerated n x [] m = absurd m
enumerated n x (y ∷ xs) (inl e) = inl (ap (λ (x : ℕ × _). x.1) e)
enumerated n x (y ∷ xs) (inr m) = inr (enumerated (n + 1) x xs m)

module _ (t : Ties) (h : Holdings) (feed_tied : AreTied t h.asn h.feed) (peers_tied : (m : Map) → Member m h.peers → AreTied t h.asn m) (agents_tied : (a : Told) → Member a h.agents → AreTied t h.asn a.map) where
  abbrev TiedPath : Path → Type 0
  TiedPath p = (i : InstanceId) × (p.targets ≡ target_of h.asn i ∷ []) × IsOwnLabel t i p.label

  own_tied : (p : Path) → Member p (own_paths h) → TiedPath p
  own_tied p m =
      let o = own_route_from h p m in
      (o.instance, o.targets, agents_tied o.agent o.told (Publish o.instance p.prefix) (Label p.label) o.publishes)

  peer_path_tied : (n : ℕ) (k : Key) (v : Value) (p : Path) → peer_path n k v ≡ Some p → IsTied t h.asn k v → TiedPath p
  peer_path_tied n (Vpn k) (Route r) p e is = subst TiedPath (same_Some _ p e) is
  peer_path_tied n (Vpn k) (Object o) p e is = absurd (none_some p e)
  peer_path_tied n (Vpn k) (Entry r) p e is = absurd (none_some p e)
  peer_path_tied n (Vpn k) (Label l) p e is = absurd (none_some p e)
  peer_path_tied n (Low k) v p e is = absurd (none_some p e)
  peer_path_tied n (Row i x) v p e is = absurd (none_some p e)
  peer_path_tied n (Publish i x) v p e is = absurd (none_some p e)
  peer_path_tied n (Subscribe i) v p e is = absurd (none_some p e)

  peer_tied : (p : Path) → Member p (peer_paths h) → TiedPath p
  peer_tied p m =
      let q = from_flat_map (λ (p : ℕ × Map). filter_map (λ e. peer_path p.0 e.0 e.1) (entries p.1)) p (enumerate_from 1 h.peers) m in
      let e = from_filter_map (λ (e : Key × Value). peer_path q.0.0 e.0 e.1) p (entries q.0.1) q.2 in
      peer_path_tied q.0.0 e.0.0 e.0.1 p e.2 (peers_tied q.0.1 (enumerated 1 q.0 h.peers q.1) e.0.0 e.0.1 (get_member key_total q.0.1 e.0.0 e.0.1 e.1))

  reoriginated_tied : (p : Path) → Member p (reoriginated_paths h) → TiedPath p
  reoriginated_tied p m =
      let o = reoriginated_from h p m in
      let circuit = circuit_at o.side (suc o.depth) in
      let by = publishes_circuit h.agents circuit p.next_hop p.label o.published in
      let held : IsOwnLabel t (circuit_instance_of circuit) p.label = agents_tied by.0 by.1 (Publish (circuit_instance_of circuit) (circuit_prefix circuit)) (Label p.label) by.2 in
      (hop_at o.side (suc o.depth), o.targets, subst (λ n. IsOwnLabel t n p.label) (circuit_at-instance o.side (suc o.depth)) held)

  route_tied : (p : Path) → Member p (own_paths h ++ reoriginated_paths h) → TiedPath p
  route_tied p m = elim (in_either p (own_paths h) (reoriginated_paths h) m) as (λ _. TiedPath p) [ inl l ↦ own_tied p l | inr r ↦ reoriginated_tied p r ]

  pub to_peers : AreTied t h.asn (wanted_by_peers h)
  to_peers k v e =
      let q = from_map route_entry (pair k v) (own_paths h ++ reoriginated_paths h) (from_entry key_total key_exact k v (map route_entry (own_paths h ++ reoriginated_paths h)) e) in
      subst (λ (e : Key × Value). IsTied t h.asn e.0 e.1) q.2 (route_tied q.0 q.1)

  row_label : (i : InstanceId) (x : Block) (p : Path) → Member (x, p) (entries (table h i)) → IsRowLabel t i p.label
  row_label i x p m =
      let least : IsLeast x (paths_of h i) p = selected_least (paths_of h i) x p (get_member prefix_total (table h i) x p m) in
      elim (in_either p (received h i) (filter (has_target (target_of h.asn i ∷ [])) (reoriginated_paths h)) least.member) as (λ _. IsRowLabel t i p.label) [
        | inl l ↦
            let f = from_filter (has_target (map (target_of h.asn) (imports h.feed i))) p (own_paths h ++ peer_paths h) l in
            let r = elim (in_either p (own_paths h) (peer_paths h) f.0) as (λ _. TiedPath p) [ inl l ↦ own_tied p l | inr r ↦ peer_tied p r ] in
            imports_lead t h.asn h.feed feed_tied i r.0 p.label r.2 (target_from h.asn r.0 (imports h.feed i) p r.1 f.1)
        | inr l ↦
            let f = from_filter (has_target (target_of h.asn i ∷ [])) p (reoriginated_paths h) l in
            let r = reoriginated_tied p f.0 in
            elim (target_from h.asn r.0 (i ∷ []) p r.1 f.1) as (λ _. IsRowLabel t i p.label) [ inl is ↦ own_leads t i p.label (subst (λ n. IsOwnLabel t n p.label) (sym is) r.2) | inr n ↦ absurd n ]
      ]

  pub to_agent : (a : Told) → AreTied t h.asn (wanted_by_agent h a)
  to_agent a k v e =
      let rows = flat_map (rows_of h) (subscriptions a.map) in
      let mapped = map slice_entry (slice h.feed a.address) in
      elim (in_either (pair k v) mapped rows (from_entry key_total key_exact k v (mapped ++ rows) e)) as (λ _. IsTied t h.asn k v) [
        | inl l ↦
            let q = from_map slice_entry (pair k v) (slice h.feed a.address) l in
            let o = from_filter (λ (e : LowKey × LowValue). is_in_slice h.feed a.address e.0 e.1) q.0 (objects h.feed) q.1 in
            subst (λ (e : Key × Value). IsTied t h.asn e.0 e.1) q.2 (object_tied t h.asn h.feed q.0.0 q.0.1 feed_tied o.0)
        | inr l ↦
            let q = from_flat_map (rows_of h) (pair k v) (subscriptions a.map) l in
            let r = from_map (row_of_path q.0) (pair k v) (entries (table h q.0)) q.2 in
            subst (λ (e : Key × Value). IsTied t h.asn e.0 e.1) r.2 (row_label q.0 r.0.0 r.0.1 r.1)
      ]
