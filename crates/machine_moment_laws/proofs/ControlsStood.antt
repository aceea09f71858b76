-- What a control node wants is of configurations so far where all that it holds is.
use Rattle.std.specs.FinMap.{entries}
use Rattle.std.specs.List.{Contains, enumerate_from, filter, filter_map, flat_map}
use Rattle.std.specs.Prelude.{List, Bool, cond, false, true, map, suc, ℕ, [], ◌*◌, ◌+◌, ◌++◌, ◌-◌, ◌^◌, ◌<◌, ◌∷◌, ◌≡◌}
use Rattle.std.specs.declared.option.Option.TheVariants.{Some}
use Rattle.std.proofs.Common.{ap, arith, inl, inr, subst, sym, ◌∙◌}
use Rattle.std.proofs.lemmas.Bool.{true≢false}
use Rattle.std.proofs.lemmas.List.Sorted.{Contains-permutation, IsPermutation-sym}
use Rattle.std.proofs.lemmas.Option.{same_Some}
use Rattle.ov_types.specs.Prefix.{Block}
use Rattle.ov_types.specs.declared.numbers.InstanceId.{InstanceId}
use Rattle.ov_types.specs.declared.numbers.Label.{Label as LabelNo}
use Rattle.ov_types.specs.declared.objects.LowKey.TheVariants as key
use Rattle.ov_types.specs.declared.objects.LowKey.{LowKey}
use Rattle.ov_types.specs.declared.objects.LowValue.TheVariants as low
use Rattle.ov_types.specs.declared.objects.LowValue.{LowValue}
use Rattle.route_targets.specs.Numbers.{circuit_instance_of, circuit_label_of, hop_instance_of, left_circuit_of, right_circuit_of, target_of}
use Rattle.config_types.specs.declared.config.Config.{Config}
use Rattle.transform_model.specs.AclCompile.Oriented.{ascending}
use Rattle.transform_model.proofs.AclCompile.Orders.{ascending_permutes}
use Rattle.node_laws.specs.NodeModel.Keys.{Key, Low, Publish, Row, Subscribe, Vpn}
use Rattle.node_laws.specs.NodeModel.Maps.{Map, objects}
use Rattle.node_laws.specs.NodeModel.Members.{Member}
use Rattle.node_laws.specs.NodeModel.Paths.{Holdings, Path, Told, has_target, own_paths, peer_path, peer_paths, received}
use Rattle.node_laws.specs.NodeModel.Reaching.{Side, circuit_at, hop_at, reoriginated_paths}
use Rattle.node_laws.specs.NodeModel.Tables.{IsLeast, paths_of, table}
use Rattle.node_laws.specs.NodeModel.Uses.{Use, as_use, imports, is_hop}
use Rattle.node_laws.specs.NodeModel.Values.{Entry, Label, Object, Route, Value}
use Rattle.node_laws.specs.NodeModel.Wants.{is_in_slice, route_entry, rows_of, slice, slice_entry, subscriptions, wanted_by_agent, wanted_by_peers}
use Rattle.node_laws.proofs.NodeModel.Members.{contains_of, from_entry, from_filter, from_filter_map, from_flat_map, from_map, get_member, in_either, none_some}
use Rattle.node_laws.proofs.NodeModel.Objects.{is_hop-hop, object_of, side_use}
use Rattle.node_laws.proofs.NodeModel.Orders.{key_exact, key_total, prefix_total}
use Rattle.node_laws.proofs.NodeModel.Routes.{own_route_from, reoriginated_from}
use Rattle.node_laws.proofs.NodeModel.Selection.{selected_least}
use Rattle.node_laws.proofs.NodeModel.Unknown.{target_from}
use Rattle.node_laws.proofs.NodeModel.Wanted.{row_of_path}
use Rattle.schedule_script.specs.Ties.{Ties}
use Rattle.machine_laws.specs.Compiled.{circuit_prefix}
use Rattle.machine_laws.proofs.Labels.{publishes_circuit}
use Rattle.machine_laws.proofs.Numbers.{circuit_at-instance}
use Rattle.machine_laws.proofs.Told.{pair}
use Rattle.machine_moment_laws.proofs.ImportsStood.{imports_lead}
use Rattle.machine_moment_laws.proofs.LowStood.{network_is_no_hop}
use Rattle.machine_moment_laws.proofs.SoFar.{AllStood, EntryStood, IsHostOf, IsOwn, IsRowOf, IsUseOf, ObjectStood}
use Rattle.machine_moment_laws.proofs.SoFar.IsOwn.{attached, leftwards, rightwards}
use Rattle.machine_moment_laws.proofs.SoFar.IsRowOf.{own}

enumerated : {X : Type 0} (n : ℕ) (x : ℕ × X) (xs : List X) → Member x (enumerate_from n xs) → Member x.1 xs
enumerated n x [] m = absurd m
enumerated n x (y ∷ xs) (inl e) = inl (ap (λ (x : ℕ × _). x.1) e)
enumerated n x (y ∷ xs) (inr m) = inr (enumerated (n + 1) x xs m)

same_address : (c d : ℕ) → circuit_prefix c ≡ circuit_prefix d → c ≡ d
same_address c d e = number c d (ap (λ (p : Block). p.addr) e)
  where
    number : (m n : ℕ) → 250 * 2 ^ 24 + m ≡ 250 * 2 ^ 24 + n → m ≡ n
    number m n e = omega (arith, e)

module _ (t : Ties) (cs : List Config) where
  pub object_stood : (asn : ℕ) (m : Map) (k : LowKey) (v : LowValue) → AllStood t cs asn m → Member (k, v) (objects m) → ObjectStood t cs k v
  object_stood asn m k v f h = f (Low k) (Object v) (object_of m k v h)

  -- a circuit is published under its own label
  circuit_label : (circuit : ℕ) (label : LabelNo) → is_hop (circuit_instance_of circuit) ≡ true → IsHostOf t cs (circuit_instance_of circuit) (circuit_prefix circuit) label → label ≡ circuit_label_of circuit
  circuit_label circuit label is (inl p) = absurd (true≢false (sym is ∙ (ap is_hop (sym p.number) ∙ network_is_no_hop p.config p.home p.so_far.form p.has_home)))
  circuit_label circuit label is (inr c) = c.label_is ∙ ap circuit_label_of (sym (same_address circuit c.circuit c.prefix_is))

  -- ---- held uses
  abbrev UseStood : Use → Type 0
  UseStood u = IsUseOf t cs u.number u.left u.right u.left_subnets u.right_subnets u.services

  use_stood : (k : LowKey) (v : LowValue) (u : Use) → ObjectStood t cs k v → as_use k v ≡ Some u → UseStood u
  use_stood (key.ChainUse n) (low.ChainUse a b ls rs hops) u h e = subst UseStood (same_Some _ u e) h
  use_stood (key.ChainUse n) (low.Instance ms) u h e = absurd (none_some u e)
  use_stood (key.ChainUse n) (low.AttachPort p j x d) u h e = absurd (none_some u e)
  use_stood (key.ChainUse n) (low.AttachCircuit c s d) u h e = absurd (none_some u e)
  use_stood (key.ChainUse n) (low.Acl s r) u h e = absurd (none_some u e)
  use_stood (key.Attach n) v u h e = absurd (none_some u e)
  use_stood (key.Acl a b) v u h e = absurd (none_some u e)
  use_stood (key.Instance n) v u h e = absurd (none_some u e)

  -- a subnet of a side leads towards its end, into the instance that is so many places away
  abbrev side_of : Use → Bool → Side
  side_of u b = record { chain = u; is_right = b }

  led : (u : Use) (b : Bool) (d : ℕ) (prefix : Block) (label : LabelNo) → UseStood u → d < u.services → Member prefix (cond b u.right_subnets u.left_subnets) → label ≡ circuit_label_of (circuit_at (side_of u b) (suc d)) → IsOwn t cs (hop_at (side_of u b) (suc d)) prefix label
  led u true d prefix label is within m e =
      let j : ℕ = u.services - suc d in
      rightwards (record {
        config = is.config;
        so_far = is.so_far;
        in_effect = is.in_effect;
        is_use = is.is_use;
        place = j;
        within = subst (λ (k : ℕ). j < k) (sym is.services_are) (fewer u.services d within);
        instance = ap (λ (n : ℕ). hop_instance_of n j) (sym is.number_is);
        subnet = among is.in_effect.right.subnets u.right_subnets is.right_subnets_are m;
        label_is = e ∙ ap (λ (n : ℕ). circuit_label_of (left_circuit_of n (j + 1))) (sym is.number_is);
      })
    where
      fewer : (k d : ℕ) → d < k → k - suc d < k
      fewer k d h = omega (arith, h)

      among : (xs ys : List Block) → ys ≡ ascending xs → Member prefix ys → Contains xs prefix
      among xs ys e m = Contains-permutation (ascending xs) xs prefix (IsPermutation-sym xs (ascending xs) (ascending_permutes xs)) (contains_of (ascending xs) prefix (subst (Member prefix) e m))
  led u false d prefix label is within m e =
      leftwards (record {
        config = is.config;
        so_far = is.so_far;
        in_effect = is.in_effect;
        is_use = is.is_use;
        place = d;
        within = subst (λ (k : ℕ). d < k) (sym is.services_are) within;
        instance = (λ i. hop_instance_of (sym is.number_is i) (next d i));
        subnet = among is.in_effect.left.subnets u.left_subnets is.left_subnets_are m;
        label_is = e ∙ (λ i. circuit_label_of (right_circuit_of (sym is.number_is i) (next d i)));
      })
    where
      next : (d : ℕ) → suc d ≡ d + 1
      next d = omega arith

      among : (xs ys : List Block) → ys ≡ ascending xs → Member prefix ys → Contains xs prefix
      among xs ys e m = Contains-permutation (ascending xs) xs prefix (IsPermutation-sym xs (ascending xs) (ascending_permutes xs)) (contains_of (ascending xs) prefix (subst (Member prefix) e m))

-- ---- a control node
module _ (t : Ties) (cs : List Config) (h : Holdings) (feed_stood : AllStood t cs h.asn h.feed) (peers_stood : (m : Map) → Member m h.peers → AllStood t cs h.asn m) (agents_stood : (a : Told) → Member a h.agents → AllStood t cs h.asn a.map) where
  abbrev PathStood : Path → Type 0
  PathStood p = (i : InstanceId) × (p.targets ≡ target_of h.asn i ∷ []) × IsOwn t cs i p.prefix p.label

  own_stood : (p : Path) → Member p (own_paths h) → PathStood p
  own_stood p m =
      let o = own_route_from h p m in
      (o.instance, o.targets, attached (agents_stood o.agent o.told (Publish o.instance p.prefix) (Label p.label) o.publishes))

  peer_path_stood : (n : ℕ) (k : Key) (v : Value) (p : Path) → peer_path n k v ≡ Some p → EntryStood t cs h.asn k v → PathStood p
  peer_path_stood n (Vpn k) (Route r) p e is = subst PathStood (same_Some _ p e) is
  peer_path_stood n (Vpn k) (Object o) p e is = absurd (none_some p e)
  peer_path_stood n (Vpn k) (Entry r) p e is = absurd (none_some p e)
  peer_path_stood n (Vpn k) (Label l) p e is = absurd (none_some p e)
  peer_path_stood n (Low k) v p e is = absurd (none_some p e)
  peer_path_stood n (Row i x) v p e is = absurd (none_some p e)
  peer_path_stood n (Publish i x) v p e is = absurd (none_some p e)
  peer_path_stood n (Subscribe i) v p e is = absurd (none_some p e)

  peer_stood : (p : Path) → Member p (peer_paths h) → PathStood p
  peer_stood p m =
      let q = from_flat_map (λ (p : ℕ × Map). filter_map (λ e. peer_path p.0 e.0 e.1) (entries p.1)) p (enumerate_from 1 h.peers) m in
      let e = from_filter_map (λ (e : Key × Value). peer_path q.0.0 e.0 e.1) p (entries q.0.1) q.2 in
      peer_path_stood q.0.0 e.0.0 e.0.1 p e.2 (peers_stood q.0.1 (enumerated 1 q.0 h.peers q.1) e.0.0 e.0.1 (get_member key_total q.0.1 e.0.0 e.0.1 e.1))

  reoriginated_stood : (p : Path) → Member p (reoriginated_paths h) → PathStood p
  reoriginated_stood p m =
      let o = reoriginated_from h p m in
      let circuit = circuit_at o.side (suc o.depth) in
      let at_hop : is_hop (circuit_instance_of circuit) ≡ true = ap is_hop (circuit_at-instance o.side (suc o.depth)) ∙ is_hop_at o.side (suc o.depth) in
      let by = publishes_circuit h.agents circuit p.next_hop p.label o.published in
      let label : p.label ≡ circuit_label_of circuit = circuit_label t cs circuit p.label at_hop (agents_stood by.0 by.1 (Publish (circuit_instance_of circuit) (circuit_prefix circuit)) (Label p.label) by.2) in
      let q = from_filter_map (λ (e : LowKey × LowValue). as_use e.0 e.1) o.side.chain (objects h.feed) (side_use h.feed o.side o.held) in
      let u = use_stood t cs q.0.0 q.0.1 o.side.chain (object_stood t cs h.asn h.feed q.0.0 q.0.1 feed_stood q.1) q.2 in
      (hop_at o.side (suc o.depth), o.targets, led t cs o.side.chain o.side.is_right o.depth p.prefix p.label u o.within o.subnet label)
    where
      is_hop_at : (s : Side) (d : ℕ) → is_hop (hop_at s d) ≡ true
      is_hop_at s d = is_hop-hop s.chain.number (cond s.is_right (s.chain.services - d) d)

  route_stood : (p : Path) → Member p (own_paths h ++ reoriginated_paths h) → PathStood p
  route_stood p m = elim (in_either p (own_paths h) (reoriginated_paths h) m) as (λ _. PathStood p) [ inl l ↦ own_stood p l | inr r ↦ reoriginated_stood p r ]

  pub to_peers : AllStood t cs h.asn (wanted_by_peers h)
  to_peers k v e =
      let q = from_map route_entry (pair k v) (own_paths h ++ reoriginated_paths h) (from_entry key_total key_exact k v (map route_entry (own_paths h ++ reoriginated_paths h)) e) in
      subst (λ (e : Key × Value). EntryStood t cs h.asn e.0 e.1) q.2 (route_stood q.0 q.1)

  row_stood : (i : InstanceId) (x : Block) (p : Path) → Member (x, p) (entries (table h i)) → IsRowOf t cs i x p.label
  row_stood i x p m =
      let least : IsLeast x (paths_of h i) p = selected_least (paths_of h i) x p (get_member prefix_total (table h i) x p m) in
      subst (λ (y : Block). IsRowOf t cs i y p.label) least.prefix_is
      (elim (in_either p (received h i) (filter (has_target (target_of h.asn i ∷ [])) (reoriginated_paths h)) least.member) as (λ _. IsRowOf t cs i p.prefix p.label) [
        | inl l ↦
            let f = from_filter (has_target (map (target_of h.asn) (imports h.feed i))) p (own_paths h ++ peer_paths h) l in
            let r = elim (in_either p (own_paths h) (peer_paths h) f.0) as (λ _. PathStood p) [ inl l ↦ own_stood p l | inr r ↦ peer_stood p r ] in
            imports_lead t cs h.asn h.feed feed_stood i r.0 p.prefix p.label r.2 (target_from h.asn r.0 (imports h.feed i) p r.1 f.1)
        | inr l ↦
            let f = from_filter (has_target (target_of h.asn i ∷ [])) p (reoriginated_paths h) l in
            let r = reoriginated_stood p f.0 in
            elim (target_from h.asn r.0 (i ∷ []) p r.1 f.1) as (λ _. IsRowOf t cs i p.prefix p.label) [ inl is ↦ own (subst (λ n. IsOwn t cs n p.prefix p.label) (sym is) r.2) | inr n ↦ absurd n ]
      ])

  pub to_agent : (a : Told) → AllStood t cs h.asn (wanted_by_agent h a)
  to_agent a k v e =
      let rows = flat_map (rows_of h) (subscriptions a.map) in
      let mapped = map slice_entry (slice h.feed a.address) in
      elim (in_either (pair k v) mapped rows (from_entry key_total key_exact k v (mapped ++ rows) e)) as (λ _. EntryStood t cs h.asn k v) [
        | inl l ↦
            let q = from_map slice_entry (pair k v) (slice h.feed a.address) l in
            let o = from_filter (λ (e : LowKey × LowValue). is_in_slice h.feed a.address e.0 e.1) q.0 (objects h.feed) q.1 in
            subst (λ (e : Key × Value). EntryStood t cs h.asn e.0 e.1) q.2 (object_stood t cs h.asn h.feed q.0.0 q.0.1 feed_stood o.0)
        | inr l ↦
            let q = from_flat_map (rows_of h) (pair k v) (subscriptions a.map) l in
            let r = from_map (row_of_path q.0) (pair k v) (entries (table h q.0)) q.2 in
            subst (λ (e : Key × Value). EntryStood t cs h.asn e.0 e.1) r.2 (row_stood q.0 r.0.0 r.0.1 r.1)
      ]
