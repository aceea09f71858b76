-- The paths of an instance in the compiled holdings have its rows, and each row's prefix has a path.
use Rattle.std.specs.FinMap.{get}
use Rattle.std.specs.List.{filter, flat_map}
use Rattle.std.specs.Option.{option_map}
use Rattle.std.specs.Prelude.{Bool, List, cond, false, map, nat_le, suc, true, ℕ, [], ◌%◌, ◌++◌, ◌+◌, ◌-◌, ◌/◌, ◌<◌, ◌==◌, ◌∷◌, ◌≡◌, ◌≤◌, ◌⊎◌}
use Rattle.std.specs.declared.option.Option.TheVariants.{None, Some}
use Rattle.std.specs.declared.option.Option.{Option}
use Rattle.std.proofs.Common.{ap, arith, inl, inr, refl, subst, sym, ◌*◌, ◌∙◌}
use Rattle.std.proofs.lemmas.Bool.{and_from, and_parts, ltb-true}
use Rattle.ov_types.specs.Prefix.{Block}
use Rattle.ov_types.specs.declared.numbers.InstanceId.{InstanceId}
use Rattle.ov_types.specs.declared.objects.LowKey.TheVariants as key
use Rattle.ov_types.specs.declared.rows.TableRow.{TableRow}
use Rattle.route_targets.specs.Numbers.{circuit_instance_of, hop_instance_of, target_of}
use Rattle.node_laws.specs.NodeModel.Maps.{Map, object}
use Rattle.node_laws.specs.NodeModel.Members.{Member}
use Rattle.node_laws.specs.NodeModel.Paths.{Holdings, Path, has_target, own_paths, peer_paths, received}
use Rattle.node_laws.specs.NodeModel.Reaching.{Side, below, circuit_at, hop_at, is_up, network, reoriginated_paths, reoriginated_by, sides, subnets}
use Rattle.node_laws.specs.NodeModel.Tables.{same_prefix, table, table_row}
use Rattle.node_laws.specs.NodeModel.Uses.{Use, held_use, hop, hop_imports, imports, is_hop, network_imports, place_of, use_of}
use Rattle.node_laws.proofs.NodeModel.Members.{any_in, from_any, from_filter, from_flat_map, from_map, in_either, in_filter, in_flat_map, in_left, in_map, in_right, member_when}
use Rattle.node_laws.proofs.NodeModel.Objects.{ends}
use Rattle.node_laws.proofs.NodeModel.Orders.{prefix_same, same_prefix-from}
use Rattle.node_laws.proofs.NodeModel.Places.{use_found}
use Rattle.node_laws.proofs.NodeModel.Routes.{from_below, in_below}
use Rattle.node_laws.proofs.NodeModel.Unknown.{target_from, target_in}
use Rattle.machine_laws.specs.Small.{small}
use Rattle.machine_laws.specs.Compiled.{Agents, Attachment, aggregates, aggregates_of, attachments, circuit_prefix, compiled_holdings, compiled_routes, compiled_table, holds, hosts, is_circuit, is_imported, leads_on, local, row_at, row_of, same_instance, table_rows, towards_circuit}
use Rattle.machine_laws.specs.Sound.{HasOneRow, IsCircuitAt, IsServed, IsSound}
use Rattle.machine_laws.proofs.Fixpoint.{reoriginated_is_compiled}
use Rattle.machine_laws.proofs.Numbers.{circuit_at-instance, hop_not_network, imports_itself, instance_is, instance_same}
use Rattle.machine_laws.proofs.Peers.{peers_found, peers_told, reoriginated_found, reoriginated_is, routes_told, same_target_by_rd}
use Rattle.machine_laws.proofs.Tables.{selected_rows}
use Rattle.machine_laws.proofs.Told.{IsAggregate, IsHost, own_found, publisher_found}
use Rattle.machine_laws.proofs.Up.{all_told, here, up_is_held}

-- an instance imports no hop's instance but itself
pub imported_hop : (feed : Map) (i : InstanceId) (s : Side) (d : ℕ) → IsSound feed → Member s (sides feed) → d ≤ s.chain.services → Member (hop_at s d) (imports feed i) → hop_at s d ≡ i
imported_hop feed i s d sound of_use h m =
    elim (is_hop i) as (λ b. is_hop i ≡ b → Member (hop_at s d) (cond b (hop_imports (place_of i) (held_use feed i)) (network_imports (object feed (key.Instance i.0)))) → hop_at s d ≡ i) [
      | true ↦ λ e m. from_use (held_use feed i) refl e m
      | false ↦ λ e m. absurd (hop_not_network s d (hop_at s d) (sound.imports_small i (hop_at s d) e (subst (λ b. Member (hop_at s d) (cond b (hop_imports (place_of i) (held_use feed i)) (network_imports (object feed (key.Instance i.0))))) (sym e) m)) refl)
    ] refl m
  where
    number : (i u n : ℕ) → 16383 < i → u ≡ (i - 16384) / 16 → 16384 + 16 * u + (i - 16384) % 16 ≡ n → n ≡ i
    number i u n a e f = omega arith

    back : (u : ℕ) (n : InstanceId) → 16383 < i.0 → u ≡ use_of i → hop_instance_of u (place_of i) ≡ n → n ≡ i
    back u n a e f = λ k. record { 0 = number i.0 u n.0 a e (ap (λ (x : InstanceId). x.0) f) k }

    of_end : (b : Bool) (x : InstanceId) → x.0 < 16384 → Member (hop_at s d) (cond b (x ∷ []) []) → ⊥
    of_end true x small (inl e) = hop_not_network s d x small (sym e)
    of_end true x small (inr m) = m
    of_end false x small m = m

    from_use : (o : Option Use) → held_use feed i ≡ o → is_hop i ≡ true → Member (hop_at s d) (hop_imports (place_of i) o) → hop_at s d ≡ i
    from_use None e is m = absurd m
    from_use (Some u) e is m =
        let f = use_found feed (use_of i) u e in
        elim (nat_le (place_of i) u.services) as (λ b. Member (hop_at s d) (cond b (hop u (place_of i) ∷ ends u (place_of i)) []) → hop_at s d ≡ i) [
          | true ↦ λ m. elim m as (λ _. hop_at s d ≡ i) [
            | inl e ↦ back u.number (hop_at s d) (ltb-true 16383 i.0 is) f.1 e
            | inr m ↦ elim (in_either (hop_at s d) (cond (place_of i == 0) (u.left ∷ []) []) (cond (place_of i == u.services) (u.right ∷ []) []) m) as (λ _. hop_at s d ≡ i) [
              | inl l ↦ absurd (of_end (place_of i == 0) u.left (sound.ordered.lefts u f.0) l)
              | inr r ↦ absurd (of_end (place_of i == u.services) u.right (sound.ordered.rights u f.0) r)
            ]
          ]
          | false ↦ λ m. absurd m
        ] m

-- ---- each path's row
row_same : (p : Path) (a : Attachment) (x : Block) → p.prefix ≡ x → p.rd ≡ (row_of a).rd → p.next_hop ≡ a.node → p.label ≡ a.label → row_at x (row_of a) ≡ row_at p.prefix (table_row p)
row_same p a x e r n l = λ i. (sym e i, record { rd = sym r i; next_hop = sym n i; label = sym l i })

pub host_row : (asn : ℕ) (feed : Map) (i : InstanceId) (p : Path) (t : IsHost asn feed p) → Member t.to.instance (imports feed i) → Member (row_at p.prefix (table_row p)) (table_rows feed i)
host_row asn feed i p t m =
    let a = t.to in
    subst (λ (e : Block × TableRow). Member e (table_rows feed i)) (row_same p a a.prefix t.prefix t.rd t.next_hop t.label)
    (in_left (row_at a.prefix (row_of a)) (hosts feed i) (flat_map (aggregates_of feed i) (sides feed))
    (in_map (λ (a : Attachment). row_at a.prefix (row_of a)) a (filter (is_imported feed i) (attachments feed))
    (in_filter (is_imported feed i) a (attachments feed) t.attached
    (any_in (λ n. same_instance n a.instance) a.instance (imports feed i) m (instance_same a.instance a.instance refl)))))

circuit_in : (feed : Map) (s : Side) (d : ℕ) (a : Attachment) → Member a (attachments feed) → IsCircuitAt s d a → Member a (filter (is_circuit (circuit_at s d)) (attachments feed))
circuit_in feed s d a m at =
    in_filter (is_circuit (circuit_at s d)) a (attachments feed) m
    (and_from (same_instance a.instance (circuit_instance_of (circuit_at s d))) (same_prefix a.prefix (circuit_prefix (circuit_at s d)))
    (instance_same a.instance (circuit_instance_of (circuit_at s d)) (at.0 ∙ sym (circuit_at-instance s d))) (same_prefix-from a.prefix (circuit_prefix (circuit_at s d)) at.1))

pub circuit_from : (feed : Map) (s : Side) (d : ℕ) (a : Attachment) → Member a (filter (is_circuit (circuit_at s d)) (attachments feed)) → Member a (attachments feed) × IsCircuitAt s d a
circuit_from feed s d a m =
    let c = from_filter (is_circuit (circuit_at s d)) a (attachments feed) m in
    let cs = and_parts (same_instance a.instance (circuit_instance_of (circuit_at s d))) (same_prefix a.prefix (circuit_prefix (circuit_at s d))) c.1 in
    (c.0, (instance_is a.instance (circuit_instance_of (circuit_at s d)) cs.0 ∙ circuit_at-instance s d, prefix_same a.prefix (circuit_prefix (circuit_at s d)) cs.1))

pub aggregate_row : (asn : ℕ) (feed : Map) (i : InstanceId) (p : Path) (t : IsAggregate asn feed p) → t.to.instance ≡ i → Member (row_at p.prefix (table_row p)) (table_rows feed i)
aggregate_row asn feed i p t e =
    let a = t.to in let s = t.side in
    let at : hop_at s (suc t.d) ≡ i = sym t.instance ∙ e in
    let circuit = circuit_at s (suc t.d) in
    let row : Block × TableRow = row_at p.prefix (row_of a) in
    let inner : Member row (flat_map (towards_circuit feed s circuit) (subnets s)) =
    in_flat_map (towards_circuit feed s circuit) p.prefix row (subnets s) t.subnet
    (subst (λ b. Member row (cond b (map (λ a. row_at p.prefix (row_of a)) (filter (is_circuit circuit) (attachments feed))) [])) (sym t.held)
    (in_map (λ (a : Attachment). row_at p.prefix (row_of a)) a (filter (is_circuit circuit) (attachments feed)) (circuit_in feed s (suc t.d) a t.attached (t.instance, t.circuit)))) in
    subst (λ (e : Block × TableRow). Member e (table_rows feed i)) (row_same p a p.prefix refl t.rd t.next_hop t.label)
    (in_right row (hosts feed i) (flat_map (aggregates_of feed i) (sides feed))
    (in_flat_map (aggregates_of feed i) s row (sides feed) t.of_use
    (in_flat_map (aggregates feed i s) t.d row (below s.chain.services) (in_below s.chain.services t.d t.within)
    (subst (λ b. Member row (cond b (flat_map (towards_circuit feed s circuit) (subnets s)) [])) (sym (instance_same (hop_at s (suc t.d)) i at)) inner))))

-- what a row is of
pub record HostRow (feed : Map) (i : InstanceId) (p : Block) (r : TableRow) : Type 0 where
  pub to : Attachment
  pub attached : Member to (attachments feed)
  pub imported : Member to.instance (imports feed i)
  pub prefix : to.prefix ≡ p
  pub row : row_of to ≡ r

pub record SubnetRow (feed : Map) (i : InstanceId) (p : Block) (r : TableRow) : Type 0 where
  pub side : Side
  pub of_use : Member side (sides feed)
  pub d : ℕ
  pub within : d < side.chain.services
  pub at : hop_at side (suc d) ≡ i
  pub subnet : Member p (subnets side)
  pub held : holds feed (network side) p ≡ true
  pub to : Attachment
  pub attached : Member to (attachments feed)
  pub circuit : IsCircuitAt side (suc d) to
  pub row : row_of to ≡ r

pub row_kind : (feed : Map) (i : InstanceId) (p : Block) (r : TableRow) → Member (row_at p r) (table_rows feed i) → HostRow feed i p r ⊎ SubnetRow feed i p r
row_kind feed i p r m =
    elim (in_either (row_at p r) (hosts feed i) (flat_map (aggregates_of feed i) (sides feed)) m) as (λ _. HostRow feed i p r ⊎ SubnetRow feed i p r) [
      | inl l ↦
          let q = from_map (λ (a : Attachment). row_at a.prefix (row_of a)) (row_at p r) (filter (is_imported feed i) (attachments feed)) l in
          let f = from_filter (is_imported feed i) q.0 (attachments feed) q.1 in
          let n = from_any (λ (n : InstanceId). same_instance n q.0.instance) (imports feed i) f.1 in
          inl (record { to = q.0; attached = f.0; imported = subst (λ (n : InstanceId). Member n (imports feed i)) (instance_is n.0 q.0.instance n.2) n.1; prefix = ap (λ (e : Block × TableRow). e.0) q.2; row = ap (λ (e : Block × TableRow). e.1) q.2 })
      | inr l ↦
          let os = from_flat_map (aggregates_of feed i) (row_at p r) (sides feed) l in
          let s = os.0 in
          let od = from_flat_map (aggregates feed i s) (row_at p r) (below s.chain.services) os.2 in
          let d = od.0 in
          let circuit = circuit_at s (suc d) in
          let w = member_when (same_instance (hop_at s (suc d)) i) (row_at p r) (flat_map (towards_circuit feed s circuit) (subnets s)) od.2 in
          let on = from_flat_map (towards_circuit feed s circuit) (row_at p r) (subnets s) w.1 in
          let h = member_when (holds feed (network s) on.0) (row_at p r) (map (λ a. row_at on.0 (row_of a)) (filter (is_circuit circuit) (attachments feed))) on.2 in
          let q = from_map (λ (a : Attachment). row_at on.0 (row_of a)) (row_at p r) (filter (is_circuit circuit) (attachments feed)) h.1 in
          let c = circuit_from feed s (suc d) q.0 q.1 in
          let is : on.0 ≡ p = ap (λ (e : Block × TableRow). e.0) q.2 in
          inr (record {
            side = s;
            of_use = os.1;
            d = d;
            within = from_below s.chain.services d od.1;
            at = instance_is (hop_at s (suc d)) i w.0;
            subnet = subst (λ p. Member p (subnets s)) is on.1;
            held = subst (λ p. holds feed (network s) p ≡ true) is h.0;
            to = q.0;
            attached = c.0;
            circuit = c.1;
            row = ap (λ (e : Block × TableRow). e.1) q.2;
          })
    ]

module _ (asn : ℕ) (feed : Map) (agents : Agents) (peers : List Agents) (sound : IsSound feed) (served : IsServed feed agents peers) where
  abbrev now : Holdings
  now = here asn feed agents peers sound

  abbrev paths : InstanceId → List Path
  paths i = received now i ++ filter (has_target (target_of asn i ∷ [])) (reoriginated_paths now)

  least_within : (d k : ℕ) → d < k → suc d ≤ k
  least_within d k h = omega arith

  path_has_row : (i : InstanceId) (p : Path) → Member p (paths i) → Member (row_at p.prefix (table_row p)) (table_rows feed i)
  path_has_row i p m =
      elim (in_either p (received now i) (filter (has_target (target_of asn i ∷ [])) (reoriginated_paths now)) m) as (λ _. Member (row_at p.prefix (table_row p)) (table_rows feed i)) [
        | inl l ↦
            let f = from_filter (has_target (map (target_of asn) (imports feed i))) p (own_paths now ++ peer_paths now) l in
            elim (all_told asn feed agents peers sound p f.0) as (λ _. Member (row_at p.prefix (table_row p)) (table_rows feed i)) [
              | inl t ↦ host_row asn feed i p t (target_from asn t.to.instance (imports feed i) p t.targets f.1)
              | inr t ↦ aggregate_row asn feed i p t (t.instance ∙ imported_hop feed i t.side (suc t.d) sound t.of_use (least_within t.d t.side.chain.services t.within) (subst (λ (n : InstanceId). Member n (imports feed i)) t.instance (target_from asn t.to.instance (imports feed i) p t.targets f.1)))
            ]
        | inr r ↦
            let f = from_filter (has_target (target_of asn i ∷ [])) p (reoriginated_paths now) r in
            let t = reoriginated_is asn feed agents p (subst (Member p) (reoriginated_is_compiled asn feed agents peers sound served) f.0) in
            aggregate_row asn feed i p t (elim (target_from asn t.to.instance (i ∷ []) p t.targets f.1) as (λ _. t.to.instance ≡ i) [ inl e ↦ sym e | inr n ↦ absurd n ])
      ]

  -- ---- each row's path
  received_in : (i n : InstanceId) (p : Path) → Member p (own_paths now ++ peer_paths now) → p.targets ≡ target_of asn n ∷ [] → Member n (imports feed i) → Member p (paths i)
  received_in i n p m t im = in_left p (received now i) (filter (has_target (target_of asn i ∷ [])) (reoriginated_paths now)) (in_filter (has_target (map (target_of asn) (imports feed i))) p (own_paths now ++ peer_paths now) m (target_in asn n (imports feed i) p t im))

  abbrev PathTo : InstanceId → Block → Type 0
  PathTo i x = (p : Path) × Member p (paths i) × (p.prefix ≡ x)

  peer_path_to : (i n : InstanceId) (o : Agents) (q : Path) → Member o peers → Member q (compiled_routes asn feed o) → q.targets ≡ target_of asn n ∷ [] → Member n (imports feed i) → PathTo i q.prefix
  peer_path_to i n o q m r t im =
      let p = peers_found asn feed agents peers o q m r in (
        p.0,
        received_in i n p.0 (in_right p.0 (own_paths now) (peer_paths now) p.1) (same_target_by_rd asn feed p.0 q sound (peers_told asn feed agents peers p.0 p.1) (routes_told asn feed o q r) p.3 ∙ t) im,
        p.2,
      )

  to_host : (i : InstanceId) (a : Attachment) → Member a (attachments feed) → Member a.instance (imports feed i) → PathTo i a.prefix
  to_host i a m im =
      elim (served a m) as (λ _. PathTo i a.prefix) [
        | inl mine ↦ let f = own_found asn feed agents a sound m mine in (f.0, received_in i a.instance f.0 (in_left f.0 (own_paths now) (peer_paths now) f.1) f.4 im, f.2)
        | inr far ↦
            let f = own_found asn feed far.0 a sound m far.2 in
            subst (PathTo i) f.2 (peer_path_to i a.instance far.0 f.0 far.1 (in_left f.0 (own_paths (local asn feed far.0)) (reoriginated_by (leads_on feed) (local asn feed far.0)) f.1) f.4 im)
      ]

  to_subnet : (i : InstanceId) (s : Side) (d : ℕ) (subnet : Block) (a : Attachment) → Member s (sides feed) → d < s.chain.services → Member subnet (subnets s) → holds feed (network s) subnet ≡ true → hop_at s (suc d) ≡ i
      → Member a (attachments feed) → IsCircuitAt s (suc d) a → PathTo i subnet
  to_subnet i s d subnet a m h n held at ma circuit =
      let at' : a.instance ≡ circuit_instance_of (circuit_at s (suc d)) = circuit.0 ∙ sym (circuit_at-instance s (suc d)) in
      let host' : a.prefix ≡ circuit_prefix (circuit_at s (suc d)) = circuit.1 in
      elim (served a ma) as (λ _. PathTo i subnet) [
        | inl mine ↦
            let f = reoriginated_found (is_up now) now s d subnet m h n (up_is_held asn feed agents peers sound s subnet m n served d (weaker d s.chain.services h) ∙ held) (publisher_found feed agents (circuit_at s (suc d)) a ma at' host' mine) in
            (f.0, in_right f.0 (received now i) (filter (has_target (target_of asn i ∷ [])) (reoriginated_paths now)) (in_filter (has_target (target_of asn i ∷ [])) f.0 (reoriginated_paths now) f.1 (target_in asn (hop_at s (suc d)) (i ∷ []) f.0 f.3 (inl (sym at)))), f.2)
        | inr far ↦
            let f = reoriginated_found (leads_on feed) (local asn feed far.0) s d subnet m h n held (publisher_found feed far.0 (circuit_at s (suc d)) a ma at' host' far.2) in
            subst (PathTo i) f.2 (peer_path_to i (hop_at s (suc d)) far.0 f.0 far.1 (in_right f.0 (own_paths (local asn feed far.0)) (reoriginated_by (leads_on feed) (local asn feed far.0)) f.1) f.3
            (subst (λ (j : InstanceId). Member (hop_at s (suc d)) (imports feed j)) at (imports_itself feed s (suc d) sound.ordered m h)))
      ]
    where
      weaker : (d k : ℕ) → d < k → d ≤ k
      weaker d k h = omega arith

  row_has_path : (i : InstanceId) (x : Block) (r : TableRow) → Member (row_at x r) (table_rows feed i) → PathTo i x
  row_has_path i x r m =
      elim (row_kind feed i x r m) as (λ _. PathTo i x) [
        | inl k ↦ subst (PathTo i) k.prefix (to_host i k.to k.attached k.imported)
        | inr k ↦ to_subnet i k.side k.d x k.to k.of_use k.within k.subnet k.held k.at k.attached k.circuit
      ]

  -- the tables of the compiled holdings are the compiled ones
  pub table_is_compiled : (i : InstanceId) → HasOneRow feed i → (x : Block) → option_map table_row (get (table (compiled_holdings asn feed agents peers) i) x) ≡ get (compiled_table feed i) x
  table_is_compiled i one x = selected_rows (paths i) (table_rows feed i) (path_has_row i) (row_has_path i) one x
