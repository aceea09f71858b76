-- The routes that the common part compiles to at an agent: those of its attachments, and those of subnets towards circuits.
use Rattle.std.specs.Prelude.{◌≡◌, ◌<◌, ◌⊎◌, ℕ, suc, List, [], ◌∷◌, map}
use Rattle.std.specs.declared.option.Option.TheVariants.{Some}
use Rattle.std.specs.FinMap.{entries, from_entries, get}
use Rattle.std.specs.List.{flat_map}
use Rattle.std.proofs.Common.{ap, inl, inr, refl, subst, sym, ◌∙◌}
use Rattle.ov_types.specs.Keys.{row_key_cmp}
use Rattle.ov_types.specs.Prefix.{Block}
use Rattle.ov_types.specs.declared.numbers.InstanceId.{InstanceId}
use Rattle.ov_types.specs.declared.objects.LowKey.{LowKey}
use Rattle.ov_types.specs.declared.objects.LowValue.{LowValue}
use Rattle.ov_types.specs.declared.prefix.Addr.{Addr}
use Rattle.ov_types.specs.declared.rows.Entry.{Entry as RouteEntry}
use Rattle.ov_types.specs.declared.rows.TableRow.{TableRow}
use Rattle.route_targets.specs.Numbers.{distinguisher_of, target_of}
use Rattle.schedule_script.specs.ConfigCheck.Checked.{Checked}
use Rattle.transform_model.specs.Compiled.{route_of}
use Rattle.transform_model.specs.Tables.{Row}
use Rattle.node_laws.specs.NodeModel.Agent.{acl_entry, attached, needed_by}
use Rattle.node_laws.specs.NodeModel.Maps.{Map}
use Rattle.node_laws.specs.NodeModel.Members.{Member}
use Rattle.node_laws.specs.NodeModel.Paths.{Path}
use Rattle.node_laws.specs.NodeModel.Reaching.{network}
use Rattle.node_laws.specs.NodeModel.Wants.{slice}
use Rattle.node_laws.proofs.NodeModel.Heard.{row_exact, row_total}
use Rattle.node_laws.proofs.NodeModel.Members.{entry_in, from_entry, from_filter_map, in_filter_map, in_flat_map, in_map, member_get}
use Rattle.node_laws.proofs.NodeModel.Orders.{prefix_exact, prefix_total}
use Rattle.machine_model.specs.Setup.{low_in, opening}
use Rattle.machine_laws.specs.Compiled.{Attachment, agent_rows, circuit_prefix, compiled_table, row_at, row_of, rows_in, table_rows}
use Rattle.machine_laws.specs.Headline.{IsWritten}
use Rattle.machine_laws.proofs.OneRow.{has_one_row}
use Rattle.machine_laws.proofs.TableRows.{HostRow, SubnetRow, aggregate_row, host_row, row_kind}
use Rattle.machine_laws.proofs.Up.{held_from, held_in}
use Rattle.machine_laws.proofs.Written.{sound_setup}
use Rattle.machine_moment_laws.specs.Common.{HasAllRows, common, placed, rows_in_common}
use Rattle.machine_moment_laws.proofs.Above.{attachment_above}
use Rattle.machine_moment_laws.proofs.Parts.{IsAbove, common_is_part}
use Rattle.machine_moment_laws.proofs.Placed.{needed_too, slices_too}
use Rattle.machine_moment_laws.proofs.Routes.{compiled_in, compiled_is, hop_of, route_at}
use Rattle.machine_moment_laws.proofs.Sides.{same_circuit_at, same_hop_at, same_network, same_subnets, side_above, side_with}
use Rattle.machine_moment_laws.proofs.Static.{imports_above}

-- ---- rows by their kind
abbrev pub Kind : Map → InstanceId → Block → TableRow → Type 0
Kind feed i p r = HostRow feed i p r ⊎ SubnetRow feed i p r

abbrev path_to : Attachment → Block → Path
path_to a p = record { prefix = p; rd = distinguisher_of a.node a.instance; next_hop = a.node; label = a.label; targets = target_of 0 a.instance ∷ []; session = 0 }

kind_in : (feed : Map) (i : InstanceId) (p : Block) (r : TableRow) → Kind feed i p r → Member (row_at p r) (table_rows feed i)
kind_in feed i p r (inl h) =
    let there = host_row 0 feed i (path_to h.to h.to.prefix) (record { to = h.to; attached = h.attached; prefix = refl; rd = refl; next_hop = refl; label = refl; targets = refl }) h.imported in
    subst (λ (r : TableRow). Member (row_at p r) (table_rows feed i)) h.row (subst (λ (q : Block). Member (row_at q (row_of h.to)) (table_rows feed i)) h.prefix there)
kind_in feed i p r (inr s) =
    let there = aggregate_row 0 feed i (path_to s.to p)
    (record { side = s.side; of_use = s.of_use; d = s.d; within = s.within; subnet = s.subnet; held = s.held; to = s.to; attached = s.attached; instance = s.circuit.0; circuit = s.circuit.1; rd = refl; next_hop = refl; label = refl; targets = refl })
    (s.circuit.0 ∙ s.at) in
    subst (λ (r : TableRow). Member (row_at p r) (table_rows feed i)) s.row there

module _ (m f : Map) (above : IsAbove m f) where
  kind_above : (i : InstanceId) (p : Block) (r : TableRow) → Kind m i p r → Kind f i p r
  kind_above i p r (inl h) = inl (record { to = h.to; attached = attachment_above m f above h.to h.attached; imported = imports_above m f above i h.to.instance h.imported; prefix = h.prefix; row = h.row })
  kind_above i p r (inr s) =
      let v = side_above m f above s.side s.of_use in
      let held = held_from m (network s.side) p s.held in
      inr (record {
        side = side_with v.chain s.side.is_right;
        of_use = v.of_use;
        d = s.d;
        within = subst (λ (k : ℕ). s.d < k) v.same.services s.within;
        at = sym (same_hop_at s.side v.chain v.same (suc s.d)) ∙ s.at;
        subnet = same_subnets s.side v.chain v.same p s.subnet;
        held = held_in f (network (side_with v.chain s.side.is_right)) p held.0 (attachment_above m f above held.0 held.1) (held.2 ∙ same_network s.side v.chain v.same) held.3;
        to = s.to;
        attached = attachment_above m f above s.to s.attached;
        circuit = (s.circuit.0 ∙ same_hop_at s.side v.chain v.same (suc s.d), s.circuit.1 ∙ ap circuit_prefix (same_circuit_at s.side v.chain v.same (suc s.d)));
        row = s.row;
      })

module _ (b : Checked) (ds : List Checked) (written : (c : Checked) → Member c (b ∷ ds) → IsWritten (opening c)) where
  abbrev M : Map
  M = common (b ∷ ds)

  abbrev W : Map
  W = placed (b ∷ ds)

  -- an instance of the common part has one row for a prefix
  one_row : (i : InstanceId) (p : Block) (r s : TableRow) → Kind M i p r → Kind M i p s → r ≡ s
  one_row i p r s h k =
      let above = common_is_part b ds b (inl refl) in
      has_one_row (low_in b) (sound_setup (opening b) (written b (inl refl))).sound i p r s
      (kind_in (low_in b) i p r (kind_above M (low_in b) above i p r h)) (kind_in (low_in b) i p s (kind_above M (low_in b) above i p s k))

  -- which is a route of each agent that needs the instance
  pub routed : (a : Addr) (i : InstanceId) (p : Block) (r : TableRow) → Member i (needed_by (slice W a)) → Kind M i p r → Member (route_at i p (hop_of r)) (rows_in_common (b ∷ ds) a).routes
  routed a i p r needed kind =
      let f = entry_in prefix_total (row_at p r) (table_rows M i) (kind_in M i p r kind) in
      let same : f.0 ≡ r = one_row i p f.0 r (row_kind M i p f.0 (from_entry prefix_total prefix_exact p f.0 (table_rows M i) f.1)) kind in
      let held : get (compiled_table M i) p ≡ Some r = f.1 ∙ ap Some same in
      let row : Row = ((i, p), r) in
      let all : List Row = flat_map (rows_in M) (needed_by (slice W a)) in
      let routes : List ((InstanceId × Block) × RouteEntry) = map route_of all in
      let in_all : Member row all =
      in_flat_map (rows_in M) i row (needed_by (slice W a)) needed
      (in_map (λ (e : Block × TableRow). ((i, e.0), e.1)) (p, r) (entries (compiled_table M i)) (member_get prefix_total prefix_exact (compiled_table M i) p r held)) in
      let g = entry_in row_total (route_of row) routes (in_map route_of row all in_all) in
      let there : Member (route_at i p g.0) (rows_in_common (b ∷ ds) a).routes = member_get row_total row_exact (from_entries {R = row_key_cmp} routes) (i, p) g.0 g.1 in
      let c = compiled_is (b ∷ ds) a i p g.0 there in
      let one : g.0 ≡ hop_of r = sym c.hop_is ∙ ap hop_of (one_row i p c.row r c.kind kind) in
      subst (λ (h : RouteEntry). Member (route_at i p h) (rows_in_common (b ∷ ds) a).routes) one there

  -- so these have all that the common part compiles to
  pub all_rows : (address : Addr) → HasAllRows (rows_in_common (b ∷ ds) address) (agent_rows M address)
  all_rows address = record {
    labels = λ l m.
        let q = from_filter_map (λ (e : LowKey × LowValue). attached e.0 e.1) l (slice M address) m in
        in_filter_map (λ (e : LowKey × LowValue). attached e.0 e.1) q.0 l (slice W address) (slices_too b ds address q.0.0 q.0.1 q.1) q.2;
    acls = λ a m.
        let q = from_filter_map (λ (e : LowKey × LowValue). acl_entry e.0 e.1) a (slice M address) m in
        in_filter_map (λ (e : LowKey × LowValue). acl_entry e.0 e.1) q.0 a (slice W address) (slices_too b ds address q.0.0 q.0.1 q.1) q.2;
    routes = λ r m.
        let c = compiled_in M (needed_by (slice M address)) r.0.0 r.0.1 r.1 m in
        subst (λ (h : RouteEntry). Member (route_at r.0.0 r.0.1 h) (rows_in_common (b ∷ ds) address).routes) c.hop_is
        (routed address r.0.0 r.0.1 c.row (needed_too b ds address r.0.0 c.needed) c.kind);
  }
