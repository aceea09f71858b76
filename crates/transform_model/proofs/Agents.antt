-- What an agent has under a label, where it leads an address in an instance, and which instances it needs.
use Rattle.std.proofs.Common.{◌≡◌, ◌==◌, eqb, ℕ, true, false, cond, IsTrue, List, Some, None, option_map, map, filter_map, find, refl, sym, ap, ◌∙◌, subst}
use Rattle.std.specs.List.{Contains}
use Rattle.std.proofs.lemmas.Bool.{eqb-true, eq-eqb}
use Rattle.ov_types.specs.Prefix.{Block, contains}
use Rattle.ov_types.specs.Routing.{longest}
use Rattle.ov_types.specs.declared.numbers.InstanceId.{InstanceId}
use Rattle.ov_types.specs.declared.numbers.Label.{Label}
use Rattle.ov_types.specs.declared.objects.LowKey.{LowKey}
use Rattle.ov_types.specs.declared.objects.LowKey.TheVariants as Key
use Rattle.ov_types.specs.declared.objects.LowValue.{LowValue}
use Rattle.ov_types.specs.declared.objects.LowValue.TheVariants as Value
use Rattle.ov_types.specs.declared.prefix.Addr.{Addr}
use Rattle.ov_types.specs.declared.rows.Attached.{Attached}
use Rattle.ov_types.specs.declared.rows.Attached.TheVariants.{Port, Circuit}
use Rattle.ov_types.specs.declared.rows.Entry.{Entry}
use Rattle.ov_types.proofs.FirstLemmas.{found_is}
use Rattle.route_targets.specs.Forwarding.{Forwarder, agent_at, attached, looked_up, route_in}
use Rattle.reach_plain.specs.ConfigTypes.Form.{has_config_form}
use Rattle.reach_plain.specs.ConfigTypes.Config.{Config}
use Rattle.reach_plain.specs.ConfigTypes.Node.{Node}
use Rattle.reach_plain.specs.ConfigTypes.Topology.{Topology}
use Rattle.reach_plain.specs.ConfigCheck.Sentences.{IsValid}
use Rattle.node_model.specs.Agent.{attached as listed, needed_by, needed_for}
use Rattle.node_model.specs.Wants.{is_at}
use Rattle.transform_model.specs.Compiled.{agent_rows, concerns, slice_of, route_of}
use Rattle.transform_model.specs.IsRow.{IsRow}
use Rattle.transform_model.specs.Objects.{LowObject, low_objects, ascending_instances}
use Rattle.transform_model.specs.Tables.{Row, tables_of}
use Rattle.reach_plain.proofs.PolicyRules.Lists.{is_mapped, mapped_is, is_kept, kept_is, is_joined}
use Rattle.transform_model.proofs.Lists.{gives, given}
use Rattle.transform_model.proofs.Held.{instance_of_row, one_object, row_of_table, in_tables}
use Rattle.reach_plain.proofs.Found.{finds}
use Rattle.transform_model.proofs.OneFound.{only_longest, no_longest}
use Rattle.transform_model.proofs.Valid.{one_node_at}

-- the agent of a node
abbrev pub forwarder : Topology → Config → Node → Forwarder
forwarder t c n = record { address = n.address; rows = agent_rows t c n.address }

abbrev pub agents_of : Topology → Config → List Forwarder
agents_of t c = map (forwarder t c) t.nodes

-- an instance is needed by the agent at an address
abbrev pub Needs : Topology → Config → Addr → InstanceId → Type 0
Needs t c a i = Contains (needed_by (slice_of (low_objects t c) a)) i

same_instance : (i j : InstanceId) → i.0 == j.0 ≡ true → i ≡ j
same_instance i j e = ap (λ n. record { 0 = n }) (eqb-true i.0 j.0 e)

-- what is listed under a label has that label as its key
key_of_listed : (k : LowKey) (w : LowValue) (e : Label × Attached) → listed k w ≡ Some e → k ≡ Key.Attach e.0.0
key_of_listed (Key.Attach n) (Value.AttachPort port instance address node) e h =
    let label : Label = record { 0 = n } in
    let what : Attached = Port port instance in
    let both : (label, what) ≡ e = cc in
    ap (λ (x : Label × Attached). Key.Attach x.0.0) both
key_of_listed (Key.Attach n) (Value.AttachCircuit circuit service node) e h =
    let label : Label = record { 0 = n } in
    let what : Attached = Circuit circuit service in
    let both : (label, what) ≡ e = cc in
    ap (λ (x : Label × Attached). Key.Attach x.0.0) both
key_of_listed k w e h = cc

same_entry : (e : Label × Attached) (label : Label) (what : Attached) → e.0.0 ≡ label.0 → e.1 ≡ what → e ≡ (label, what)
same_entry e label what n w =
    let numbers : e.0 ≡ label = ap (λ (k : ℕ). record { 0 = k }) n in
    let same : (e.0, e.1) ≡ (label, what) = cc in
    same

-- where a row leads an agent
abbrev pub hop_of_row : Row → Entry
hop_of_row r = record { next_hop = r.1.next_hop; label = r.1.label }

route_here : (i : InstanceId) (r : Row) → r.0.0 ≡ i → route_in i (route_of r) ≡ Some (r.0.1, hop_of_row r)
route_here i r e =
    let hit : eqb r.0.0.0 i.0 ≡ true = eq-eqb r.0.0.0 i.0 (ap (λ (x : InstanceId). x.0) e) in
    rw hit refl

route_is : (i : InstanceId) (r : Row) (s : Block × Entry) → route_in i (route_of r) ≡ Some s → (r.0.0 ≡ i) × ((r.0.1, hop_of_row r) ≡ s)
route_is i r s =
    elim (eqb r.0.0.0 i.0) as (λ b. eqb r.0.0.0 i.0 ≡ b → cond b (Some (r.0.1, hop_of_row r)) None ≡ Some s → (r.0.0 ≡ i) × ((r.0.1, hop_of_row r) ≡ s)) [
      | true ↦ λ e h. (same_instance r.0.0 i e, cc)
      | false ↦ λ e h. cc
    ] refl

module _ (t : Topology) (c : Config) (form : IsTrue (has_config_form c)) (v : IsValid t c) (a : Addr) where
  in_slice : (k : LowKey) (w : LowValue) → Contains (low_objects t c) (k, w) → concerns (low_objects t c) a k w ≡ true → Contains (slice_of (low_objects t c) a) (k, w)
  in_slice k w h e = is_kept (λ (o : LowObject). concerns (low_objects t c) a o.0 o.1) (low_objects t c) (k, w) h e

  abbrev pub Under : Label → Attached → Type 0
  Under label what =
      (w : LowValue) × Contains (low_objects t c) (Key.Attach label.0, w) × (is_at a w ≡ true) × (listed (Key.Attach label.0) w ≡ Some (label, what))

  -- what stands under a label, of the objects
  pub under_label : (label : Label) (what : Attached) → attached (agent_rows t c a) label ≡ Some what
      → Under label what
  unfolding agent_rows
  under_label label what h =
      let labels : List (Label × Attached) = filter_map (λ (o : LowObject). listed o.0 o.1) (slice_of (low_objects t c) a) in
      elim (find (λ (e : Label × Attached). e.0.0 == label.0) labels) as (λ f. find (λ (e : Label × Attached). e.0.0 == label.0) labels ≡ f → option_map (λ (e : Label × Attached). e.1) f ≡ Some what → Under label what) [
        | None ↦ λ e k. cc
        | Some e ↦ λ f k.
            let found = found_is (λ (e : Label × Attached). e.0.0 == label.0) labels e f in
            let from = given (λ (o : LowObject). listed o.0 o.1) (slice_of (low_objects t c) a) e found.1 in
            let o : LowObject = from.0 in
            let in_low = kept_is (λ (o : LowObject). concerns (low_objects t c) a o.0 o.1) (low_objects t c) o from.1 in
            let number : e.0.0 ≡ label.0 = eqb-true e.0.0 label.0 found.0 in
            let key : o.0 ≡ Key.Attach label.0 = key_of_listed o.0 o.1 e from.2 ∙ ap Key.Attach number in
            let whole : o ≡ (Key.Attach label.0, o.1) = ap (λ (k : LowKey). (k, o.1)) key in
            let labelled : e ≡ (label, what) = same_entry e label what number cc in (
              o.1,
              subst (λ (x : LowObject). Contains (low_objects t c) x) whole in_low.0,
              subst (λ (x : LowObject). concerns (low_objects t c) a x.0 x.1 ≡ true) whole in_low.1,
              subst (λ (x : LowObject). listed x.0 x.1 ≡ Some (label, what)) whole (from.2 ∙ ap Some labelled),
            )
      ] refl h

  pub label_leads : (label : Label) (w : LowValue) (what : Attached) → Contains (low_objects t c) (Key.Attach label.0, w) → is_at a w ≡ true
      → listed (Key.Attach label.0) w ≡ Some (label, what) → attached (agent_rows t c a) label ≡ Some what
  unfolding agent_rows
  label_leads label w what h at is =
      let labels : List (Label × Attached) = filter_map (λ (o : LowObject). listed o.0 o.1) (slice_of (low_objects t c) a) in
      let inside : Contains labels (label, what) =
      gives (λ (o : LowObject). listed o.0 o.1) (slice_of (low_objects t c) a) (Key.Attach label.0, w) (label, what) (in_slice (Key.Attach label.0) w h at) is in
      let found : find (λ (e : Label × Attached). e.0.0 == label.0) labels ≡ Some (label, what) =
      finds (λ (e : Label × Attached). e.0.0 == label.0) labels (label, what) inside (eq-eqb label.0 label.0 refl)
      (λ e in_e passes.
      let from = given (λ (o : LowObject). listed o.0 o.1) (slice_of (low_objects t c) a) e in_e in
      let o : LowObject = from.0 in
      let in_low = kept_is (λ (o : LowObject). concerns (low_objects t c) a o.0 o.1) (low_objects t c) o from.1 in
      let key : o.0 ≡ Key.Attach label.0 = key_of_listed o.0 o.1 e from.2 ∙ ap Key.Attach (eqb-true e.0.0 label.0 passes) in
      let one : o ≡ (Key.Attach label.0, w) = one_object t c o (Key.Attach label.0, w) in_low.0 h key in
      let both : Some e ≡ Some (label, what) = sym from.2 ∙ ap (λ (o : LowObject). listed o.0 o.1) one ∙ is in
      cc) in
      ap (option_map (λ (e : Label × Attached). e.1)) found

  abbrev rows_needed : List Row
  rows_needed = tables_of t c (ascending_instances (needed_by (slice_of (low_objects t c) a)))

  row_here : (i : InstanceId) (s : Block × Entry) → Contains (filter_map (route_in i) (map route_of rows_needed)) s
      → (r : Row) × IsRow t c i r × ((r.0.1, hop_of_row r) ≡ s)
  row_here i s h =
      let from = given (route_in i) (map route_of rows_needed) s h in
      let of_row = mapped_is route_of rows_needed from.0 from.1 in
      let r : Row = of_row.0 in
      let is = route_is i r s (ap (route_in i) of_row.2 ∙ from.2) in
      let table = row_of_table t c form v (needed_by (slice_of (low_objects t c) a)) r of_row.1 in
      let same : table.0 ≡ i = sym (instance_of_row t c table.0 r table.1) ∙ is.0 in
      (r, subst (λ (j : InstanceId). IsRow t c j r) same table.1, is.1)

  -- where the one row that contains an address leads it
  pub lookup_leads : (i : InstanceId) (d : ℕ) (r : Row) → Needs t c a i → IsRow t c i r → contains r.0.1 d ≡ true
      → ((s : Row) → IsRow t c i s → contains s.0.1 d ≡ true → s ≡ r) → looked_up (agent_rows t c a) i d ≡ Some (hop_of_row r)
  unfolding agent_rows
  lookup_leads i d r needs is hit only =
      let rows : List Row = rows_needed in
      let routes : List ((InstanceId × Block) × Entry) = map route_of rows in
      let here : List (Block × Entry) = filter_map (route_in i) routes in
      let in_rows : Contains rows r = in_tables t c form v (needed_by (slice_of (low_objects t c) a)) i r needs is in
      let in_here : Contains here (r.0.1, hop_of_row r) =
      gives (route_in i) routes (route_of r) (r.0.1, hop_of_row r) (is_mapped route_of rows r in_rows) (route_here i r (instance_of_row t c i r is)) in
      let found : longest d here ≡ Some (r.0.1, hop_of_row r) =
      only_longest d here (r.0.1, hop_of_row r) in_here hit (λ s in_s hits.
      let from = row_here i s in_s in
      let one : from.0 ≡ r = only from.0 from.1 (subst (λ (x : Block × Entry). contains x.0 d ≡ true) (sym from.2) hits) in
      sym from.2 ∙ ap (λ (x : Row). (x.0.1, hop_of_row x)) one) in
      ap (option_map (λ (x : Block × Entry). x.1)) found

  pub lookup_fails : (i : InstanceId) (d : ℕ) → ((s : Row) → IsRow t c i s → contains s.0.1 d ≡ true → ⊥) → looked_up (agent_rows t c a) i d ≡ None
  unfolding agent_rows
  lookup_fails i d none =
      let here : List (Block × Entry) = filter_map (route_in i) (map route_of rows_needed) in
      let nothing : longest d here ≡ None =
      no_longest d here (λ s in_s hits.
      let from = row_here i s in_s in
      none from.0 from.1 (subst (λ (x : Block × Entry). contains x.0 d ≡ true) (sym from.2) hits)) in
      ap (option_map (λ (x : Block × Entry). x.1)) nothing

  pub needed_at : (k : LowKey) (w : LowValue) (i : InstanceId) → Contains (low_objects t c) (k, w) → concerns (low_objects t c) a k w ≡ true → Contains (needed_for w) i → Needs t c a i
  needed_at k w i h e n = is_joined (λ (o : LowObject). needed_for o.1) (slice_of (low_objects t c) a) (k, w) i (in_slice k w h e) n

module _ (t : Topology) (c : Config) (v : IsValid t c) where
  pub agent_is : (n : Node) → Contains t.nodes n → agent_at (agents_of t c) n.address ≡ Some (forwarder t c n)
  agent_is n h =
      finds (λ (g : Forwarder). g.address.0 == n.address.0) (agents_of t c) (forwarder t c n) (is_mapped (forwarder t c) t.nodes n h) (eq-eqb n.address.0 n.address.0 refl)
      (λ g in_g passes.
      let from = mapped_is (forwarder t c) t.nodes g in_g in
      let at : from.0.address.0 ≡ n.address.0 = ap (λ (f : Forwarder). f.address.0) from.2 ∙ eqb-true g.address.0 n.address.0 passes in
      sym from.2 ∙ ap (forwarder t c) (one_node_at t c v from.0 n from.1 h at))
