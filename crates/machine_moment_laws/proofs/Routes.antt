-- The routes that the agent of a node that stands has of the common part.
use Rattle.std.specs.Prelude.{◌+◌, ◌<◌, ◌≡◌, ◌≤◌, ◌==◌, ◌⊎◌, ℕ, suc, Bool, List, ◌∷◌, map, true, false}
use Rattle.std.specs.FinMap.{entries, from_entries, get}
use Rattle.std.specs.List.{flat_map}
use Rattle.std.specs.declared.option.Option.{Option}
use Rattle.std.specs.declared.option.Option.TheVariants.{Some}
use Rattle.std.proofs.Common.{ap, arith, inl, inr, refl, subst, sym, ◌∙◌}
use Rattle.std.proofs.lemmas.Bool.{eq-eqb, true≢false}
use Rattle.ov_types.specs.Keys.{row_key_cmp}
use Rattle.ov_types.specs.Prefix.{Block}
use Rattle.ov_types.specs.declared.numbers.InstanceId.{InstanceId}
use Rattle.ov_types.specs.declared.prefix.Addr.{Addr}
use Rattle.ov_types.specs.declared.rows.Entry.{Entry as RouteEntry}
use Rattle.ov_types.specs.declared.rows.TableRow.{TableRow}
use Rattle.config_types.specs.declared.topology.Node.{Node}
use Rattle.schedule_script.specs.ConfigCheck.Checked.{Checked}
use Rattle.transform_model.specs.Compiled.{route_of}
use Rattle.node_laws.specs.NodeModel.Agent as agent
use Rattle.node_laws.specs.NodeModel.Agent.{as_hop, first_some, needed_by, slice_in_use}
use Rattle.node_laws.specs.NodeModel.Keys.{Row}
use Rattle.node_laws.specs.NodeModel.Maps.{Map}
use Rattle.node_laws.specs.NodeModel.Members.{Member}
use Rattle.node_laws.specs.NodeModel.Reaching.{Side, sides}
use Rattle.node_laws.specs.NodeModel.Uses.{is_hop}
use Rattle.node_laws.specs.NodeModel.Values.{Entry, Label, Object, Route, Value}
use Rattle.node_laws.specs.NodeModel.Wants.{slice}
use Rattle.node_laws.proofs.NodeModel.Heard.{route_is, row_exact, row_total}
use Rattle.node_laws.proofs.NodeModel.Members.{any_in, from_entry, from_flat_map, from_map, get_member}
use Rattle.node_laws.proofs.NodeModel.Objects.{is_hop-hop}
use Rattle.node_laws.proofs.NodeModel.Orders.{prefix_exact, prefix_total}
use Rattle.machine_model.specs.Events.{after}
use Rattle.machine_model.specs.Moments.{Each, nodes}
use Rattle.machine_model.specs.Network.{agent_holdings, sessions_of, start}
use Rattle.machine_model.specs.Session.{Agent, Controller, Role, Session}
use Rattle.machine_model.specs.Setup.{Name, Setup, opening}
use Rattle.machine_laws.specs.Compiled.{Attachment, compiled_table, row_of, rows_in, table_rows}
use Rattle.machine_laws.specs.Goal.{role_of}
use Rattle.machine_laws.specs.Headline.{IsWritten}
use Rattle.machine_laws.proofs.TableRows.{HostRow, SubnetRow, row_kind}
use Rattle.machine_laws.proofs.Views.{views}
use Rattle.machine_moment_laws.specs.Common.{ChangesHands, HasCommonRows, WhatIsCommonStays, common, placed, rows_in_common, standing}
use Rattle.machine_moment_laws.specs.Windows.{AtMomentsOfWindows}
use Rattle.machine_moment_laws.proofs.Above.{needed_above}
use Rattle.machine_moment_laws.proofs.Here.{Here}
use Rattle.machine_moment_laws.proofs.HopRows.{hop_host_row, subnet_row}
use Rattle.machine_moment_laws.proofs.Sides.{ordered}
use Rattle.node_laws.proofs.NodeModel.Objects.{side_use}
use Rattle.machine_moment_laws.proofs.CommonInUse.{in_use, is_agent, slice_had}
use Rattle.machine_moment_laws.proofs.CommonLasting.{holds_kept, some_kept, stood_kept}
use Rattle.machine_moment_laws.proofs.CommonMoments.{all_are_written, every_moment, first_one, others}
use Rattle.machine_moment_laws.proofs.OfSome.{AreSomeTo}
use Rattle.machine_moment_laws.proofs.Rows.{labels_above, lists_above}
use Rattle.machine_moment_laws.proofs.Says.{HoldsTo, Says, SaysBy, some_is}
use Rattle.machine_moment_laws.proofs.Static.{LeadsTo, network_row}
use Rattle.machine_moment_laws.proofs.Stood.{HoldStood, EntryStood, RowStood}

abbrev pub hop_of : TableRow → RouteEntry
hop_of r = record { next_hop = r.next_hop; label = r.label }

-- ---- a compiled route of an instance that is needed
pub record IsCompiledIn (feed : Map) (all_needed : List InstanceId) (i : InstanceId) (prefix : Block) (hop : RouteEntry) : Type 0 where
  pub needed : Member i all_needed
  pub row : TableRow
  pub kind : HostRow feed i prefix row ⊎ SubnetRow feed i prefix row
  pub hop_is : hop_of row ≡ hop

abbrev pub route_at : InstanceId → Block → RouteEntry → (InstanceId × Block) × RouteEntry
route_at i prefix hop = ((i, prefix), hop)

abbrev pub routes_in : Map → List InstanceId → List ((InstanceId × Block) × RouteEntry)
routes_in feed all_needed = entries (from_entries {R = row_key_cmp} (map route_of (flat_map (rows_in feed) all_needed)))

pub compiled_in : (feed : Map) (all_needed : List InstanceId) (i : InstanceId) (prefix : Block) (hop : RouteEntry) → Member (route_at i prefix hop) (routes_in feed all_needed) → IsCompiledIn feed all_needed i prefix hop
compiled_in feed all_needed i prefix hop m =
    let all = flat_map (rows_in feed) all_needed in
    let q = from_map route_of (route_at i prefix hop) all (from_entry row_total row_exact (i, prefix) hop (map route_of all) (get_member row_total (from_entries {R = row_key_cmp} (map route_of all)) (i, prefix) hop m)) in
    let j = from_flat_map (rows_in feed) q.0 all_needed q.1 in
    let e = from_map (λ (e : Block × TableRow). ((j.0, e.0), e.1)) q.0 (entries (compiled_table feed j.0)) j.2 in
    let there : Member (e.0.0, e.0.1) (table_rows feed j.0) = from_entry prefix_total prefix_exact e.0.0 e.0.1 (table_rows feed j.0) (get_member prefix_total (compiled_table feed j.0) e.0.0 e.0.1 e.1) in
    let at : route_of ((j.0, e.0.0), e.0.1) ≡ route_at i prefix hop = ap route_of e.2 ∙ q.2 in
    let kind = row_kind feed j.0 e.0.0 e.0.1 there in
    record {
      needed = subst (λ (i : InstanceId). Member i all_needed) (ap (λ (r : (InstanceId × Block) × RouteEntry). r.0.0) at) j.1;
      row = e.0.1;
      kind = subst (λ (r : (InstanceId × Block) × RouteEntry). HostRow feed r.0.0 r.0.1 e.0.1 ⊎ SubnetRow feed r.0.0 r.0.1 e.0.1) at kind;
      hop_is = ap (λ (r : (InstanceId × Block) × RouteEntry). r.1) at;
    }

abbrev pub IsCompiled : List Checked → Addr → InstanceId → Block → RouteEntry → Type 0
IsCompiled cs address i prefix hop = IsCompiledIn (common cs) (needed_by (slice (placed cs) address)) i prefix hop

pub compiled_is : (cs : List Checked) (address : Addr) (i : InstanceId) (prefix : Block) (hop : RouteEntry) → Member (route_at i prefix hop) (rows_in_common cs address).routes → IsCompiled cs address i prefix hop
compiled_is cs address i prefix hop m = compiled_in (common cs) (needed_by (slice (placed cs) address)) i prefix hop m

module _ (b : Checked) (ds : List Checked) (written : (c : Checked) → Member c (b ∷ ds) → IsWritten (opening c)) where
  abbrev cs : List Checked
  cs = b ∷ ds

  abbrev M : Map
  M = common cs

  abbrev W : Map
  W = placed cs

  module _ (r : ℕ) (x : Setup) (ss : List Session) (here : Here b ds written x (map nodes ss)) (lasting_stays : Each (HoldsTo b ds written r) ss) (some : Each (AreSomeTo cs r) ss) (st : Each (HoldStood cs b.topology.asn r) ss) (n : Node) (stays : Member n (standing cs)) where
    abbrev held : agent.Holdings
    held = agent_holdings x n.name (views (sessions_of n.name ss))

    -- a route that is said, and that leads nowhere else, is there
    pub route_there : 5 ≤ r → (i : InstanceId) (prefix : Block) (hop : RouteEntry) → Member i (needed_by (slice W n.address)) → SaysBy b ds written r Controller Agent n.name n.name (Row i prefix)
        → ((h : RouteEntry) → RowStood cs i prefix h.next_hop h.label → h ≡ hop) → Member (route_at i prefix hop) (agent.routes held)
    route_there rank i prefix hop needed says leads =
        let u = in_use b ds written r x ss here lasting_stays some st n stays (two r rank) in
        let s = u.session in
        let near_is : s.near.role ≡ Agent = u.to.near_role ∙ ap (role_of x) u.to.name ∙ is_agent b ds written r x ss here lasting_stays some st n stays in
        let said : Says b ds written r (s.far.name, s.far.role) (s.near.name, s.near.role) (Row i prefix) =
        subst (λ (q : Role). SaysBy b ds written r q s.near.role s.far.name s.near.name (Row i prefix)) (sym u.control)
        (subst (λ (q : Role). SaysBy b ds written r Controller q s.far.name s.near.name (Row i prefix)) (sym near_is)
        (subst (λ (m : Name). SaysBy b ds written r Controller Agent s.far.name m (Row i prefix)) (sym u.to.name) says)) in
        let v = some_is (get s.near.held (Row i prefix)) (u.to.held u.lasts_on (Row i prefix) said) in
        let e : get s.near.held (Row i prefix) ≡ Some (Entry hop) = v.1 ∙ ap Some (as_entry s v.0 (u.to.told (Row i prefix) v.0 v.1 rank)) in
        let from : agent.route_from held i prefix ≡ Some hop =
        ap (λ (h : agent.Holdings). agent.route_from h i prefix) u.holdings_are
        ∙ ap (λ (o : Option Value). first_some (as_hop o) (agent.route_from u.rest i prefix)) e in
        let there = needed_above (slice W n.address) (slice_in_use held) (slice_had b ds written r x ss here lasting_stays some st n stays (two r rank)) i needed in
        let is_needed : agent.is_needed held i ≡ true = any_in (λ (n : InstanceId). n.0 == i.0) i (needed_by (slice_in_use held)) there (eq-eqb i.0 i.0 refl) in
        (route_is held i prefix hop).1 (is_needed, from)
      where
        two : (r : ℕ) → 5 ≤ r → 2 ≤ r
        two r h = omega (arith, h)

        as_entry : (s : Session) (v : Value) → EntryStood cs b.topology.asn (s.far.name, s.far.role) (s.near.name, s.near.role) (Row i prefix) v → v ≡ Entry hop
        as_entry s (Entry h) e = ap Entry (leads h e)
        as_entry s (Object o) e = absurd e
        as_entry s (Route o) e = absurd e
        as_entry s (Label o) e = absurd e

    -- ---- routes of networks
    pub host_hop : (a : Attachment) (row : TableRow) (hop h : RouteEntry) → row_of a ≡ row → hop_of row ≡ hop → LeadsTo b ds written a h.next_hop h.label → h ≡ hop
    host_hop a row hop h is e q = (λ i. record { next_hop = q.hop_is i; label = q.label_is i }) ∙ ap hop_of is ∙ e

    pub network_route_there : 5 ≤ r → (i : InstanceId) (prefix : Block) (hop : RouteEntry) → is_hop i ≡ false → Member (route_at i prefix hop) (rows_in_common cs n.address).routes → (ChangesHands cs i prefix → ⊥) → Member (route_at i prefix hop) (agent.routes held)
    network_route_there rank i prefix hop net m keeps = by (compiled_is cs n.address i prefix hop m)
      where
        by : IsCompiled cs n.address i prefix hop → Member (route_at i prefix hop) (agent.routes held)
        by c = elim c.kind as (λ _. Member (route_at i prefix hop) (agent.routes held)) [
          | inl q ↦
              route_there rank i prefix hop c.needed
              (inl (record { rank = rank; needed = record { node = n; stays = stays; name_is = refl; needed = c.needed }; to = q.to; attached = q.attached; imported = q.imported; prefix_is = q.prefix }))
              (λ h e. host_hop q.to c.row hop h q.row c.hop_is
              (network_row b ds written i net q.to q.attached q.imported (subst (λ (p : Block). ChangesHands cs i p → ⊥) (sym q.prefix) keeps) h.next_hop h.label (subst (λ (p : Block). RowStood cs i p h.next_hop h.label) (sym q.prefix) e)))
          | inr q ↦ absurd (true≢false (sym (ap is_hop (sym q.at) ∙ is_hop-hop q.side.chain.number _) ∙ net))
        ]

    -- ---- all routes
    pub all_there : 5 ≤ r → (i : InstanceId) (prefix : Block) (hop : RouteEntry) → ((row : TableRow) (t : SubnetRow M i prefix row) → 5 + suc t.d ≤ r) → Member (route_at i prefix hop) (rows_in_common cs n.address).routes → (ChangesHands cs i prefix → ⊥) → Member (route_at i prefix hop) (agent.routes held)
    all_there five i prefix hop last m keeps = by_kind (is_hop i) refl
      where
        c : IsCompiled cs n.address i prefix hop
        c = compiled_is cs n.address i prefix hop m

        by_kind : (a : Bool) → is_hop i ≡ a → Member (route_at i prefix hop) (agent.routes held)
        by_kind false net = network_route_there five i prefix hop net m keeps
        by_kind true is = elim c.kind as (λ _. Member (route_at i prefix hop) (agent.routes held)) [
          | inl q ↦
              route_there five i prefix hop c.needed
              (inl (record { rank = five; needed = record { node = n; stays = stays; name_is = refl; needed = c.needed }; to = q.to; attached = q.attached; imported = q.imported; prefix_is = q.prefix }))
              (λ h e. host_hop q.to c.row hop h q.row c.hop_is (hop_host_row b ds written i is q.to q.attached q.imported h.next_hop h.label (subst (λ (p : Block). RowStood cs i p h.next_hop h.label) (sym q.prefix) e)))
          | inr q ↦
              route_there five i prefix hop c.needed
              (inr (record { needed = record { node = n; stays = stays; name_is = refl; needed = c.needed }; row = c.row; led = q; rank = last c.row q }))
              (λ h e. host_hop q.to c.row hop h q.row c.hop_is (subnet_row b ds written i prefix c.row q is h.next_hop h.label e))
        ]

    -- so it has all rows
    pub rows_there : (most : ℕ) → ((s : Side) → Member s (sides M) → s.chain.services ≤ most) → most + 5 ≤ r → HasCommonRows cs n.address (agent.rows held)
    rows_there most bound rank =
        let had = slice_had b ds written r x ss here lasting_stays some st n stays (two most r rank) in
        record {
          labels = labels_above (slice W n.address) (slice_in_use held) had;
          acls = lists_above (slice W n.address) (slice_in_use held) had;
          routes = λ r' m keeps. all_there (five most r rank) r'.0.0 r'.0.1 r'.1 (λ row t. last t.d t.side.chain.services r t.within (bound t.side t.of_use) rank) m keeps;
        }
      where
        two : (most r : ℕ) → most + 5 ≤ r → 2 ≤ r
        two most r h = omega (arith, h)

        five : (most r : ℕ) → most + 5 ≤ r → 5 ≤ r
        five most r h = omega (arith, h)

        last : (d k r : ℕ) → d < k → k ≤ most → most + 5 ≤ r → 5 + suc d ≤ r
        last d k r g h e = omega (arith, g, h, e)

fifteen : 15 + 5 ≤ 21
fifteen = omega arith

pub what_is_common_stays : AtMomentsOfWindows WhatIsCommonStays
what_is_common_stays size positive x written before asked begins es window form n stays =
    let all = every_moment size positive x written before asked begins es window form in
    let w = after size (after size (start x) before) es in
    let b = first_one size positive x written before asked begins es window form in
    let ds = others size positive x written before asked begins es window form in
    let valid = all_are_written size positive x written before asked begins es window form in
    let to = holds_kept b ds valid 21 w.sessions all.1 in
    let some = some_kept b ds valid 21 w.sessions all.1 in
    let st = stood_kept b ds valid 21 w.sessions all.1 in
    rows_there b ds valid 21 w.setup w.sessions all.0 to some st n stays 15 (λ s m. (ordered b ds valid).short s.chain (side_use (common (b ∷ ds)) s m)) fifteen
