-- At every moment of a window agents lead an address on where the common part leads it.
use Rattle.std.specs.Prelude.{◌≡◌, ◌==◌, ◌++◌, ℕ, zero, suc, List, [], ◌∷◌, true, false, cond}
use Rattle.std.specs.List.{Contains, filter_map, find}
use Rattle.std.specs.Option.{option_map}
use Rattle.std.specs.declared.option.Option.TheVariants.{None, Some}
use Rattle.std.proofs.Common.{ap, append-nil, append_assoc, arith, refl, subst, sym, ◌∙◌}
use Rattle.std.proofs.lemmas.Bool.{eq-eqb, eqb-true}
use Rattle.std.proofs.lemmas.Option.{same_Some}
use Rattle.ov_types.specs.Prefix.{Block, contains}
use Rattle.ov_types.specs.Routing.{longest}
use Rattle.ov_types.specs.declared.numbers.InstanceId.{InstanceId}
use Rattle.ov_types.specs.declared.numbers.Label.{Label as LabelNo}
use Rattle.ov_types.specs.declared.numbers.ServiceNo.{ServiceNo}
use Rattle.ov_types.specs.declared.objects.LowKey.{LowKey}
use Rattle.ov_types.specs.declared.objects.LowKey.TheVariants as key
use Rattle.ov_types.specs.declared.objects.LowValue.{LowValue}
use Rattle.ov_types.specs.declared.objects.LowValue.TheVariants as low
use Rattle.ov_types.specs.declared.packet.Outcome.{Outcome}
use Rattle.ov_types.specs.declared.packet.Outcome.TheVariants.{Delivered}
use Rattle.ov_types.specs.declared.prefix.Addr.{Addr}
use Rattle.ov_types.specs.declared.rows.AgentRows.{AgentRows}
use Rattle.ov_types.specs.declared.rows.Attached.{Attached}
use Rattle.ov_types.specs.declared.rows.Attached.TheVariants.{Circuit, Port}
use Rattle.ov_types.specs.declared.rows.Entry.{Entry as RouteEntry}
use Rattle.route_targets.specs.Forwarding.{Forwarder, agent_at, attached as under, followed, handed, looked_up, route_in, visited, walk}
use Rattle.route_targets.specs.Numbers.{circuit_instance_of, other_side_of}
use Rattle.config_types.specs.declared.topology.Node.{Node}
use Rattle.schedule_script.specs.ConfigCheck.Checked.{Checked}
use Rattle.reach_plain.proofs.Found.{finds}
use Rattle.reach_plain.proofs.Kept.{valid}
use Rattle.transform_model.proofs.OneFound.{only_longest}
use Rattle.transform_model.proofs.Valid.{one_node_at}
use Rattle.node_laws.specs.NodeModel.Agent as agent
use Rattle.node_laws.specs.NodeModel.Agent.{attached, slice_in_use}
use Rattle.node_laws.specs.NodeModel.Maps.{objects}
use Rattle.node_laws.specs.NodeModel.Members.{Member}
use Rattle.node_laws.specs.NodeModel.Values.{Object}
use Rattle.node_laws.proofs.NodeModel.Members.{contains_of, from_filter_map, from_map, in_filter_map, in_map, member_of, none_some}
use Rattle.node_laws.proofs.NodeModel.Objects.{object_of}
use Rattle.machine_model.specs.Events.{after, forwarders}
use Rattle.machine_model.specs.Events.{agent_rows as held_by_agent}
use Rattle.machine_model.specs.Network.{MachineState, start}
use Rattle.machine_model.specs.Setup.{checked}
use Rattle.machine_laws.specs.Headline.{IsWritten}
use Rattle.machine_moment_laws.specs.Arriving.{GoesTheCommonWay, LeadsInCommon, StandsNow, agent_at_node}
use Rattle.machine_moment_laws.specs.Common.{NothingElseLeads, WhatIsCommonStays, rows_at, rows_in_common, standing}
use Rattle.machine_moment_laws.specs.Windows.{AtMomentsOfWindows, configurations}
use Rattle.machine_moment_laws.proofs.Here.{stands_among}
use Rattle.machine_moment_laws.proofs.LedAlone.{nothing_else_leads}
use Rattle.machine_moment_laws.proofs.CommonMoments.{all_are_written, every_moment, first_one, others}
use Rattle.machine_moment_laws.proofs.Routes.{what_is_common_stays}

abbrev Route : Type 0
Route = (InstanceId × Block) × RouteEntry

-- ---- where a lookup leads
here : (i : InstanceId) (r : Route) → r.0.0 ≡ i → route_in i r ≡ Some (r.0.1, r.1)
here i r e =
    let hit : (r.0.0.0 == i.0) ≡ true = eq-eqb r.0.0.0 i.0 (ap (λ (x : InstanceId). x.0) e) in
    rw hit refl

of_here : (i : InstanceId) (r : Route) (s : Block × RouteEntry) → route_in i r ≡ Some s → (r.0.0 ≡ i) × ((r.0.1, r.1) ≡ s)
of_here i r s e =
    elim (r.0.0.0 == i.0) as (λ b. (r.0.0.0 == i.0) ≡ b → cond b (Some (r.0.1, r.1)) None ≡ Some s → (r.0.0 ≡ i) × ((r.0.1, r.1) ≡ s)) [
      | true ↦ λ is e. ((λ k. record { 0 = eqb-true r.0.0.0 i.0 is k }), same_Some (r.0.1, r.1) s e)
      | false ↦ λ is e. absurd (none_some s e)
    ] refl e

-- a route of the instance that alone contains the address is the one that is found
leads : (rows : AgentRows) (i : InstanceId) (d : ℕ) (r : Route) → Member r rows.routes → r.0.0 ≡ i → contains r.0.1 d ≡ true
    → ((s : Route) → Member s rows.routes → s.0.0 ≡ r.0.0 → contains s.0.1 d ≡ true → s ≡ r) → looked_up rows i d ≡ Some r.1
leads rows i d r there at holds alone =
    let routes : List (Block × RouteEntry) = filter_map (route_in i) rows.routes in
    let in_routes : Contains routes (r.0.1, r.1) = contains_of routes (r.0.1, r.1) (in_filter_map (route_in i) r (r.0.1, r.1) rows.routes there (here i r at)) in
    let found : longest d routes ≡ Some (r.0.1, r.1) =
    only_longest d routes (r.0.1, r.1) in_routes holds (λ s in_s hits.
    let from = from_filter_map (route_in i) s rows.routes (member_of routes s in_s) in
    let is = of_here i from.0 s from.2 in
    let one : from.0 ≡ r = alone from.0 from.1 (is.0 ∙ sym at) (subst (λ (x : Block × RouteEntry). contains x.0 d ≡ true) (sym is.1) hits) in
    sym is.1 ∙ ap (λ (x : Route). (x.0.1, x.1)) one) in
    ap (option_map (λ (x : Block × RouteEntry). x.1)) found

-- ---- what stands under a label
pub one_object : (h : agent.Holdings) (k : LowKey) (v w : LowValue) → Member (k, v) (slice_in_use h) → Member (k, w) (slice_in_use h) → v ≡ w
one_object [] k v w in_v in_w = absurd in_v
one_object (s ∷ h) k v w in_v in_w =
    elim s.is_up as (λ b. Member (k, v) (cond b (objects s.map) (slice_in_use h)) → Member (k, w) (cond b (objects s.map) (slice_in_use h)) → v ≡ w) [
      | true ↦ λ in_v in_w.
          let same : Object v ≡ Object w = same_Some (Object v) (Object w) (sym (object_of s.map k v in_v) ∙ object_of s.map k w in_w) in
          cc
      | false ↦ λ in_v in_w. one_object h k v w in_v in_w
    ] in_v in_w

pub key_of : (k : LowKey) (v : LowValue) (e : LabelNo × Attached) → attached k v ≡ Some e → k ≡ key.Attach e.0.0
key_of (key.Attach n) (low.AttachPort p i x d) e h = ap (λ (e : LabelNo × Attached). key.Attach e.0.0) (same_Some (record { 0 = n }, Port p i) e h)
key_of (key.Attach n) (low.AttachCircuit c s d) e h = ap (λ (e : LabelNo × Attached). key.Attach e.0.0) (same_Some (record { 0 = n }, Circuit c s) e h)
key_of (key.Attach n) (low.Instance is) e h = absurd (none_some e h)
key_of (key.Attach n) (low.Acl s r) e h = absurd (none_some e h)
key_of (key.Attach n) (low.ChainUse a b c d f) e h = absurd (none_some e h)
key_of (key.Instance n) v e h = absurd (none_some e h)
key_of (key.Acl a b) v e h = absurd (none_some e h)
key_of (key.ChainUse u) v e h = absurd (none_some e h)

pub labelled : (h : agent.Holdings) (label : LabelNo) (what : Attached) → Member (label, what) (agent.rows h).labels → under (agent.rows h) label ≡ Some what
labelled h label what there =
    let labels : List (LabelNo × Attached) = (agent.rows h).labels in
    let slice : List (LowKey × LowValue) = slice_in_use h in
    let mine = from_filter_map (λ (o : LowKey × LowValue). attached o.0 o.1) (label, what) slice there in
    let found : find (λ (e : LabelNo × Attached). e.0.0 == label.0) labels ≡ Some (label, what) =
    finds (λ (e : LabelNo × Attached). e.0.0 == label.0) labels (label, what) (contains_of labels (label, what) there) (eq-eqb label.0 label.0 refl)
    (λ e in_e passes.
    let from = from_filter_map (λ (o : LowKey × LowValue). attached o.0 o.1) e slice (member_of labels e in_e) in
    let number : e.0.0 ≡ label.0 = eqb-true e.0.0 label.0 passes in
    let keys : from.0.0 ≡ mine.0.0 = key_of from.0.0 from.0.1 e from.2 ∙ ap key.Attach number ∙ sym (key_of mine.0.0 mine.0.1 (label, what) mine.2) in
    let values : from.0.1 ≡ mine.0.1 = one_object h mine.0.0 from.0.1 mine.0.1 (subst (λ (k : LowKey). Member (k, from.0.1) slice) keys from.1) mine.1 in
    let both : Some e ≡ Some (label, what) = sym from.2 ∙ (λ i. attached (keys i) (values i)) ∙ mine.2 in
    same_Some e (label, what) both) in
    ap (option_map (λ (e : LabelNo × Attached). e.1)) found

-- ---- the agent at an address
agent_is : (w : MachineState) → IsWritten w.setup → (n : Node) → Member n w.setup.topology.nodes → (address : Addr) → n.address ≡ address → agent_at (forwarders w) address ≡ Some (agent_at_node w n)
agent_is w written n there address at =
    let nodes : List Node = w.setup.topology.nodes in
    let f : Node → Forwarder = agent_at_node w in
    let ok = valid w.setup.topology w.setup.config written.valid in
    finds (λ (g : Forwarder). g.address.0 == address.0) (forwarders w) (f n) (contains_of (forwarders w) (f n) (in_map f n nodes there))
    (eq-eqb n.address.0 address.0 (ap (λ (a : Addr). a.0) at))
    (λ g in_g passes.
    let from = from_map f g nodes (member_of (forwarders w) g in_g) in
    let same : from.0.address.0 ≡ n.address.0 = ap (λ (f : Forwarder). f.address.0) from.2 ∙ eqb-true g.address.0 address.0 passes ∙ sym (ap (λ (a : Addr). a.0) at) in
    sym from.2 ∙ ap f (one_node_at w.setup.topology w.setup.config ok from.0 n (contains_of nodes from.0 from.1) (contains_of nodes n there) same))

-- ---- the walk
-- where the common part leads an address, the agents do
abbrev pub LabelsStay : List Checked → MachineState → Type 0
LabelsStay cs w = (n : Node) → Member n (standing cs) → (l : LabelNo × Attached) → Member l (rows_in_common cs n.address).labels → Member l (rows_at w n).labels

module _ (cs : List Checked) (w : MachineState) (written : IsWritten w.setup) (among : StandsNow cs w) (labels : LabelsStay cs w) (alone : NothingElseLeads cs w) where
  pub one_step : (n next : Node) (i : InstanceId) (d : ℕ) (what : Attached) (left : ℕ) (before : List ServiceNo) → (h : LeadsInCommon cs n i d next what) → Member h.route (rows_at w n).routes
      → walk (forwarders w) d (suc left) (agent_at_node w n) before i ≡ visited (walk (forwarders w) d left (agent_at_node w next)) before (Some what)
  one_step n next i d what left before h there =
      let r : Route = h.route in
      let again : Forwarder → List ServiceNo → InstanceId → Outcome = walk (forwarders w) d left in
      let found : looked_up (rows_at w n) i d ≡ Some r.1 = leads (rows_at w n) i d r there h.instance h.holds (λ s in_s same hits. (alone n h.stays).alone r s d h.is_route h.in_hand in_s same h.holds hits) in
      let next_is : agent_at (forwarders w) r.1.next_hop ≡ Some (agent_at_node w next) = agent_is w written next (among next h.next_stays) r.1.next_hop h.hop in
      let label_is : under (rows_at w next) r.1.label ≡ Some what = labelled (held_by_agent w next.name) r.1.label what (labels next h.next_stays (r.1.label, what) h.label) in
      ap (followed again (forwarders w) before) found ∙ ap (handed again before r.1.label) next_is ∙ ap (visited (again (agent_at_node w next)) before) label_is

module _ (cs : List Checked) (w : MachineState) (written : IsWritten w.setup) (among : StandsNow cs w) (stays : WhatIsCommonStays cs w) (alone : NothingElseLeads cs w) where
  common_step : (n next : Node) (i : InstanceId) (d : ℕ) (what : Attached) (left : ℕ) (before : List ServiceNo) → LeadsInCommon cs n i d next what
      → walk (forwarders w) d (suc left) (agent_at_node w n) before i ≡ visited (walk (forwarders w) d left (agent_at_node w next)) before (Some what)
  common_step n next i d what left before h =
      one_step cs w written among (λ n m. (stays n m).labels) alone n next i d what left before h ((stays n h.stays).routes h.route h.is_route h.in_hand)

  pub goes_the_common_way : GoesTheCommonWay cs w
  goes_the_common_way n i d services q way zero before few = absurd (omega arith)
  goes_the_common_way n i d [] q way (suc left) before few =
      common_step n way.0 i d (Port q way.1) left before way.2 ∙ ap (Delivered q) (sym (append-nil before))
  goes_the_common_way n i d (s ∷ services) q way (suc left) before few =
      common_step n way.0 i d (Circuit way.1 s) left before way.2
      ∙ goes_the_common_way way.0 (circuit_instance_of (other_side_of way.1)) d services q way.3 left (before ++ s ∷ []) (omega arith)
      ∙ ap (Delivered q) (append_assoc before (s ∷ []) services)

pub present_stands : AtMomentsOfWindows (λ cs w. IsWritten w.setup × StandsNow cs w)
present_stands size positive x written before asked begins es window form =
    let all = every_moment size positive x written before asked begins es window form in
    let w = after size (after size (start x) before) es in
    let b = first_one size positive x written before asked begins es window form in
    let ds = others size positive x written before asked begins es window form in
    let valid = all_are_written size positive x written before asked begins es window form in
    (all.0.is_written, λ n stays. stands_among b ds valid n stays (checked w.setup) all.0.among)

pub go_the_common_way : AtMomentsOfWindows GoesTheCommonWay
go_the_common_way size positive x written before asked begins es window form =
    let now = present_stands size positive x written before asked begins es window form in
    let w = after size (after size (start x) before) es in
    let cs = configurations size (after size (start x) before) es in
    goes_the_common_way cs w now.0 now.1 (what_is_common_stays size positive x written before asked begins es window form) (nothing_else_leads size positive x written before asked begins es window form)
