-- A packet whose source port is common starts at the agent of the compute node that the port is attached at.
use Rattle.std.specs.Prelude.{◌≡◌, ◌≤◌, ℕ, List, [], ◌∷◌, map, true, false, cond}
use Rattle.std.specs.FinMap.{empty, get}
use Rattle.std.specs.List.{AllByRecursion}
use Rattle.std.specs.Option.{option_map, unwrap_or}
use Rattle.std.specs.Cmp.Lexicographic.{bytes_decides}
use Rattle.std.specs.declared.option.Option.{Option}
use Rattle.std.specs.declared.option.Option.TheVariants.{None, Some}
use Rattle.std.proofs.Common.{ap, arith, inl, inr, refl, subst, sym, ◌∙◌}
use Rattle.std.proofs.lemmas.Option.{same_Some}
use Rattle.ov_types.specs.First.{first_of, same_name, ◌<|>◌}
use Rattle.ov_types.specs.declared.numbers.InstanceId.{InstanceId}
use Rattle.ov_types.specs.declared.numbers.Label.{Label as LabelNo}
use Rattle.ov_types.specs.declared.objects.LowKey.{LowKey}
use Rattle.ov_types.specs.declared.objects.LowKey.TheVariants as key
use Rattle.ov_types.specs.declared.objects.LowValue.{LowValue}
use Rattle.ov_types.specs.declared.packet.Packet.{Packet}
use Rattle.ov_types.specs.declared.prefix.Addr.{Addr}
use Rattle.ov_types.specs.declared.rows.Attached.{Attached}
use Rattle.ov_types.specs.declared.rows.Attached.TheVariants.{Port}
use Rattle.route_targets.specs.Forwarding.{Forwarder, as_port, attached as under, source_at}
use Rattle.route_targets.specs.Numbers.{port_label_of}
use Rattle.config_types.specs.declared.topology.Node.{Node}
use Rattle.schedule_script.specs.ConfigCheck.Checked.{Checked}
use Rattle.schedule_script.specs.ConfigCheck.Finding.{node_named}
use Rattle.node_laws.specs.NodeModel.Agent as agent
use Rattle.node_laws.specs.NodeModel.Agent.{attached, slice_in_use}
use Rattle.node_laws.specs.NodeModel.Keys.{Low, key_cmp}
use Rattle.node_laws.specs.NodeModel.Maps.{Map, as_object, object, objects}
use Rattle.node_laws.specs.NodeModel.Members.{Member}
use Rattle.node_laws.specs.NodeModel.Values.{Object}
use Rattle.node_laws.specs.NodeModel.Wants.{IsAttachedAt, slice}
use Rattle.node_laws.proofs.NodeModel.Members.{from_filter_map, from_map, in_map, none_some}
use Rattle.node_laws.proofs.NodeModel.Objects.{object_of}
use Rattle.node_laws.proofs.NodeModel.Wanted.{slice_is}
use Rattle.machine_model.specs.Events.{after, forwarders}
use Rattle.machine_model.specs.Events.{agent_rows as held_by_agent}
use Rattle.machine_model.specs.Moments.{Each, nodes}
use Rattle.machine_model.specs.Network.{MachineState, agent_holdings, heard_from, sessions_of, start}
use Rattle.machine_model.specs.Session.{Agent, Controller, Session, is_up_phase}
use Rattle.machine_model.specs.Setup.{Name, Setup, checked, low_in, opening}
use Rattle.machine_model.proofs.Asking.{names_of_nodes}
use Rattle.machine_model.proofs.Changing.{found_alone}
use Rattle.machine_model.proofs.Feed.{objects-low}
use Rattle.machine_model.proofs.OvSync.KeyedLaws.{empty_values}
use Rattle.machine_model.proofs.Twins.{each_weaker}
use Rattle.machine_laws.specs.Goal.{role_of}
use Rattle.machine_laws.specs.Headline.{IsWritten}
use Rattle.machine_laws.proofs.Found.{attached_in}
use Rattle.machine_laws.proofs.Placing.{agent_named}
use Rattle.machine_laws.proofs.Views.{views}
use Rattle.machine_moment_laws.specs.Arriving.{StartsWhereCommon, agent_at_node}
use Rattle.machine_moment_laws.specs.Common.{placed, rows_at, standing}
use Rattle.machine_moment_laws.specs.Windows.{AtMomentsOfWindows}
use Rattle.machine_moment_laws.proofs.Above.{at_placed}
use Rattle.machine_moment_laws.proofs.Arriving.{LabelsStay, key_of, labelled}
use Rattle.machine_moment_laws.proofs.Here.{Here, here_laid, here_sound, stands_among}
use Rattle.machine_moment_laws.proofs.CommonLasting.{holds_kept, some_kept, stood_kept}
use Rattle.machine_moment_laws.proofs.CommonMoments.{all_are_written, every_moment, first_one, others}
use Rattle.machine_moment_laws.proofs.OfSome.{AllOfSome, AreSomeTo, all_some, none_of_some}
use Rattle.machine_moment_laws.proofs.Placed.{placed_in}
use Rattle.machine_moment_laws.proofs.Routes.{what_is_common_stays}
use Rattle.machine_moment_laws.proofs.Says.{HoldsTo, Mine, mine}
use Rattle.machine_moment_laws.proofs.Static.{stood_name}
use Rattle.machine_moment_laws.proofs.Stood.{HoldStood, StoodAt}

-- ---- the first agent that has a port is the one that alone has it
abbrev Source : Type 0
Source = Forwarder × InstanceId

first_is : (p : Packet) (fs : List Forwarder) (s : Source) → Member s.0 fs → source_at p s.0 ≡ Some s → ((g : Forwarder) (t : Source) → Member g fs → source_at p g ≡ Some t → g ≡ s.0) → first_of (source_at p) fs ≡ Some s
first_is p [] s m e one = absurd m
first_is p (f ∷ fs) s m e one = by (source_at p f) refl (λ i. first_is p fs s i e (λ g t j. one g t (inr j))) m
  where
    by : (o : Option Source) → source_at p f ≡ o → (Member s.0 fs → first_of (source_at p) fs ≡ Some s) → Member s.0 (f ∷ fs) → (source_at p f <|> first_of (source_at p) fs) ≡ Some s
    by (Some t) is rest m =
        let same : f ≡ s.0 = one f t (inl refl) is in
        ap (λ (o : Option Source). o <|> first_of (source_at p) fs) (ap (source_at p) same ∙ e)
    by None is rest (inl at) = absurd (none_some s (sym is ∙ ap (source_at p) at ∙ e))
    by None is rest (inr m) = ap (λ (o : Option Source). o <|> first_of (source_at p) fs) is ∙ rest m

-- ---- what is heard from a node, for a fact of maps
module _ (P : Map → Type 0) (none : P empty) where
  heard_holds : (c : Name) (own : List Session) → Each (λ s. s.far.name ≡ c → P s.near.held) own → P (heard_from (views own) c).map
  heard_holds c [] h = none
  heard_holds c (s ∷ own) h =
      elim (same_name s.far.name c) as (λ b. same_name s.far.name c ≡ b → P (cond b (record { is_up = is_up_phase s.near.phase; map = s.near.held }) (heard_from (views own) c)).map) [
        | true ↦ λ e. h.0 ((bytes_decides s.far.name c).0 e)
        | false ↦ λ e. heard_holds c own h.1
      ] refl

  all_heard : (own : List Session) (ns : List Name) → ((c : Name) → Member c ns → Each (λ s. s.far.name ≡ c → P s.near.held) own) → AllByRecursion (λ h. P h.map) (map (heard_from (views own)) ns)
  all_heard own [] h = tt
  all_heard own (n ∷ ns) h = (heard_holds n own (h n (inl refl)), all_heard own ns (λ c m. h c (inr m)))

  from_slice : (hs : agent.Holdings) → AllByRecursion (λ h. P h.map) hs → (k : LowKey) (v : LowValue) → Member (k, v) (slice_in_use hs) → (f : Map) × P f × (get f (Low k) ≡ Some (Object v))
  from_slice [] a k v m = absurd m
  from_slice (h ∷ hs) a k v m =
      elim h.is_up as (λ b. Member (k, v) (cond b (objects h.map) (slice_in_use hs)) → (f : Map) × P f × (get f (Low k) ≡ Some (Object v))) [ true ↦ λ m. (h.map, a.0, object_of h.map k v m) | false ↦ λ m. from_slice hs a.1 k v m ] m

module _ (b : Checked) (ds : List Checked) (written : (c : Checked) → Member c (b ∷ ds) → IsWritten (opening c)) where
  abbrev cs : List Checked
  cs = b ∷ ds

  abbrev W : Map
  W = placed cs

  -- each object is that of a configuration, and what is attached is so where the node of this name stood
  abbrev IsTold : Name → Map → Type 0
  IsTold name f = AllOfSome cs f × ((l : ℕ) (v : LowValue) (a : Addr) → get f (Low (key.Attach l)) ≡ Some (Object v) → IsAttachedAt a v → StoodAt cs name a)

  none_told : (name : Name) → IsTold name empty
  none_told name = (none_of_some cs, λ l v a e at. absurd (empty_values key_cmp (λ k v. ⊥) (Low (key.Attach l)) (Object v) e))

  module _ (r : ℕ) (x : Setup) (ss : List Session) (here : Here b ds written x (map nodes ss)) (two : 2 ≤ r) (lasting_stays : Each (HoldsTo b ds written r) ss) (some : Each (AreSomeTo cs r) ss) (st : Each (HoldStood cs b.topology.asn r) ss) where
    module _ (m : Node) (there : Member m x.topology.nodes) where
      found : node_named x.topology m.name ≡ Some m
      found = found_alone m x.topology.nodes (names_of_nodes x.topology (here_sound b ds written x (map nodes ss) here).named.apart) there

      is_agent : role_of x m.name ≡ Agent
      is_agent = agent_named x (here_sound b ds written x (map nodes ss) here) here.fit.fit m.name m found

      listed : (c : Name) → Member c m.controllers → role_of x c ≡ Controller
      listed c i = (here_laid b ds written x (map nodes ss) here).listed m.name m found c i

      told_by : (c : Name) → role_of x c ≡ Controller → (s : Session) → Mine b ds written r x m.name s → s.far.name ≡ c → IsTold m.name s.near.held
      told_by c control s q is = (
        all_some cs r two (s.far.name, s.far.role) (s.near.name, s.near.role) s.near.held q.some,
        λ l v a e at. subst (λ (n : Name). StoodAt cs n a) q.name
            (q.told (Low (key.Attach l)) (Object v) e two (q.far_role ∙ ap (role_of x) is ∙ control) (q.near_role ∙ ap (role_of x) q.name ∙ is_agent) a at),
      )

      abbrev own : List Session
      own = sessions_of m.name ss

      held_told : AllByRecursion (λ h. IsTold m.name h.map) (agent_holdings x m.name (views own))
      held_told =
          subst (λ (o : Option Node). AllByRecursion (λ h. IsTold m.name h.map) (map (heard_from (views own)) (unwrap_or (option_map (λ (c : Node). c.controllers) o) []))) (sym found)
          (all_heard (IsTold m.name) (none_told m.name) own m.controllers
          (λ c i. each_weaker (Mine b ds written r x m.name) (λ s. s.far.name ≡ c → IsTold m.name s.near.held) (λ s q. told_by c (listed c i) s q) own (mine b ds written r x ss here lasting_stays some st m.name)))

      -- an object that is attached at a node that stands in all configurations is in use at that alone
      at_home : (n : Node) → Member n (standing cs) → (l : ℕ) (w v : LowValue) → Member (key.Attach l, w) (slice W n.address) → Member (key.Attach l, v) (slice_in_use (agent_holdings x m.name (views own))) → m.name ≡ n.name
      at_home n stays l w v placed_one m_has =
          let q = from_slice (IsTold m.name) (none_told m.name) (agent_holdings x m.name (views own)) held_told (key.Attach l) v m_has in
          let o = q.1.0 (Low (key.Attach l)) (Object v) q.2 in
          let c = o.0 in
          let k = (slice_is W n.address (key.Attach l) w).0 placed_one in
          let part = placed_in b ds c o.1 (key.Attach l) w (ap as_object (object_of W (key.Attach l) w k.0)) in
          let in_c : object (low_in c) (key.Attach l) ≡ Some v = ap as_object (object_of (low_in c) (key.Attach l) v (subst (λ (os : List (LowKey × LowValue)). Member (key.Attach l, v) os) (sym (objects-low (opening c))) o.2)) in
          let same : part.0 ≡ v = same_Some part.0 v (sym part.1 ∙ in_c) in
          stood_name b ds written n stays m.name (q.1.1 l v n.address q.2 (subst (IsAttachedAt n.address) same (at_placed n.address w part.0 k.1 part.2)))

-- what has a port has something under its label
under_port : (o : Option Attached) (f : Forwarder) (s : Source) → option_map (λ (i : InstanceId). (f, i)) (as_port o) ≡ Some s → (what : Attached) × (o ≡ Some what)
under_port (Some what) f s e = (what, refl)
under_port None f s e = absurd (none_some s e)

module _ (b : Checked) (ds : List Checked) (written : (c : Checked) → Member c (b ∷ ds) → IsWritten (opening c)) (w : MachineState) (here : Here b ds written w.setup (map nodes w.sessions)) (r : ℕ) (two : 2 ≤ r) (to : Each (HoldsTo b ds written r) w.sessions) (some : Each (AreSomeTo (b ∷ ds) r) w.sessions) (st : Each (HoldStood (b ∷ ds) b.topology.asn r) w.sessions) (stay : LabelsStay (b ∷ ds) w) where
  pub start_common : StartsWhereCommon (b ∷ ds) w
  start_common n from p h =
      let nodes_now : List Node = w.setup.topology.nodes in
      let f : Node → Forwarder = agent_at_node w in
      let label : LabelNo = port_label_of p.source in
      let n_there : Member n nodes_now = stands_among b ds written n h.stays (checked w.setup) here.among in
      let mine_label = stay n h.stays (label, Port p.source from) h.label in
      let has : source_at p (f n) ≡ Some (f n, from) = ap (λ (o : Option Attached). option_map (λ (i : InstanceId). (f n, i)) (as_port o)) (labelled (held_by_agent w n.name) label (Port p.source from) mine_label) in
      let ours = from_filter_map (λ (e : LowKey × LowValue). attached e.0 e.1) (label, Port p.source from) (slice (placed (b ∷ ds)) n.address) h.label in
      let our_key : ours.0.0 ≡ key.Attach label.0 = key_of ours.0.0 ours.0.1 (label, Port p.source from) ours.2 in
      let our_one : Member (key.Attach label.0, ours.0.1) (slice (placed (b ∷ ds)) n.address) = subst (λ (k : LowKey). Member (k, ours.0.1) (slice (placed (b ∷ ds)) n.address)) our_key ours.1 in
      first_is p (forwarders w) (f n, from) (in_map f n nodes_now n_there) has
      (λ g t in_g is.
      let m = from_map f g nodes_now in_g in
      let is_m : source_at p (f m.0) ≡ Some t = ap (source_at p) m.2 ∙ is in
      let what = under_port (under (rows_at w m.0) label) (f m.0) t is_m in
      let theirs = from_filter_map (λ (e : LowKey × LowValue). attached e.0 e.1) (label, what.0) (slice_in_use (held_by_agent w m.0.name)) (attached_in (rows_at w m.0) label what.0 what.1) in
      let their_key : theirs.0.0 ≡ key.Attach label.0 = key_of theirs.0.0 theirs.0.1 (label, what.0) theirs.2 in
      let names : m.0.name ≡ n.name =
      at_home b ds written r w.setup w.sessions here two to some st m.0 m.1 n h.stays label.0 ours.0.1 theirs.0.1 our_one
      (subst (λ (k : LowKey). Member (k, theirs.0.1) (slice_in_use (held_by_agent w m.0.name))) their_key theirs.1) in
      let one : m.0 ≡ n =
      same_Some m.0 n (sym (found b ds written r w.setup w.sessions here two to some st m.0 m.1) ∙ ap (node_named w.setup.topology) names ∙ found b ds written r w.setup w.sessions here two to some st n n_there) in
      sym m.2 ∙ ap f one)

two_of_five : 2 ≤ 5
two_of_five = omega arith

pub start_where_common : AtMomentsOfWindows StartsWhereCommon
start_where_common size positive x written before asked begins es window form =
    let all = every_moment size positive x written before asked begins es window form in
    let w = after size (after size (start x) before) es in
    let b = first_one size positive x written before asked begins es window form in
    let ds = others size positive x written before asked begins es window form in
    let valid = all_are_written size positive x written before asked begins es window form in
    let to = holds_kept b ds valid 5 w.sessions all.1 in
    let some = some_kept b ds valid 5 w.sessions all.1 in
    let st = stood_kept b ds valid 5 w.sessions all.1 in
    start_common b ds valid w all.0 5 two_of_five to some st (λ n m. (what_is_common_stays size positive x written before asked begins es window form n m).labels)
