-- Each publication, route and row that is told leads where some configuration of the window had it lead.
use Rattle.std.specs.Prelude.{◌≡◌, ◌≤◌, ◌<◌, ◌++◌, ◌+◌, ◌⊎◌, ℕ, suc, Bool, List, [], ◌∷◌, map, length, true, false, cond}
use Rattle.std.specs.Cmp.Lexicographic.{bytes_decides}
use Rattle.std.specs.FinMap.{empty, entries, get}
use Rattle.std.specs.List.{enumerate_from, filter, filter_map, flat_map}
use Rattle.std.specs.Option.{option_map, unwrap_or}
use Rattle.std.specs.declared.option.Option.{Option}
use Rattle.std.specs.declared.option.Option.TheVariants.{None, Some}
use Rattle.std.proofs.Common.{ap, arith, inl, inr, refl, subst, sym, ◌∙◌}
use Rattle.std.proofs.lemmas.Option.{same_Some}
use Rattle.ov_types.specs.First.{same_name}
use Rattle.ov_types.specs.Prefix.{Block}
use Rattle.ov_types.specs.declared.numbers.InstanceId.{InstanceId}
use Rattle.ov_types.specs.declared.numbers.Label.{Label as LabelNo}
use Rattle.ov_types.specs.declared.objects.LowKey.{LowKey}
use Rattle.ov_types.specs.declared.objects.LowKey.TheVariants as key
use Rattle.ov_types.specs.declared.objects.LowValue.{LowValue}
use Rattle.ov_types.specs.declared.objects.LowValue.TheVariants as low
use Rattle.ov_types.specs.declared.prefix.Addr.{Addr}
use Rattle.ov_types.specs.declared.rows.NodeId.{NodeId}
use Rattle.ov_types.specs.declared.numbers.Rd.{Rd}
use Rattle.route_targets.specs.Numbers.{circuit_instance_of, distinguisher_of, target_of}
use Rattle.config_types.specs.declared.topology.Node.{Node}
use Rattle.schedule_script.specs.ConfigCheck.Checked.{Checked}
use Rattle.schedule_script.specs.ConfigCheck.Finding.{node_named}
use Rattle.transform_model.specs.Objects.{low_objects}
use Rattle.node_laws.specs.NodeModel.Agent as agent
use Rattle.node_laws.specs.NodeModel.Agent.{needed_by, publication, slice_in_use, told_of}
use Rattle.node_laws.specs.NodeModel.Keys.{Key, key_cmp, Low, Publish, Row, Subscribe, Vpn}
use Rattle.node_laws.specs.NodeModel.Maps.{Map, as_object, object, objects}
use Rattle.node_laws.specs.NodeModel.Members.{Member}
use Rattle.node_laws.specs.NodeModel.Paths.{Holdings, Path, Told, has_target, own_paths, peer_path, peer_paths, received}
use Rattle.node_laws.specs.NodeModel.Reaching.{Side, circuit_at, hop_at, published_by, published_in, reoriginated_paths, sides, subnets}
use Rattle.node_laws.specs.NodeModel.Ranks.{instance_in}
use Rattle.node_laws.proofs.NodeModel.Local.{known_small}
use Rattle.node_laws.proofs.NodeModel.Places.{instance_in-distinguisher}
use Rattle.machine_laws.proofs.Written.{sound_setup}
use Rattle.node_laws.specs.NodeModel.Tables.{IsLeast, paths_of, table}
use Rattle.node_laws.specs.NodeModel.Uses.{as_use, hop_imports, imports, is_hop, network_imports, place_of, use_from, use_of}
use Rattle.node_laws.specs.NodeModel.Values.{Entry, Label, Object, Route, Value}
use Rattle.node_laws.specs.NodeModel.Wants.{IsAttachedAt, route_entry, rows_of, slice, slice_entry, subscriptions, wanted_by_agent, wanted_by_peers}
use Rattle.node_laws.proofs.NodeModel.Members.{from_entry, from_filter, from_filter_map, from_flat_map, from_map, get_member, in_either, in_filter_map, in_map, member_get, none_some}
use Rattle.node_laws.proofs.NodeModel.Objects.{in_sides, object_of, side_use}
use Rattle.node_laws.proofs.NodeModel.Orders.{key_exact, key_total, prefix_total}
use Rattle.node_laws.proofs.NodeModel.Routes.{label_is, led_by, own_route_from, reoriginated_from}
use Rattle.node_laws.proofs.NodeModel.Selection.{selected_least}
use Rattle.node_laws.proofs.NodeModel.Unknown.{target_from}
use Rattle.node_laws.proofs.NodeModel.Wanted.{row_of_path, slice_is}
use Rattle.machine_model.specs.Moments.{Each, nodes}
use Rattle.machine_model.specs.Network.{address_in, agent_holdings, control_holdings, heard_from, sessions_of, told_by, told_on, view, wanted, wanted_from, with_role}
use Rattle.machine_model.specs.Session.{Agent, Configuration, Controller, Role, Session, is_up_phase, turned}
use Rattle.machine_model.specs.Setup.{Name, Setup, agents_of, checked, listed_by, low as low_map, low_in, opening}
use Rattle.machine_model.proofs.Changing.{found_member}
use Rattle.machine_model.proofs.Feed.{entries-low, objects-low}
use Rattle.machine_model.proofs.Listed.{of_nodes}
use Rattle.machine_model.proofs.OvSync.KeyedLaws.{empty_values}
use Rattle.machine_model.proofs.Twins.{all_to_own, each_and, each_weaker}
use Rattle.machine_laws.specs.Compiled.{Attachment, as_attachment, attachments, circuit_prefix}
use Rattle.machine_laws.specs.Goal.{HasRoles, IsLaid, Party, address_of, others, role_of}
use Rattle.machine_laws.specs.Headline.{IsWritten}
use Rattle.machine_laws.specs.Settling.{Fair, FairMap}
use Rattle.machine_laws.proofs.Assembly.{role_agent}
use Rattle.machine_laws.proofs.Numbers.{circuit_at-instance}
use Rattle.machine_laws.proofs.Told.{pair, publication_cases, publications, subscription_of, subscriptions_of}
use Rattle.machine_laws.proofs.Views.{far, fars_are, heard, own_named, views}
use Rattle.machine_moment_laws.specs.Common.{InSome}
use Rattle.machine_moment_laws.proofs.Here.{Here, here_laid}
use Rattle.machine_moment_laws.proofs.OfSome.{AllOfSome, AreSomeTo, HeldFair, all_some, each_from, none_of_some, some_to}
use Rattle.machine_moment_laws.proofs.Seats.{enumerated, feed_of, peers_of}

-- ---- what stood in configurations
module _ (cs : List Checked) where
  -- a compute node of this name stood at the address
  abbrev pub StoodAt : Name → Addr → Type 0
  StoodAt name a = InSome cs (λ c. (n : Node) × Member n c.topology.nodes × (n.name ≡ name) × (n.address ≡ a))

  -- something was attached in the instance under the prefix, with this label, where the node of this name stood
  pub record HostStood (name : Name) (i : InstanceId) (prefix : Block) (label : LabelNo) : Type 0 where
    pub config : Checked
    pub among : Member config cs
    pub to : Attachment
    pub attached : Member to (attachments (low_in config))
    pub instance : to.instance ≡ i
    pub at : to.prefix ≡ prefix
    pub labelled : to.label ≡ label
    pub stood : StoodAt name to.node

  -- the prefix was a subnet of a side of a use, and the circuit towards that side was attached so
  pub record LedStood (name : Name) (i : InstanceId) (prefix : Block) (label : LabelNo) : Type 0 where
    pub config : Checked
    pub among : Member config cs
    pub side : Side
    pub of_use : Member side (sides (low_in config))
    pub depth : ℕ
    pub within : depth < side.chain.services
    pub subnet : Member prefix (subnets side)
    pub instance : hop_at side (suc depth) ≡ i
    pub circuit : HostStood name i (circuit_prefix (circuit_at side (suc depth))) label

  pub record PathStood (i : InstanceId) (prefix : Block) (hop : Addr) (label : LabelNo) : Type 0 where
    pub name : Name
    pub stood : StoodAt name hop
    pub leads : HostStood name i prefix label ⊎ LedStood name i prefix label

  abbrev pub WasImported : InstanceId → InstanceId → Type 0
  WasImported i n = InSome cs (λ c. Member n (imports (low_in c) i))

  abbrev pub RowStood : InstanceId → Block → Addr → LabelNo → Type 0
  RowStood i prefix hop label =
      ((n : InstanceId) × WasImported i n × PathStood n prefix hop label) ⊎ ((name : Name) × StoodAt name hop × LedStood name i prefix label)

  abbrev pub EntryStood : ℕ → Name × Role → Name × Role → Key → Value → Type 0
  EntryStood asn from to (Low (key.Attach l)) (Object v) = from.1 ≡ Controller → to.1 ≡ Agent → (a : Addr) → IsAttachedAt a v → StoodAt to.0 a
  EntryStood asn from to (Publish i prefix) (Label label) = HostStood from.0 i prefix label
  EntryStood asn from to (Publish i prefix) _ = ⊥
  EntryStood asn from to (Vpn k) (Route r) = (i : InstanceId) × (r.targets ≡ target_of asn i ∷ []) × PathStood i k.prefix r.next_hop r.label × (instance_in k.rd ≡ i)
  EntryStood asn from to (Vpn k) _ = ⊥
  EntryStood asn from to (Row i prefix) (Entry hop) = RowStood i prefix hop.next_hop hop.label
  EntryStood asn from to (Row i prefix) _ = ⊥
  EntryStood asn from to _ _ = Unit {0}

  -- slices, then publications, routes and rows
  abbrev pub kind : Key → ℕ
  kind (Low k) = 2
  kind (Publish i prefix) = 3
  kind (Vpn k) = 4
  kind (Row i prefix) = 5
  kind (Subscribe i) = 3

  abbrev pub stood : ℕ → ℕ → Name × Role → Name × Role → Key → Value → Type 0
  stood asn j from to k v = kind k ≤ j → EntryStood asn from to k v

  abbrev pub AreStood : ℕ → ℕ → Session → Type 0
  AreStood asn j = Fair (stood asn j)

  abbrev pub HoldStood : ℕ → ℕ → Session → Type 0
  HoldStood asn j = HeldFair (stood asn j)

  -- what stood up to the last rank stood up to any
  last_kind : (k : Key) → kind k ≤ 5
  last_kind (Low k) = omega arith
  last_kind (Publish i prefix) = omega arith
  last_kind (Vpn k) = omega arith
  last_kind (Row i prefix) = omega arith
  last_kind (Subscribe i) = omega arith

  pub stood_weaker : (asn r : ℕ) (s : Session) → AreStood asn 5 s → HoldStood asn r s
  stood_weaker asn r s f = ((λ k v e _. f.near_held k v e (last_kind k)), (λ k v e _. f.far_held k v e (last_kind k)))

  pub stood_held : (asn j : ℕ) (s : Session) → AreStood asn j s → HoldStood asn j s
  stood_held asn j s f = (f.near_held, f.far_held)

-- ---- where a circuit's publisher is
abbrev IsPublisher : List Told → ℕ → Addr → LabelNo → Type 0
IsPublisher agents circuit address label =
    (a : Told) × Member a agents × (address ≡ a.address) × (get a.map (Publish (circuit_instance_of circuit) (circuit_prefix circuit)) ≡ Some (Label label))

abbrev or_else : Addr → List Told → ℕ → Option LabelNo → Option (Addr × LabelNo)
or_else address agents circuit o = elim o [ Some l ↦ Some (led_by address l) | None ↦ published_in agents circuit ]

publisher_at : (agents : List Told) (circuit : ℕ) (address : Addr) (label : LabelNo) → published_in agents circuit ≡ Some (led_by address label) → IsPublisher agents circuit address label
publisher_at [] circuit address label e = absurd (none_some (led_by address label) e)
publisher_at (a ∷ agents) circuit address label e = by_first (published_by a circuit) refl (publisher_at agents circuit address label) e
  where
    by_first : (o : Option LabelNo) → published_by a circuit ≡ o → (published_in agents circuit ≡ Some (led_by address label) → IsPublisher agents circuit address label) → or_else a.address agents circuit o ≡ Some (led_by address label) → IsPublisher (a ∷ agents) circuit address label
    by_first None is rest e = let q = rest e in (q.0, inr q.1, q.2, q.3)
    by_first (Some l) is rest e =
        let s : ◌≡◌ {A = Addr × LabelNo} (led_by a.address l) (led_by address label) = same_Some (led_by a.address l) (led_by address label) e in
        (a, inl refl, ap (λ (x : Addr × LabelNo). x.0) (sym s), label_is (get a.map (Publish (circuit_instance_of circuit) (circuit_prefix circuit))) label (is ∙ ap (λ (x : Addr × LabelNo). Some x.1) s))

pub attached_at : (k : LowKey) (v : LowValue) (a : Attachment) → as_attachment k v ≡ Some a → IsAttachedAt a.node v
attached_at (key.Attach l) (low.AttachPort p i x n) a h = ap (λ (a : Attachment). a.node) (same_Some _ a h)
attached_at (key.Attach l) (low.AttachCircuit c s n) a h = ap (λ (a : Attachment). a.node) (same_Some _ a h)
attached_at (key.Attach l) (low.Instance is) a h = absurd (none_some a h)
attached_at (key.Attach l) (low.Acl s r) a h = absurd (none_some a h)
attached_at (key.Attach l) (low.ChainUse x b c d f) a h = absurd (none_some a h)
attached_at (key.Instance n) v a h = absurd (none_some a h)
attached_at (key.Acl x b) v a h = absurd (none_some a h)
attached_at (key.ChainUse u) v a h = absurd (none_some a h)

module _ (b : Checked) (ds : List Checked) (written : (c : Checked) → Member c (b ∷ ds) → IsWritten (opening c)) where
  abbrev cs : List Checked
  cs = b ∷ ds

  in_low : (c : Checked) (k : LowKey) (v : LowValue) → Member (k, v) (low_objects c.topology c.config) → Member (k, v) (objects (low_in c))
  in_low c k v m = subst (λ (os : List (LowKey × LowValue)). Member (k, v) os) (sym (objects-low (opening c))) m

  -- what a held feed imports, some configuration does
  pub imports_of_some : (f : Map) → AllOfSome cs f → (i n : InstanceId) → Member n (imports f i) → WasImported cs i n
  imports_of_some f some i n m =
      elim (is_hop i) as (λ h. is_hop i ≡ h → Member n (cond h (hop_imports (place_of i) (use_from (use_of i) (object f (key.ChainUse (use_of i))))) (network_imports (object f (key.Instance i.0)))) → WasImported cs i n) [
        | true ↦ λ is m. of_hop is (get f (Low (key.ChainUse (use_of i)))) refl m
        | false ↦ λ is m. of_network is (get f (Low (key.Instance i.0))) refl m
      ] refl m
    where
      of_object : (k : LowKey) (v : LowValue) → get f (Low k) ≡ Some (Object v) → (c : Checked) × Member c cs × (object (low_in c) k ≡ Some v)
      of_object k v e = let q = some (Low k) (Object v) e in (q.0, q.1, ap as_object (object_of (low_in q.0) k v (in_low q.0 k v q.2)))

      of_hop : is_hop i ≡ true → (o : Option Value) → get f (Low (key.ChainUse (use_of i))) ≡ o → Member n (hop_imports (place_of i) (use_from (use_of i) (as_object o))) → WasImported cs i n
      of_hop is None e m = absurd m
      of_hop is (Some (Route r)) e m = absurd m
      of_hop is (Some (Entry r)) e m = absurd m
      of_hop is (Some (Label r)) e m = absurd m
      of_hop is (Some (Object v)) e m =
          let q = of_object (key.ChainUse (use_of i)) v e in (
            q.0,
            q.1,
            subst (λ (h : Bool). Member n (cond h (hop_imports (place_of i) (use_from (use_of i) (object (low_in q.0) (key.ChainUse (use_of i))))) (network_imports (object (low_in q.0) (key.Instance i.0))))) (sym is)
                (subst (λ (o : Option LowValue). Member n (hop_imports (place_of i) (use_from (use_of i) o))) (sym q.2) m),
          )

      of_network : is_hop i ≡ false → (o : Option Value) → get f (Low (key.Instance i.0)) ≡ o → Member n (network_imports (as_object o)) → WasImported cs i n
      of_network is None e m = absurd m
      of_network is (Some (Route r)) e m = absurd m
      of_network is (Some (Entry r)) e m = absurd m
      of_network is (Some (Label r)) e m = absurd m
      of_network is (Some (Object v)) e m =
          let q = of_object (key.Instance i.0) v e in (
            q.0,
            q.1,
            subst (λ (h : Bool). Member n (cond h (hop_imports (place_of i) (use_from (use_of i) (object (low_in q.0) (key.ChainUse (use_of i))))) (network_imports (object (low_in q.0) (key.Instance i.0))))) (sym is)
                (subst (λ (o : Option LowValue). Member n (network_imports o)) (sym q.2) m),
          )

  -- a side of a held use is one of some configuration
  pub side_of_some : (f : Map) → AllOfSome cs f → (s : Side) → Member s (sides f) → InSome cs (λ c. Member s (sides (low_in c)))
  side_of_some f some s m =
      let q = from_filter_map (λ (e : LowKey × LowValue). as_use e.0 e.1) s.chain (objects f) (side_use f s m) in
      let o = some (Low q.0.0) (Object q.0.1) (object_of f q.0.0 q.0.1 q.1) in
      (o.0, o.1, in_sides (low_in o.0) s.chain s.is_right (in_filter_map (λ (e : LowKey × LowValue). as_use e.0 e.1) q.0 s.chain (objects (low_in o.0)) (in_low o.0 q.0.0 q.0.1 o.2) q.2))

  module _ (asn j : ℕ) (x : Setup) (ss : List Session) (here : Here b ds written x (map nodes ss)) (asn_is : x.topology.asn ≡ asn) (some : Each (AreSomeTo cs j) ss) (st : Each (HoldStood cs asn j) ss) where
    laid : IsLaid x (map nodes ss)
    laid = here_laid b ds written x (map nodes ss) here

    -- an agent stands at its address
    agent_at : (name : Name) → role_of x name ≡ Agent → StoodAt cs name (address_of x name)
    agent_at name is =
        let c = role_agent x name is in
        let k = found_member name x.topology.nodes c.0 c.1 in
        (checked x, here.among, (c.0, k.0, k.1, ap (λ (o : Option Node). unwrap_or (option_map (λ (n : Node). n.address) o) (record { 0 = 0 })) (sym c.1)))

    -- ---- a session of a node, seen from it
    record Side' (s : Session) : Type 0 where
      near_role : s.near.role ≡ role_of x s.near.name
      far_role : s.far.role ≡ role_of x s.far.name
      some_held : FairMap (some_to cs j) (s.far.name, s.far.role) (s.near.name, s.near.role) s.near.held
      held : FairMap (stood cs asn j) (s.far.name, s.far.role) (s.near.name, s.near.role) s.near.held

    record Own (n : Name) (s : Session) : Type 0 where
      name : s.near.name ≡ n
      near_role : s.near.role ≡ role_of x s.near.name
      far_role : s.far.role ≡ role_of x s.far.name
      some_held : FairMap (some_to cs j) (s.far.name, s.far.role) (s.near.name, s.near.role) s.near.held
      held : FairMap (stood cs asn j) (s.far.name, s.far.role) (s.near.name, s.near.role) s.near.held

    owns : (n : Name) → Each (Own n) (sessions_of n ss)
    owns n =
        each_weaker (λ s. (s.near.name ≡ n) × Side' s) (Own n) (λ s q. record { name = q.0; near_role = q.1.near_role; far_role = q.1.far_role; some_held = q.1.some_held; held = q.1.held }) (sessions_of n ss)
        (each_and (λ s. s.near.name ≡ n) Side' (sessions_of n ss) (own_named n ss)
        (all_to_own Side' n ss
        (each_weaker (λ s. HasRoles x (nodes s) × (AreSomeTo cs j s × HoldStood cs asn j s)) (λ s. Side' s × Side' (turned s))
        (λ s q. (record { near_role = q.0.0; far_role = q.0.1; some_held = q.1.0.0; held = q.1.1.0 }, record { near_role = q.0.1; far_role = q.0.0; some_held = q.1.0.1; held = q.1.1.1 })) ss
        (each_and (λ s. HasRoles x (nodes s)) (λ s. AreSomeTo cs j s × HoldStood cs asn j s) ss (of_nodes (HasRoles x) ss laid.roles) (each_and (AreSomeTo cs j) (HoldStood cs asn j) ss some st)))))

    module _ (n : Name) where
      abbrev own : List Session
      own = sessions_of n ss

      abbrev h : Holdings
      h = control_holdings x n (views own)

      feed_some : 2 ≤ j → AllOfSome cs h.feed
      feed_some rank = feed_of (AllOfSome cs) (none_of_some cs) own (each_weaker (Own n) (λ s. AllOfSome cs s.near.held) (λ s o. all_some cs j rank (s.far.name, s.far.role) (s.near.name, s.near.role) s.near.held o.some_held) own (owns n))

      two : (j : ℕ) → 3 ≤ j → 2 ≤ j
      two j h = omega (arith, h)

      two_of_four : (j : ℕ) → 4 ≤ j → 2 ≤ j
      two_of_four j h = omega (arith, h)

      -- ---- a control node
      module _ (s : Session) (among : Member s own) (mine : Own n s) (control : s.near.role ≡ Controller) where
        is_control : role_of x n ≡ Controller
        is_control = ap (role_of x) (sym mine.name) ∙ sym mine.near_role ∙ control

        in_places : Member (far s) (others n (map nodes ss))
        in_places = subst (Member (far s)) (fars_are n ss) (in_map far s own among)

        abbrev ToldBy : Told → Type 0
        ToldBy a = (t : Session) × Own n t × (t.far.role ≡ Agent) × (a.map ≡ t.near.held) × StoodAt cs t.far.name a.address

        told_at : (m : ℕ) (o : Option NodeId) (a : Told) → Member o (agents_of x n) → told_by (views own) m o ≡ Some a → ToldBy a
        told_at m None a i e = absurd (none_some a e)
        told_at m (Some id) a i e =
            let is : record { session = m; address = id.address; map = (heard_from (views own) id.name).map } ≡ a = same_Some _ a e in
            let q = laid.numbered n (far s) in_places is_control id i in
            let in_own : Member (id.name, Agent) (map far own) = subst (Member (id.name, Agent)) (sym (fars_are n ss)) q.0 in
            let p = from_map far (id.name, Agent) own in_own in
            let t = heard (Own n) own id.name Agent (owns n) in_own in
            let role : role_of x t.0.far.name ≡ Agent = ap (role_of x) t.2 ∙ agent_role p.0 p.1 p.2 in
            let there : StoodAt cs t.0.far.name id.address = subst (StoodAt cs t.0.far.name) (ap (address_of x) t.2 ∙ q.1) (agent_at t.0.far.name role) in
            (t.0, t.1, t.1.far_role ∙ role, ap (λ (a : Told). a.map) (sym is) ∙ ap (λ (g : agent.Heard). g.map) t.3, subst (StoodAt cs t.0.far.name) (ap (λ (a : Told). a.address) is) there)
          where
            each_at : (ts : List Session) → Each (Own n) ts → (u : Session) → Member u ts → Own n u
            each_at [] f u m = absurd m
            each_at (t ∷ ts) f u (inl e) = subst (Own n) e f.0
            each_at (t ∷ ts) f u (inr m) = each_at ts f.1 u m

            agent_role : (u : Session) → Member u own → far u ≡ (id.name, Agent) → role_of x id.name ≡ Agent
            agent_role u m f = ap (λ (p : Party). role_of x p.0) (sym f) ∙ sym (each_at own (owns n) u m).far_role ∙ ap (λ (p : Party). p.1) f

        told_is : (a : Told) → Member a h.agents → ToldBy a
        told_is a m =
            let es = enumerate_from (1 + length (with_role Controller (views own))) (agents_of x n) in
            let q = from_filter_map (λ (e : ℕ × Option NodeId). told_by (views own) e.0 e.1) a es m in
            told_at q.0.0 q.0.1 a (enumerated (1 + length (with_role Controller (views own))) q.0 (agents_of x n) q.1) q.2

        abbrev IsPath : Path → Type 0
        IsPath p = (i : InstanceId) × (p.targets ≡ target_of asn i ∷ []) × PathStood cs i p.prefix p.next_hop p.label × (instance_in p.rd ≡ i)

        -- the instance of its distinguisher
        distinguished : (name : Name) (i : InstanceId) (prefix : Block) (label : LabelNo) (a : Addr) (rd : Rd) → HostStood cs name i prefix label → rd ≡ distinguisher_of a i → instance_in rd ≡ i
        distinguished name i prefix label a rd q e =
            let sound = (sound_setup (opening q.config) (written q.config q.among)).sound in
            let small = known_small (low_in q.config) q.to.instance sound.ordered (sound.known q.to q.attached) in
            ap instance_in e ∙ subst (λ (i : InstanceId). instance_in (distinguisher_of a i) ≡ i) q.instance (instance_in-distinguisher a q.to.instance small)

        published : (a : Told) → Member a h.agents → 3 ≤ j → (i : InstanceId) (prefix : Block) (label : LabelNo) → get a.map (Publish i prefix) ≡ Some (Label label) → (name : Name) × StoodAt cs name a.address × HostStood cs name i prefix label
        published a m rank i prefix label e =
            let t = told_is a m in
            (t.0.far.name, t.4, t.1.held (Publish i prefix) (Label label) (ap (λ (m : Map). get m (Publish i prefix)) (sym t.3) ∙ e) rank)

        own_stood : 3 ≤ j → (p : Path) → Member p (own_paths h) → IsPath p
        own_stood rank p m =
            let o = own_route_from h p m in
            let q = published o.agent o.told rank o.instance p.prefix p.label o.publishes in
            (o.instance, o.targets ∙ ap (λ (n : ℕ). target_of n o.instance ∷ []) asn_is, record { name = q.0; stood = subst (StoodAt cs q.0) (sym o.next_hop) q.1; leads = inl q.2 }, distinguished q.0 o.instance p.prefix p.label o.agent.address p.rd q.2 o.rd)

        reoriginated_stood : 3 ≤ j → (p : Path) → Member p (reoriginated_paths h) → (i : InstanceId) × (p.targets ≡ target_of asn i ∷ []) × ((name : Name) × StoodAt cs name p.next_hop × LedStood cs name i p.prefix p.label) × (instance_in p.rd ≡ i)
        reoriginated_stood rank p m =
            let o = reoriginated_from h p m in
            let circuit = circuit_at o.side (suc o.depth) in
            let a = publisher_at h.agents circuit p.next_hop p.label o.published in
            let q = published a.0 a.1 rank (circuit_instance_of circuit) (circuit_prefix circuit) p.label a.3 in
            let side = side_of_some h.feed (feed_some (two j rank)) o.side o.held in
            let attached = subst (λ (i : InstanceId). HostStood cs q.0 i (circuit_prefix circuit) p.label) (circuit_at-instance o.side (suc o.depth)) q.2 in (
              hop_at o.side (suc o.depth),
              o.targets ∙ ap (λ (n : ℕ). target_of n (hop_at o.side (suc o.depth)) ∷ []) asn_is,
              (
                q.0,
                subst (StoodAt cs q.0) (sym a.2) q.1,
                record {
                  config = side.0;
                  among = side.1;
                  side = o.side;
                  of_use = side.2;
                  depth = o.depth;
                  within = o.within;
                  subnet = o.subnet;
                  instance = refl;
                  circuit = attached;
                },
              ),
              distinguished q.0 (hop_at o.side (suc o.depth)) (circuit_prefix circuit) p.label p.next_hop p.rd attached o.rd,
            )

        route_stood : 3 ≤ j → (p : Path) → Member p (own_paths h ++ reoriginated_paths h) → IsPath p
        route_stood rank p m =
            elim (in_either p (own_paths h) (reoriginated_paths h) m) as (λ _. IsPath p) [
              | inl l ↦ own_stood rank p l
              | inr r ↦ let q = reoriginated_stood rank p r in (q.0, q.1, record { name = q.2.0; stood = q.2.1; leads = inr q.2.2 }, q.3)
            ]

        -- ---- towards peers
        to_peers : (from to : Name × Role) → FairMap (stood cs asn (suc j)) from to (wanted_by_peers h)
        to_peers from to k v e =
            let q = from_map route_entry (pair k v) (own_paths h ++ reoriginated_paths h) (from_entry key_total key_exact k v (map route_entry (own_paths h ++ reoriginated_paths h)) e) in
            subst (λ (e : Key × Value). kind cs e.0 ≤ suc j → EntryStood cs asn from to e.0 e.1) q.2 (λ rank. route_stood (lower j rank) q.0 q.1)
          where
            lower : (j : ℕ) → 4 ≤ suc j → 3 ≤ j
            lower j h = omega (arith, h)

        -- ---- towards an agent
        peer_path_stood : (m : ℕ) (k : Key) (v : Value) (p : Path) → peer_path m k v ≡ Some p → EntryStood cs asn (n, Controller) (n, Controller) k v → IsPath p
        peer_path_stood m (Vpn k) (Route r) p e is = subst IsPath (same_Some _ p e) is
        peer_path_stood m (Vpn k) (Object o) p e is = absurd is
        peer_path_stood m (Vpn k) (Entry r) p e is = absurd is
        peer_path_stood m (Vpn k) (Label l) p e is = absurd is
        peer_path_stood m (Low k) v p e is = absurd (none_some p e)
        peer_path_stood m (Row i y) v p e is = absurd (none_some p e)
        peer_path_stood m (Publish i y) v p e is = absurd (none_some p e)
        peer_path_stood m (Subscribe i) v p e is = absurd (none_some p e)

        abbrev VpnStood : Map → Type 0
        VpnStood m = (k : Key) (v : Value) (p : Path) (e : ℕ) → get m k ≡ Some v → peer_path e k v ≡ Some p → IsPath p

        vpn_stood : (from to : Name × Role) (m : Map) → 4 ≤ j → FairMap (stood cs asn j) from to m → VpnStood m
        vpn_stood from to m rank f (Vpn k) v p e at is = peer_path_stood e (Vpn k) v p is (f (Vpn k) v at rank)
        vpn_stood from to m rank f (Low k) v p e at is = absurd (none_some p is)
        vpn_stood from to m rank f (Row i y) v p e at is = absurd (none_some p is)
        vpn_stood from to m rank f (Publish i y) v p e at is = absurd (none_some p is)
        vpn_stood from to m rank f (Subscribe i) v p e at is = absurd (none_some p is)

        no_vpn : VpnStood empty
        no_vpn k v p e at is = absurd (empty_values key_cmp (λ k v. ⊥) k v at)

        peer_stood : 4 ≤ j → (p : Path) → Member p (peer_paths h) → IsPath p
        peer_stood rank p m =
            let q = from_flat_map (λ (p : ℕ × Map). filter_map (λ e. peer_path p.0 e.0 e.1) (entries p.1)) p (enumerate_from 1 h.peers) m in
            let e = from_filter_map (λ (e : Key × Value). peer_path q.0.0 e.0 e.1) p (entries q.0.1) q.2 in
            peers_of VpnStood no_vpn own (each_weaker (Own n) (λ s. VpnStood s.near.held) (λ s o. vpn_stood (s.far.name, s.far.role) (s.near.name, s.near.role) s.near.held rank o.held) own (owns n))
            q.0.1 (enumerated 1 q.0 h.peers q.1) e.0.0 e.0.1 p q.0.0 (get_member key_total q.0.1 e.0.0 e.0.1 e.1) e.2

        row_stood : 4 ≤ j → (i : InstanceId) (y : Block) (p : Path) → Member (y, p) (entries (table h i)) → RowStood cs i y p.next_hop p.label
        row_stood rank i y p m =
            let least : IsLeast y (paths_of h i) p = selected_least (paths_of h i) y p (get_member prefix_total (table h i) y p m) in
            subst (λ (y : Block). RowStood cs i y p.next_hop p.label) least.prefix_is
            (elim (in_either p (received h i) (filter (has_target (target_of h.asn i ∷ [])) (reoriginated_paths h)) least.member) as (λ _. RowStood cs i p.prefix p.next_hop p.label) [
              | inl l ↦
                  let f = from_filter (has_target (map (target_of h.asn) (imports h.feed i))) p (own_paths h ++ peer_paths h) l in
                  let r = elim (in_either p (own_paths h) (peer_paths h) f.0) as (λ _. IsPath p) [ inl l ↦ own_stood (lower j rank) p l | inr r ↦ peer_stood rank p r ] in
                  inl (r.0, imports_of_some h.feed (feed_some (two_of_four j rank)) i r.0 (target_from h.asn r.0 (imports h.feed i) p (r.1 ∙ ap (λ (n : ℕ). target_of n r.0 ∷ []) (sym asn_is)) f.1), r.2)
              | inr l ↦
                  let f = from_filter (has_target (target_of h.asn i ∷ [])) p (reoriginated_paths h) l in
                  let r = reoriginated_stood (lower j rank) p f.0 in
                  elim (target_from h.asn r.0 (i ∷ []) p (r.1 ∙ ap (λ (n : ℕ). target_of n r.0 ∷ []) (sym asn_is)) f.1) as (λ _. RowStood cs i p.prefix p.next_hop p.label) [
                    | inl is ↦ inr (r.2.0, r.2.1, subst (λ (n : InstanceId). LedStood cs r.2.0 n p.prefix p.label) (sym is) r.2.2)
                    | inr none ↦ absurd none
                  ]
            ])
          where
            lower : (j : ℕ) → 4 ≤ j → 3 ≤ j
            lower j h = omega (arith, h)

        to_agent : s.far.role ≡ Agent → (a : Told) → a.address ≡ address_in (agents_of x n) s.far.name → FairMap (stood cs asn (suc j)) (s.near.name, s.near.role) (s.far.name, s.far.role) (wanted_by_agent h a)
        to_agent is_agent a at k v e =
            let rows = flat_map (rows_of h) (subscriptions a.map) in
            let mapped = map slice_entry (slice h.feed a.address) in
            elim (in_either (pair k v) mapped rows (from_entry key_total key_exact k v (mapped ++ rows) e)) as (λ _. kind cs k ≤ suc j → EntryStood cs asn (s.near.name, s.near.role) (s.far.name, s.far.role) k v) [
              | inl l ↦
                  let q = from_map slice_entry (pair k v) (slice h.feed a.address) l in
                  subst (λ (e : Key × Value). kind cs e.0 ≤ suc j → EntryStood cs asn (s.near.name, s.near.role) (s.far.name, s.far.role) e.0 e.1) q.2 (λ _. in_slice q.0.0 q.0.1 q.1)
              | inr l ↦
                  let q = from_flat_map (rows_of h) (pair k v) (subscriptions a.map) l in
                  let r = from_map (row_of_path q.0) (pair k v) (entries (table h q.0)) q.2 in
                  subst (λ (e : Key × Value). kind cs e.0 ≤ suc j → EntryStood cs asn (s.near.name, s.near.role) (s.far.name, s.far.role) e.0 e.1) r.2 (λ rank. row_stood (lower j rank) q.0 r.0.0 r.0.1 r.1)
            ]
          where
            lower : (j : ℕ) → 5 ≤ suc j → 4 ≤ j
            lower j h = omega (arith, h)

            here_at : StoodAt cs s.far.name a.address
            here_at =
                subst (StoodAt cs s.far.name) (sym (at ∙ laid.addressed n (far s) in_places is_control is_agent))
                (agent_at s.far.name (sym mine.far_role ∙ is_agent))

            attached_there : (y z : Addr) (v : LowValue) → IsAttachedAt y v → IsAttachedAt z v → y ≡ z
            attached_there y z (low.AttachPort p i o d) t u = sym t ∙ u
            attached_there y z (low.AttachCircuit c o d) t u = sym t ∙ u
            attached_there y z (low.Instance is) t u = absurd t
            attached_there y z (low.Acl o r) t u = absurd t
            attached_there y z (low.ChainUse o b c d f) t u = absurd t

            in_slice : (k : LowKey) (v : LowValue) → Member (k, v) (slice h.feed a.address) → EntryStood cs asn (s.near.name, s.near.role) (s.far.name, s.far.role) (Low k) (Object v)
            in_slice (key.Attach label) v m = λ _ _ y t. subst (StoodAt cs s.far.name) (sym (attached_there y a.address v t ((slice_is h.feed a.address (key.Attach label) v).0 m).1)) here_at
            in_slice (key.Acl u w) v m = tt
            in_slice (key.Instance u) v m = tt
            in_slice (key.ChainUse u) v m = tt

      own_at : (ts : List Session) → Each (Own n) ts → (u : Session) → Member u ts → Own n u
      own_at [] f u m = absurd m
      own_at (t ∷ ts) f u (inl e) = subst (Own n) e f.0
      own_at (t ∷ ts) f u (inr m) = own_at ts f.1 u m

      -- where the circuit that is published here stood
      pub circuit_stood : (s : Session) → Member s own → s.near.role ≡ Controller → 3 ≤ j → (circuit : ℕ) (address : Addr) (label : LabelNo) → published_in h.agents circuit ≡ Some (led_by address label)
          → (name : Name) × StoodAt cs name address × HostStood cs name (circuit_instance_of circuit) (circuit_prefix circuit) label
      circuit_stood s among control rank circuit address label e =
          let a = publisher_at h.agents circuit address label e in
          let q = published s among (own_at own (owns n) s among) control a.0 a.1 rank (circuit_instance_of circuit) (circuit_prefix circuit) label a.3 in
          (q.0, subst (StoodAt cs q.0) (sym a.2) q.1, q.2)

      -- ---- an agent
      heard_object : (ts : List Session) → Each (Own n) ts → (m : Name) (k : LowKey) (v : LowValue) → Member (k, v) (objects (heard_from (views ts) m).map) → (t : Session) × Own n t × (t.far.name ≡ m) × Member (k, v) (objects t.near.held)
      heard_object [] f m k v i = absurd (empty_values key_cmp (λ k v. ⊥) (Low k) (Object v) (object_of empty k v i))
      heard_object (t ∷ ts) f m k v i =
          elim (same_name t.far.name m) as (λ b. same_name t.far.name m ≡ b → Member (k, v) (objects (cond b (record { is_up = is_up_phase t.near.phase; map = t.near.held }) (heard_from (views ts) m)).map) → (t : Session) × Own n t × (t.far.name ≡ m) × Member (k, v) (objects t.near.held)) [
            | true ↦ λ e i. (t, f.0, (bytes_decides t.far.name m).0 e, i)
            | false ↦ λ _ i. heard_object ts f.1 m k v i
          ] refl i

      abbrev InSlice : LowKey → LowValue → Type 0
      InSlice k v = (t : Session) × Own n t × (role_of x t.far.name ≡ Controller) × Member (k, v) (objects t.near.held)

      slice_object : (ms : List Name) → ((m : Name) → Member m ms → role_of x m ≡ Controller) → (k : LowKey) (v : LowValue) → Member (k, v) (slice_in_use (map (heard_from (views own)) ms)) → InSlice k v
      slice_object [] roles k v i = absurd i
      slice_object (m ∷ ms) roles k v i =
          elim (heard_from (views own) m).is_up as (λ b. Member (k, v) (cond b (objects (heard_from (views own) m).map) (slice_in_use (map (heard_from (views own)) ms))) → InSlice k v) [
            | true ↦ λ i. let q = heard_object own (owns n) m k v i in (q.0, q.1, ap (role_of x) q.2 ∙ roles m (inl refl), q.3)
            | false ↦ λ i. slice_object ms (λ k a. roles k (inr a)) k v i
          ] i

      attach_stood : (from to : Name × Role) (k : LowKey) (v : LowValue) (a : Attachment) → as_attachment k v ≡ Some a → from.1 ≡ Controller → to.1 ≡ Agent → EntryStood cs asn from to (Low k) (Object v) → StoodAt cs to.0 a.node
      attach_stood from to (key.Attach l) v a e f g h = h f g a.node (attached_at (key.Attach l) v a e)
      attach_stood from to (key.Acl y z) v a e f g h = absurd (none_some a e)
      attach_stood from to (key.Instance y) v a e f g h = absurd (none_some a e)
      attach_stood from to (key.ChainUse y) v a e f g h = absurd (none_some a e)

      module _ (is_agent : role_of x n ≡ Agent) where
        in_use : (k : LowKey) (v : LowValue) → Member (k, v) (slice_in_use (agent_holdings x n (views own))) → InSlice k v
        in_use k v i =
            let c = role_agent x n is_agent in
            slice_object (listed_by (node_named x.topology n))
            (λ m a. laid.listed n c.0 c.1 m (subst (λ (o : Option Node). Member m (listed_by o)) c.1 a)) k v i

        publishes : 2 ≤ j → (k : LowKey) (v : LowValue) → Member (k, v) (slice_in_use (agent_holdings x n (views own))) → (a : Attachment) → as_attachment k v ≡ Some a → HostStood cs n a.instance a.prefix a.label
        publishes rank k v i a e =
            let t = in_use k v i in
            let at = object_of t.0.near.held k v t.3 in
            let o = all_some cs j rank (t.0.far.name, t.0.far.role) (t.0.near.name, t.0.near.role) t.0.near.held t.1.some_held (Low k) (Object v) at in
            let there = attach_stood (t.0.far.name, t.0.far.role) (t.0.near.name, t.0.near.role) k v a e (t.1.far_role ∙ t.2) (t.1.near_role ∙ ap (role_of x) t.1.name ∙ is_agent) (t.1.held (Low k) (Object v) at rank) in
            record {
              config = o.0;
              among = o.1;
              to = a;
              attached = in_filter_map (λ (e : LowKey × LowValue). as_attachment e.0 e.1) (k, v) a (objects (low_in o.0)) (in_low o.0 k v o.2) e;
              instance = refl;
              at = refl;
              labelled = refl;
              stood = subst (λ (m : Name). StoodAt cs m a.node) t.1.name there;
            }

        told_stood : (from to : Name × Role) → from.0 ≡ n → FairMap (stood cs asn (suc j)) from to (told_of (slice_in_use (agent_holdings x n (views own))))
        told_stood from to is k v e =
            let es = slice_in_use (agent_holdings x n (views own)) in
            elim (in_either (pair k v) (publications es) (subscriptions_of es) (from_entry key_total key_exact k v (publications es ++ subscriptions_of es) e)) as (λ _. kind cs k ≤ suc j → EntryStood cs asn from to k v) [
              | inl l ↦
                  let q = from_flat_map (λ (e : LowKey × LowValue). publication e.0 e.1) (pair k v) es l in
                  let c = publication_cases q.0.0 q.0.1 (pair k v) q.2 in
                  subst (λ (e : Key × Value). kind cs e.0 ≤ suc j → EntryStood cs asn from to e.0 e.1) c.2
                  (λ rank. subst (λ (m : Name). HostStood cs m c.0.instance c.0.prefix c.0.label) (sym is) (publishes (lower j rank) q.0.0 q.0.1 q.1 c.0 c.1))
              | inr l ↦ let q = from_map subscription_of (pair k v) (needed_by es) l in subst (λ (e : Key × Value). kind cs e.0 ≤ suc j → EntryStood cs asn from to e.0 e.1) q.2 (λ _. tt)
            ]
          where
            lower : (j : ℕ) → 3 ≤ suc j → 2 ≤ j
            lower j h = omega (arith, h)

      -- ---- each node
      low_entry_stood : (from to : Name × Role) → from.1 ≡ Configuration → (k : LowKey) (v : LowValue) → EntryStood cs asn from to (Low k) (Object v)
      low_entry_stood from to is (key.Attach l) v = λ e _ _ _. absurd (apart (sym is ∙ e))
        where
          apart : Configuration ≡ Controller → ⊥
          apart e = cc
      low_entry_stood from to is (key.Acl y z) v = tt
      low_entry_stood from to is (key.Instance y) v = tt
      low_entry_stood from to is (key.ChainUse y) v = tt

      feed_stood : (from to : Name × Role) → from.1 ≡ Configuration → FairMap (stood cs asn (suc j)) from to (low_map x)
      feed_stood from to is k w e =
          let m = subst (λ (es : List (Key × Value)). Member (pair k w) es) (entries-low x) (member_get key_total key_exact (low_map x) k w e) in
          let q = from_map slice_entry (pair k w) (low_objects x.topology x.config) m in
          subst (λ (e : Key × Value). kind cs e.0 ≤ suc j → EntryStood cs asn from to e.0 e.1) q.2 (λ _. low_entry_stood from to is q.0.0 q.0.1)

      stood_at : (s : Session) → Member s own → Own n s → FairMap (stood cs asn (suc j)) (s.near.name, s.near.role) (s.far.name, s.far.role) (wanted x (views own) (view s))
      unfolding wanted
      stood_at s among mine = go s.near.role s.far.role refl refl
        where
          go : (p q : Role) → s.near.role ≡ p → s.far.role ≡ q → FairMap (stood cs asn (suc j)) (s.near.name, s.near.role) (s.far.name, s.far.role) (wanted_from x (views own) (record (view s) { other_role = q }) p)
          go Configuration q e f = feed_stood (s.near.name, s.near.role) (s.far.name, s.far.role) e
          go Agent q e f =
              subst (λ (m : Name). FairMap (stood cs asn (suc j)) (s.near.name, s.near.role) (s.far.name, s.far.role) (told_of (slice_in_use (agent_holdings x m (views own))))) (sym mine.name)
              (told_stood (ap (role_of x) (sym mine.name) ∙ sym mine.near_role ∙ e) (s.near.name, s.near.role) (s.far.name, s.far.role) mine.name)
          go Controller Configuration e f = λ k v h. absurd (empty_values key_cmp (λ k v. ⊥) k v h)
          go Controller Controller e f =
              subst (λ (m : Name). FairMap (stood cs asn (suc j)) (s.near.name, s.near.role) (s.far.name, s.far.role) (wanted_by_peers (control_holdings x m (views own)))) (sym mine.name)
              (to_peers s among mine e (s.near.name, s.near.role) (s.far.name, s.far.role))
          go Controller Agent e f =
              subst (λ (m : Name). FairMap (stood cs asn (suc j)) (s.near.name, s.near.role) (s.far.name, s.far.role) (wanted_by_agent (control_holdings x m (views own)) (told_on (agents_of x m) (view s)))) (sym mine.name)
              (to_agent s among mine e f (told_on (agents_of x n) (view s)) refl)

      pub wants_stood : Each (λ s. FairMap (stood cs asn (suc j)) (s.near.name, s.near.role) (s.far.name, s.far.role) (wanted x (views own) (view s))) own
      wants_stood = each_from (Own n) (λ s. FairMap (stood cs asn (suc j)) (s.near.name, s.near.role) (s.far.name, s.far.role) (wanted x (views own) (view s))) own (owns n) stood_at
