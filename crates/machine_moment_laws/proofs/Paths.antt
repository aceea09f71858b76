-- The paths that a control node has of what is common: its own, and those that its peers tell.
use Rattle.std.specs.Prelude.{◌≡◌, ◌≤◌, ◌++◌, ◌+◌, ◌⊎◌, ℕ, suc, List, [], ◌∷◌, map, length, is_some, true, false, cond}
use Rattle.std.specs.FinMap.{entries, get}
use Rattle.std.specs.List.{enumerate_from, filter, filter_map}
use Rattle.std.specs.declared.option.Option.{Option}
use Rattle.std.specs.declared.option.Option.TheVariants.{None, Some}
use Rattle.std.proofs.Common.{ap, arith, inl, inr, refl, subst, sym, ◌∙◌}
use Rattle.std.proofs.lemmas.Bool.{true≢false}
use Rattle.std.proofs.lemmas.Option.{same_Some}
use Rattle.ov_types.specs.declared.numbers.InstanceId.{InstanceId}
use Rattle.ov_types.specs.declared.numbers.Label.{Label as LabelNo}
use Rattle.ov_types.specs.declared.objects.LowKey.{LowKey}
use Rattle.ov_types.specs.declared.prefix.Addr.{Addr}
use Rattle.ov_types.specs.declared.rows.NodeId.{NodeId}
use Rattle.ov_types.specs.declared.vpn.VpnKey.{VpnKey}
use Rattle.route_targets.specs.Numbers.{distinguisher_of, target_of}
use Rattle.config_types.specs.declared.topology.Node.{Node}
use Rattle.schedule_script.specs.ConfigCheck.Checked.{Checked}
use Rattle.schedule_script.specs.ConfigCheck.Rules.{controller_names}
use Rattle.schedule_script.proofs.ConfigCheck.Validity.{valid_iff}
use Rattle.transform_model.proofs.Valid.{one_node_at}
use Rattle.node_laws.specs.NodeModel.Keys.{Key, Low, Publish, Vpn}
use Rattle.node_laws.specs.NodeModel.Maps.{Map, object}
use Rattle.node_laws.specs.NodeModel.Members.{Member}
use Rattle.node_laws.specs.NodeModel.Paths.{Holdings, Path, Told, own_paths, peer_path, peer_paths}
use Rattle.node_laws.specs.NodeModel.Ranks.{instance_in}
use Rattle.node_laws.specs.NodeModel.Values.{Entry, Label, Object, Route, Value}
use Rattle.node_laws.proofs.NodeModel.Local.{known_small}
use Rattle.node_laws.proofs.NodeModel.Members.{contains_of, from_filter, from_filter_map, from_map, in_filter_map, in_flat_map, in_left, in_map, in_right, member_get, none_some}
use Rattle.node_laws.proofs.NodeModel.Orders.{key_exact, key_total}
use Rattle.node_laws.proofs.NodeModel.Places.{instance_in-distinguisher}
use Rattle.node_laws.proofs.NodeModel.Routes.{own_route_in}
use Rattle.machine_model.specs.Moments.{Each, NodePair, NumbersFit, nodes}
use Rattle.machine_model.specs.Network.{View, control_holdings, heard_from, same_role, sessions_of, told_by, view, with_role}
use Rattle.machine_model.specs.Session.{Agent, Configuration, Controller, Role, Session}
use Rattle.machine_model.specs.Setup.{Name, Setup, agents_of, checked, id_of, low as low_map, opening}
use Rattle.machine_model.proofs.Twins.{each_weaker}
use Rattle.machine_laws.specs.Compiled.{Attachment, attachments}
use Rattle.machine_laws.specs.Goal.{IsLaid, Party, agents_at, is_in_role, numbered_at, others, role_of}
use Rattle.machine_laws.specs.Headline.{IsWritten}
use Rattle.machine_laws.specs.Sound.{IsAmong}
use Rattle.machine_laws.proofs.Peers.{in_enumerate}
use Rattle.machine_laws.proofs.Placing.{agent_named}
use Rattle.machine_laws.proofs.Views.{far, fars_are, heard, peer_maps, views}
use Rattle.machine_laws.proofs.Written.{sound_setup}
use Rattle.machine_model.proofs.Listed.{listed_member}
use Rattle.machine_moment_laws.specs.Common.{common, placed, standing}
use Rattle.machine_moment_laws.proofs.Above.{held_above, held_placed}
use Rattle.machine_moment_laws.proofs.Here.{Here, config_lasts, here_laid, here_sound, lasts, site_lasts, standing_lasts, stands_among, stands_there}
use Rattle.machine_moment_laws.proofs.Homes.{known_above}
use Rattle.machine_moment_laws.proofs.OfSome.{AllOfSome, AreSomeTo, fed_some, role_is}
use Rattle.machine_moment_laws.proofs.Seats.{enumerated}
use Rattle.machine_moment_laws.proofs.Parts.{IsAbove}
use Rattle.machine_moment_laws.proofs.Placed.{IsPlacedIn, in_placed}
use Rattle.machine_moment_laws.proofs.Says.{HoldsTo, Mine, SaysBy, both_last, config_is, feed_is, lasting, mine, some_is}
use Rattle.machine_moment_laws.proofs.Static.{attached_in, attached_standing}
use Rattle.machine_moment_laws.proofs.Stood.{EntryStood, HoldStood}

-- the map that a peer told is among those that are held of peers
peer_among : (own : List Session) (t : Session) → Member t own → t.far.role ≡ Controller → Member t.near.held (peer_maps own)
peer_among [] t m e = absurd m
peer_among (s ∷ own) t m e =
    elim (same_role Controller s.far.role) as (λ c. same_role Controller s.far.role ≡ c → Member t.near.held (map (λ (v : View). v.held) (cond c (view s ∷ with_role Controller (views own)) (with_role Controller (views own))))) [
      | true ↦ λ _. elim m as (λ _. Member t.near.held (s.near.held ∷ peer_maps own)) [ inl is ↦ inl (ap (λ (s : Session). s.near.held) is) | inr i ↦ inr (peer_among own t i e) ]
      | false ↦ λ off. elim m as (λ _. Member t.near.held (peer_maps own)) [ inl is ↦ absurd (true≢false (sym (ap (same_role Controller) e) ∙ ap (λ (s : Session). same_role Controller s.far.role) (sym is) ∙ off)) | inr i ↦ peer_among own t i e ]
    ] refl

-- a session with a party that is among the others of a node
with_party : (F : Session → Type 0) (own : List Session) → Each F own → (o : Party) → Member o (map far own) → (t : Session) × Member t own × F t × (far t ≡ o)
with_party F own f o m =
    let q = from_map far o own m in
    (q.0, q.1, each_at own f q.0 q.1, q.2)
  where
    each_at : (ts : List Session) → Each F ts → (t : Session) → Member t ts → F t
    each_at [] f t m = absurd m
    each_at (u ∷ ts) f t (inl e) = subst F e f.0
    each_at (u ∷ ts) f t (inr m) = each_at ts f.1 t m

module _ (b : Checked) (ds : List Checked) (written : (c : Checked) → Member c (b ∷ ds) → IsWritten (opening c)) where
  abbrev cs : List Checked
  cs = b ∷ ds

  abbrev M : Map
  M = common cs

  abbrev W : Map
  W = placed cs

  abbrev asn : ℕ
  asn = b.topology.asn

  module _ (r : ℕ) (x : Setup) (ss : List Session) (here : Here b ds written x (map nodes ss)) (stays : Each (HoldsTo b ds written r) ss) (some : Each (AreSomeTo cs r) ss) (st : Each (HoldStood cs asn r) ss) (n : Name) where
    abbrev own : List Session
    own = sessions_of n ss

    abbrev places : List NodePair
    places = map nodes ss

    laid : IsLaid x places
    laid = here_laid b ds written x places here

    mines : Each (Mine b ds written r x n) own
    mines = mine b ds written r x ss here stays some st n

    abbrev h : Holdings
    h = control_holdings x n (views own)

    -- ---- a control node
    module _ (s : Session) (among : Member s own) (m : Mine b ds written r x n s) (control : s.near.role ≡ Controller) where
      pub is_control : role_of x n ≡ Controller
      is_control = ap (role_of x) (sym m.name) ∙ sym m.near_role ∙ control

      pub in_places : Member (far s) (others n places)
      in_places = subst (Member (far s)) (fars_are n ss) (in_map far s own among)

      pub site : Member n (controller_names x.topology)
      site = subst (λ (k : Name). Member k (controller_names x.topology)) m.name (m.near_site control)

      pub last : lasts b ds written n ≡ true
      last = site_lasts b ds written x places here n site

      lasting_with : (t : Session) → Mine b ds written r x n t → lasts b ds written t.far.name ≡ true → lasting b ds written t ≡ true
      lasting_with t q e = both_last (lasts b ds written t.near.name) (lasts b ds written t.far.name) (ap (lasts b ds written) q.name ∙ last) e

      -- its feed has all of the common part, and all that is placed
      fed_by : (P : Map → Type 0) → 1 ≤ r → ((f : Map) → ((k : LowKey) → is_some (object W k) ≡ true → is_some (get f (Low k)) ≡ true) → AllOfSome cs f → P f) → P h.feed
      fed_by P rank whole =
          let f = laid.fed n (far s) in_places is_control in
          feed_is P own (each_weaker (Mine b ds written r x n) (λ t. t.far.role ≡ Configuration → P t.near.held) (λ t q e.
          let l = lasting_with t q (ap (lasts b ds written) (config_is x t.far.name (sym q.far_role ∙ e)) ∙ config_lasts b ds written) in
          whole t.near.held (λ k is. q.held l (Low k) (subst (λ (p : Role). SaysBy b ds written r p t.near.role t.far.name t.near.name (Low k)) (sym e) (rank, is))) (fed_some cs r rank (t.far.name, t.far.role) (t.near.name, t.near.role) t.near.held e q.some)) own mines)
          f.0 (subst (Member (f.0, Configuration)) (sym (fars_are n ss)) f.1)

      placed_some : (k : LowKey) → is_some (object M k) ≡ true → is_some (object W k) ≡ true
      placed_some k e = let w = some_is (object M k) e in ap is_some (in_placed b ds k w.0 w.1)

      pub feed_above : 1 ≤ r → IsAbove M h.feed
      feed_above rank = fed_by (IsAbove M) rank (λ f has some. held_above b ds f (λ k is. has k (placed_some k is)) some)

      pub feed_placed : 1 ≤ r → IsPlacedIn W h.feed
      feed_placed rank = fed_by (IsPlacedIn W) rank (held_placed b ds)

      -- ---- what the agent of a node that stands told here
      pub record IsTold (c : Node) (a : Told) : Type 0 where
        pub told : Member a h.agents
        pub session : Session
        pub to : Mine b ds written r x n session
        pub is_agent : session.far.role ≡ Agent
        pub named : session.far.name ≡ c.name
        pub map_is : a.map ≡ session.near.held
        pub address : a.address ≡ c.address

      pub told_here : (c : Node) → Member c (standing cs) → Member (Some (id_of c)) (agents_of x n) → (a : Told) × IsTold c a
      told_here c stays_c i =
          let q = laid.numbered n (far s) in_places is_control (id_of c) i in
          let in_own : Member (c.name, Agent) (map far own) = subst (Member (c.name, Agent)) (sym (fars_are n ss)) q.0 in
          let t = heard (Mine b ds written r x n) own c.name Agent mines in_own in
          let e = in_enumerate (1 + length (with_role Controller (views own))) (Some (id_of c)) (agents_of x n) i in
          let a : Told = record { session = e.0; address = c.address; map = (heard_from (views own) c.name).map } in
          let role : role_of x c.name ≡ Agent = agent_named x (here_sound b ds written x places here) here.fit.fit c.name c (stands_there b ds written c stays_c (checked x) here.among) in (
            a,
            record {
              told = in_filter_map (λ (e : ℕ × Option NodeId). told_by (views own) e.0 e.1) (e.0, Some (id_of c)) a (enumerate_from (1 + length (with_role Controller (views own))) (agents_of x n)) e.1 refl;
              session = t.0;
              to = t.1;
              is_agent = t.1.far_role ∙ ap (role_of x) t.2 ∙ role;
              named = t.2;
              map_is = ap (λ g. g.map) t.3;
              address = refl;
            },
          )

      -- its publication of an attachment
      pub publishes : (c : Node) (a : Told) → IsTold c a → Member c (standing cs) → 3 ≤ r → (to : Attachment) → Member to (attachments M) → to.node ≡ c.address → (l : LabelNo) × (get a.map (Publish to.instance to.prefix) ≡ Some (Label l))
      publishes c a t stays_c rank to attached at =
          let k : Key = Publish to.instance to.prefix in
          let q = t.to in
          let l = lasting_with t.session q (ap (lasts b ds written) t.named ∙ standing_lasts b ds written c stays_c) in
          let says : SaysBy b ds written r Agent t.session.near.role t.session.far.name t.session.near.name k =
          record { rank = rank; node = c; stays = stays_c; name = sym t.named; to = to; attached = attached; at = at; instance = refl; prefix_is = refl } in
          let there = q.held l k (subst (λ (p : Role). SaysBy b ds written r p t.session.near.role t.session.far.name t.session.near.name k) (sym t.is_agent) says) in
          let v = some_is (get t.session.near.held k) there in
          let w = as_published v.0 (q.told k v.0 v.1 rank) in
          (w.0, ap (λ (m : Map). get m k) t.map_is ∙ v.1 ∙ ap Some w.1)
        where
          as_published : (v : Value) → EntryStood cs asn (t.session.far.name, t.session.far.role) (t.session.near.name, t.session.near.role) (Publish to.instance to.prefix) v → (l : LabelNo) × (v ≡ Label l)
          as_published (Label l) e = (l, refl)
          as_published (Object o) e = absurd e
          as_published (Route o) e = absurd e
          as_published (Entry o) e = absurd e

      -- ---- a path of an attachment
      pub record IsPathOf (to : Attachment) (p : Path) : Type 0 where
        pub prefix : p.prefix ≡ to.prefix
        pub rd : p.rd ≡ distinguisher_of to.node to.instance
        pub targets : p.targets ≡ target_of h.asn to.instance ∷ []

      pub own_there : 3 ≤ r → (to : Attachment) → Member to (attachments M) → (c : Node) → Member c (standing cs) → c.address ≡ to.node → Member (Some (id_of c)) (agents_of x n) → (p : Path) × Member p (own_paths h) × IsPathOf to p
      own_there rank to attached c stays_c at i =
          let t = told_here c stays_c i in
          let l = publishes c t.0 t.1 stays_c rank to attached (sym at) in
          let p : Path = record { prefix = to.prefix; rd = distinguisher_of t.0.address to.instance; next_hop = t.0.address; label = l.0; targets = target_of h.asn to.instance ∷ []; session = t.0.session } in (
            p,
            own_route_in h p (record { agent = t.0; instance = to.instance; told = t.1.told; publishes = l.1; known = known_above b ds written h.feed (feed_above (lower r rank)) to attached; rd = refl; next_hop = refl; targets = refl; session = refl }),
            record { prefix = refl; rd = ap (λ (a : Addr). distinguisher_of a to.instance) (t.1.address ∙ at); targets = refl },
          )
        where
          lower : (r : ℕ) → 3 ≤ r → 1 ≤ r
          lower r h = omega (arith, h)

      pub small : (to : Attachment) → Member to (attachments M) → instance_in (distinguisher_of to.node to.instance) ≡ to.instance
      small to attached =
          let sound = (sound_setup (opening b) (written b (inl refl))).sound in
          let there = attached_in b ds written to attached b (inl refl) in
          instance_in-distinguisher to.node to.instance (known_small (low_map (opening b)) to.instance sound.ordered (sound.known to there))

      -- a route that a peer tells
      pub peer_there : (d : Name) (t : Session) → Member t own → Mine b ds written r x n t → t.far.role ≡ Controller → (k : VpnKey) → (i : InstanceId) → instance_in k.rd ≡ i → SaysBy b ds written r Controller Controller t.far.name t.near.name (Vpn k)
          → (p : Path) × Member p (peer_paths h) × (p.prefix ≡ k.prefix) × (p.rd ≡ k.rd) × (p.targets ≡ target_of asn i ∷ [])
      peer_there d t i q e k inst at says =
          let l = lasting_with t q (site_lasts b ds written x places here t.far.name (q.far_site e)) in
          let near_is : t.near.role ≡ Controller = q.near_role ∙ ap (role_of x) q.name ∙ is_control in
          let there = q.held l (Vpn k) (subst (λ (p : Role). SaysBy b ds written r p t.near.role t.far.name t.near.name (Vpn k)) (sym e) (subst (λ (p : Role). SaysBy b ds written r Controller p t.far.name t.near.name (Vpn k)) (sym near_is) says)) in
          let v = some_is (get t.near.held (Vpn k)) there in
          as_route v.0 v.1 (q.told (Vpn k) v.0 v.1 (four says))
        where
          first : (r d : ℕ) → 4 + suc d ≤ r → 4 ≤ r
          first r d h = omega (arith, h)

          four : SaysBy b ds written r Controller Controller t.far.name t.near.name (Vpn k) → 4 ≤ r
          four (inl h) = h.rank
          four (inr h) = first r h.depth h.rank

          as_route : (v : Value) → get t.near.held (Vpn k) ≡ Some v → EntryStood cs asn (t.far.name, t.far.role) (t.near.name, t.near.role) (Vpn k) v → (p : Path) × Member p (peer_paths h) × (p.prefix ≡ k.prefix) × (p.rd ≡ k.rd) × (p.targets ≡ target_of asn inst ∷ [])
          as_route (Object o) g e = absurd e
          as_route (Label o) g e = absurd e
          as_route (Entry o) g e = absurd e
          as_route (Route o) g f =
              let num = in_enumerate 1 t.near.held h.peers (peer_among own t i e) in
              let p : Path = record { prefix = k.prefix; rd = k.rd; next_hop = o.next_hop; label = o.label; targets = o.targets; session = num.0 } in (
                p,
                in_flat_map (λ (p : ℕ × Map). filter_map (λ e. peer_path p.0 e.0 e.1) (entries p.1)) (num.0, t.near.held) p (enumerate_from 1 h.peers) num.1
                    (in_filter_map (λ (e : Key × Value). peer_path num.0 e.0 e.1) (Vpn k, Route o) p (entries t.near.held) (member_get key_total key_exact t.near.held (Vpn k) (Route o) g) refl),
                refl,
                refl,
                f.1 ∙ ap (λ (j : InstanceId). target_of asn j ∷ []) (sym f.3 ∙ at),
              )

      -- who serves an attachment: an agent here, or one of a peer
      agent_is : (k : Name) (c : Node) → Member c (standing cs) → (to : Attachment) → c.address ≡ to.node → Member k (controller_names x.topology) → IsAmong to.node (agents_at x places k) → Member (Some (id_of c)) (agents_of x k) × Member k c.controllers
      agent_is k c stays_c to at control_k q =
          let first = 1 + length (filter (is_in_role Controller) (others k places)) in
          let e = from_filter_map (λ (e : ℕ × Option NodeId). numbered_at e.0 e.1) q.0 (enumerate_from first (agents_of x k)) q.1 in
          by e.0.0 e.0.1 e.2 (enumerated first e.0 (agents_of x k) e.1)
        where
          by : (num : ℕ) (o : Option NodeId) → numbered_at num o ≡ Some q.0 → Member o (agents_of x k) → Member (Some (id_of c)) (agents_of x k) × Member k c.controllers
          by num None g i = absurd (none_some q.0 g)
          by num (Some id) g i =
              let site_k = from_map (λ (c : NodeId). c.name) k x.topology.controllers control_k in
              let fit : NumbersFit x.topology site_k.0 (agents_of x site_k.0.name) = here.fit.fit site_k.0 site_k.1 in
              let o = fit.only id (subst (λ (k : Name). Member (Some id) (agents_of x k)) (sym site_k.2) i) in
              let v = (valid_iff x.topology x.config).0 here.is_written.valid in
              let address : o.0.address ≡ c.address = ap (λ (d : NodeId). d.address) o.2 ∙ ap (λ (e : ℕ × Addr). e.1) (same_Some (num, id.address) q.0 g) ∙ q.2 ∙ sym at in
              let same : o.0 ≡ c = one_node_at x.topology x.config v o.0 c (contains_of x.topology.nodes o.0 o.1) (contains_of x.topology.nodes c (stands_among b ds written c stays_c (checked x) here.among)) (ap (λ (a : Addr). a.0) address) in (
                subst (λ (d : NodeId). Member (Some d) (agents_of x k)) (sym o.2 ∙ ap id_of same) i,
                subst (λ (k : Name). Member k c.controllers) site_k.2 (subst (λ (c : Node). Member site_k.0.name c.controllers) same (listed_member site_k.0 o.0 o.3)),
              )

      pub serves : (to : Attachment) → Member to (attachments M) → (c : Node) → Member c (standing cs) → c.address ≡ to.node
          → Member (Some (id_of c)) (agents_of x n) ⊎ ((t : Session) × Member t own × Mine b ds written r x n t × (t.far.role ≡ Controller) × Member t.far.name c.controllers)
      serves to attached c stays_c at =
          let there = attached_in b ds written to attached (checked x) here.among in
          elim (laid.served n (far s) in_places is_control to there) as (λ _. Member (Some (id_of c)) (agents_of x n) ⊎ ((t : Session) × Member t own × Mine b ds written r x n t × (t.far.role ≡ Controller) × Member t.far.name c.controllers)) [
            | inl l ↦ inl (agent_is n c stays_c to at site l).0
            | inr q ↦
                let o = from_map (λ (o : Party). agents_at x places o.0) q.0 (filter (is_in_role Controller) (others n places)) q.1 in
                let f = from_filter (is_in_role Controller) o.0 (others n places) o.1 in
                let t = with_party (Mine b ds written r x n) own mines o.0 (subst (Member o.0) (sym (fars_are n ss)) f.0) in
                let role : t.0.far.role ≡ Controller = ap (λ (p : Party). p.1) t.3 ∙ role_is Controller o.0.1 f.1 in
                let name : t.0.far.name ≡ o.0.0 = ap (λ (p : Party). p.0) t.3 in
                let k = agent_is t.0.far.name c stays_c to at (t.2.far_site role) (subst (λ (k : Name). IsAmong to.node (agents_at x places k)) (sym name) (subst (IsAmong to.node) (sym o.2) q.2)) in
                inr (t.0, t.1, t.2, role, k.1)
          ]

      -- a path of each attachment is there
      pub path_there : 4 ≤ r → (to : Attachment) → Member to (attachments M) → (p : Path) × Member p (own_paths h ++ peer_paths h) × (p.prefix ≡ to.prefix) × (p.targets ≡ target_of asn to.instance ∷ [])
      path_there rank to attached =
          let c = attached_standing b ds written to attached in
          elim (serves to attached c.0 c.1 c.2) as (λ _. (p : Path) × Member p (own_paths h ++ peer_paths h) × (p.prefix ≡ to.prefix) × (p.targets ≡ target_of asn to.instance ∷ [])) [
            | inl l ↦
                let p = own_there (lower r rank) to attached c.0 c.1 c.2 l in
                (p.0, in_left p.0 (own_paths h) (peer_paths h) p.1, p.2.prefix, p.2.targets ∙ ap (λ (n : ℕ). target_of n to.instance ∷ []) here.asn)
            | inr t ↦
                let k : VpnKey = record { rd = distinguisher_of to.node to.instance; prefix = to.prefix } in
                let p = peer_there n t.0 t.1 t.2 t.3 k to.instance (small to attached) (inl (record { rank = rank; to = to; served = record { attached = attached; node = c.0; stays = c.1; at = c.2; lists = t.4 }; rd = refl; prefix = refl })) in
                (p.0, in_right p.0 (own_paths h) (peer_paths h) p.1, p.2, p.4)
          ]
        where
          lower : (r : ℕ) → 4 ≤ r → 3 ≤ r
          lower r h = omega (arith, h)
