-- Where all that is held is right up to a rank, all that is wanted is right up to the next one, for control nodes and agents.
use Rattle.std.specs.FinMap.{get, same_map}
use Rattle.std.specs.List.{AllByRecursion, filter}
use Rattle.std.specs.Option.{option_map, unwrap_or}
use Rattle.std.specs.Prelude.{Bool, List, cond, false, map, suc, true, ℕ, [], ◌+◌, ◌∷◌, ◌≡◌, ◌≤◌}
use Rattle.std.specs.declared.option.Option.TheVariants.{None, Some}
use Rattle.std.specs.declared.option.Option.{Option}
use Rattle.std.proofs.Common.{ap, arith, inl, inr, refl, subst, sym, ◌∙◌}
use Rattle.ov_types.specs.First.{same_name}
use Rattle.ov_types.specs.declared.objects.LowKey.{LowKey}
use Rattle.ov_types.specs.declared.prefix.Addr.{Addr}
use Rattle.ov_types.specs.declared.rows.NodeId.{NodeId}
use Rattle.ov_types.specs.declared.objects.LowValue.{LowValue}
use Rattle.route_targets.specs.Numbers.{target_of}
use Rattle.config_types.specs.declared.topology.Node.{Node}
use Rattle.schedule_script.specs.ConfigCheck.Finding.{node_named}
use Rattle.node_laws.specs.NodeModel.Agent as agent
use Rattle.node_laws.specs.NodeModel.Agent.{slice_in_use, told_of}
use Rattle.node_laws.specs.NodeModel.Keys.{Key, Low, Publish, Row, Subscribe, Vpn}
use Rattle.node_laws.specs.NodeModel.Maps.{Map, objects}
use Rattle.node_laws.specs.NodeModel.Members.{Member}
use Rattle.node_laws.specs.NodeModel.Paths.{Holdings, Told}
use Rattle.node_laws.specs.NodeModel.Ranks.{AgreeBelow, IsTargeted, instance_in, peer_rank}
use Rattle.node_laws.specs.NodeModel.Values.{Route, Value}
use Rattle.node_laws.specs.NodeModel.Wants.{route_entry, slice, wanted_by_agent, wanted_by_peers}
use Rattle.node_laws.proofs.NodeModel.Heard.{same_options}
use Rattle.node_laws.proofs.NodeModel.Local.{objects_same}
use Rattle.node_laws.proofs.NodeModel.Locality.{local_by_peers}
use Rattle.node_laws.proofs.NodeModel.Members.{from_entry, from_map, in_map}
use Rattle.node_laws.proofs.NodeModel.Objects.{object_of}
use Rattle.node_laws.proofs.NodeModel.Orders.{key_exact, key_total}
use Rattle.node_laws.proofs.NodeModel.Wanted.{named, object_to, wanted_object}
use Rattle.machine_model.specs.Moments.{Each, NodePair, nodes}
use Rattle.machine_model.specs.Network.{address_in, agent_holdings, config, control_holdings, heard_from, sessions_of, told_on, view, wanted, wanted_from, wanted_from_control}
use Rattle.machine_model.specs.Session.{Agent, Configuration, Controller, Role, Session, are_peers, is_up_phase, turned}
use Rattle.machine_model.specs.Setup.{Name, Setup, agents_of, longest, low}
use Rattle.machine_model.proofs.Twins.{all_to_own}
use Rattle.machine_laws.specs.Settling as settling
use Rattle.machine_laws.specs.Settling.{Steps}
use Rattle.machine_laws.specs.Compiled as compiled
use Rattle.machine_laws.specs.Compiled.{Agents, compiled_holdings, compiled_routes, told_to_agent, told_to_peers}
use Rattle.machine_laws.specs.Goal.{HasRoles, IsLaid, Party, address_of, agent_rank, agents_among, agents_at, goal, goal_map, is_in_role, others, rank, rank_by, role_in, role_of}
use Rattle.machine_laws.specs.Sound.{IsServed, IsSound}
use Rattle.machine_laws.proofs.AgentMaps.{objects-told_to_agent, told_object, wants_itself_by_agent}
use Rattle.machine_laws.proofs.Fixpoint.{wants_itself_by_peers}
use Rattle.machine_laws.proofs.OneRow.{has_one_row}
use Rattle.machine_laws.proofs.Peers.{host_target, routes_told}
use Rattle.machine_laws.proofs.RankBounds.{peer_rank-ge, peer_rank-le}
use Rattle.machine_laws.proofs.Told.{pair, told_map}
use Rattle.machine_laws.proofs.Views.{all_have, control_is, far, fars_are, feed_held, heard, own_named, peer_maps, peers_agree, peers_have, same_zip, views}

-- ---- small things
each_from : (F W : Session → Type 0) (ss : List Session) → Each F ss → ((s : Session) → Member s ss → F s → W s) → Each W ss
each_from F W [] f h = tt
each_from F W (s ∷ ss) f h = (h s (inl refl) f.0, each_from F W ss f.1 (λ t m g. h t (inr m) g))

each_weak : (F W : Session → Type 0) (ss : List Session) → ((s : Session) → F s → W s) → Each F ss → Each W ss
each_weak F W [] h f = tt
each_weak F W (s ∷ ss) h f = (h s f.0, each_weak F W ss h f.1)

each_at : (F : Session → Type 0) (ss : List Session) (s : Session) → Each F ss → Member s ss → F s
each_at F [] s f m = absurd m
each_at F (t ∷ ss) s f (inl e) = subst F e f.0
each_at F (t ∷ ss) s f (inr m) = each_at F ss s f.1 m

pub role_agent : (x : Setup) (n : Name) → role_of x n ≡ Agent → (c : Node) × (node_named x.topology n ≡ Some c)
role_agent x n e = go (same_name n config) (node_named x.topology n) refl e
  where
    none : Configuration ≡ Agent → ⊥
    none e = cc

    neither : Controller ≡ Agent → ⊥
    neither e = cc

    go : (b : Bool) (o : Option Node) → node_named x.topology n ≡ o → cond b Configuration (role_in o) ≡ Agent → (c : Node) × (node_named x.topology n ≡ Some c)
    go true o is e = absurd (none e)
    go false None is e = absurd (neither e)
    go false (Some c) is e = (c, is)

-- ---- what is told to peers has the target of its distinguisher's instance
abbrev AsTargeted : ℕ → Key → Value → Type 0
AsTargeted asn (Vpn k) (Route r) = r.targets ≡ target_of asn (instance_in k.rd) ∷ []
AsTargeted asn k v = Unit {0}

told_targeted : (asn : ℕ) (feed : Map) (agents : Agents) → IsSound feed → IsTargeted asn (told_to_peers asn feed agents)
told_targeted asn feed agents sound k r h =
    let q = from_map route_entry (pair (Vpn k) (Route r)) (compiled_routes asn feed agents) (from_entry key_total key_exact (Vpn k) (Route r) (map route_entry (compiled_routes asn feed agents)) h) in
    let targeted = host_target asn feed q.0 sound (routes_told asn feed agents q.0 q.1) in
    subst (λ (e : Key × Value). AsTargeted asn e.0 e.1) q.2 targeted

-- ---- a slice among rows
same_slices : (h : Holdings) (a : Told) (feed : Map) → h.feed ≡ feed → (k : LowKey) (v : Value) → get (wanted_by_agent h a) (Low k) ≡ Some v → get (told_to_agent feed a.address) (Low k) ≡ Some v
same_slices h a feed e k v w =
    let q = wanted_object h a k v w in
    let there : Member (named k q.0) (slice feed a.address) = subst (λ (m : Map). Member (named k q.0) (slice m a.address)) e q.1 in
    object_of (told_to_agent feed a.address) k q.0 (subst (λ (es : List (LowKey × LowValue)). Member (named k q.0) es) (sym (objects-told_to_agent feed a.address)) there) ∙ ap Some (sym q.2)

told_slices : (h : Holdings) (a : Told) (feed : Map) → h.feed ≡ feed → (k : LowKey) (v : Value) → get (told_to_agent feed a.address) (Low k) ≡ Some v → get (wanted_by_agent h a) (Low k) ≡ Some v
told_slices h a feed e k v w =
    let o = told_object feed a.address k v w in
    object_to h a k o.0 (subst (λ (m : Map). Member (named k o.0) (slice m a.address)) (sym e) o.1) ∙ ap Some (sym o.2)

slice_wanted : (h : Holdings) (a : Told) (feed : Map) → h.feed ≡ feed → (k : LowKey) → get (wanted_by_agent h a) (Low k) ≡ get (told_to_agent feed a.address) (Low k)
slice_wanted h a feed e k = same_options (get (wanted_by_agent h a) (Low k)) (get (told_to_agent feed a.address) (Low k)) (same_slices h a feed e k) (told_slices h a feed e k)

module _ (x : Setup) (places : List NodePair) (laid : IsLaid x places) where
  abbrev RightAt : ℕ → Session → Type 0
  RightAt r s = settling.RightAt (rank x) (goal x places) r s

  -- a session of a node, seen from it
  pub record Own (r : ℕ) (n : Name) (s : Session) : Type 0 where
    pub name : s.near.name ≡ n
    pub near_role : s.near.role ≡ role_of x s.near.name
    pub far_role : s.far.role ≡ role_of x s.far.name
    pub right : RightAt r s
    pub targeted : IsTargeted x.topology.asn s.near.held

  -- what is held, by the roles
  pub right_by : (r : ℕ) (s : Session) (q p : Role) → role_of x s.far.name ≡ q → role_of x s.near.name ≡ p → RightAt r s → (k : Key) → rank_by x q p k ≤ r → get s.near.held k ≡ get (goal_map x places s.far.name q s.near.name p) k
  right_by r s q p eq ep right k h =
      right.held k (subst (λ q. rank_by x q (role_of x s.near.name) k ≤ r) (sym eq) (subst (λ p. rank_by x q p k ≤ r) (sym ep) h))
      ∙ (λ i. get (goal_map x places s.far.name (eq i) s.near.name (ep i)) k)

  module _ (r : ℕ) (n : Name) where
    pub near_is : (p : Role) (s : Session) → role_of x n ≡ p → Own r n s → role_of x s.near.name ≡ p
    near_is p s e o = ap (role_of x) o.name ∙ e

    -- ---- a control node
    module _ (control : role_of x n ≡ Controller) where
      feed_right : (s : Session) → 1 ≤ r → Own r n s → s.far.role ≡ Configuration → s.near.held ≡ (low x)
      feed_right s h o e = same_map key_total key_exact s.near.held (low x) (λ k. right_by r s Configuration Controller (sym o.far_role ∙ e) (near_is Controller s control o) o.right k h)

      agent_right : (s : Session) → 3 ≤ r → Own r n s → s.far.role ≡ Agent → s.near.held ≡ told_map (low x) (address_of x s.far.name)
      agent_right s h o e = same_map key_total key_exact s.near.held (told_map (low x) (address_of x s.far.name)) (λ k. right_by r s Agent Controller (sym o.far_role ∙ e) (near_is Controller s control o) o.right k h)

      peer_right : (s : Session) → Own r n s → s.far.role ≡ Controller → (k : Key) → peer_rank (low x) k ≤ r → get s.near.held k ≡ get (told_to_peers x.topology.asn (low x) (agents_at x places s.far.name)) k
      peer_right s o e k h = right_by r s Controller Controller (sym o.far_role ∙ e) (near_is Controller s control o) o.right k h

      module _ (own : List Session) (facts : Each (Own r n) own) (os : map far own ≡ others n places) (one : Session) (among : Member one own) where
        in_places : Member (far one) (others n places)
        in_places = subst (Member (far one)) os (in_map far one own among)

        fed : (m : Name) × Member (m, Configuration) (map far own)
        fed = let q = laid.fed n (far one) in_places control in (q.0, subst (Member (q.0, Configuration)) (sym os) q.1)

        abbrev pub mine : Agents
        mine = agents_among x n (map far own)

        abbrev pub theirs : List Agents
        theirs = map (λ o. agents_at x places o.0) (filter (is_in_role Controller) (map far own))

        pub served : IsServed (low x) mine theirs
        served = subst (λ os. IsServed (low x) (agents_among x n os) (map (λ o. agents_at x places o.0) (filter (is_in_role Controller) os))) (sym os) (laid.served n (far one) in_places control)

        holds_feed : 1 ≤ r → (control_holdings x n (views own)).feed ≡ (low x)
        holds_feed h = feed_held (low x) own (each_weak (Own r n) (λ s. s.far.role ≡ Configuration → s.near.held ≡ (low x)) own (λ s o. feed_right s h o) facts) fed.0 fed.1

        abbrev with_peers : List Map → Holdings
        with_peers ps = record { asn = x.topology.asn; feed = (low x); peers = ps; agents = map (compiled.told_by_agent (low x)) mine }

        -- what the agent of a number told
        told_right : 3 ≤ r → (a : NodeId) → Member (a.name, Agent) (others n places) × (address_of x a.name ≡ a.address) → (heard_from (views own) a.name).map ≡ told_map (low x) a.address
        told_right h a q =
            let in_own : Member (a.name, Agent) (map far own) = subst (Member (a.name, Agent)) (sym os) q.0 in
            let o = from_map far (a.name, Agent) own in_own in
            let there = each_at (Own r n) own o.0 facts o.1 in
            let is_agent : role_of x a.name ≡ Agent = ap (λ (n : Party). role_of x n.0) (sym o.2) ∙ sym there.far_role ∙ ap (λ (n : Party). n.1) o.2 in
            let t = heard (Own r n) own a.name Agent facts in_own in
            ap (λ (h : agent.Heard). h.map) t.3
            ∙ agent_right t.0 h t.1 (t.1.far_role ∙ ap (role_of x) t.2 ∙ is_agent)
            ∙ ap (λ (m : Name). told_map (low x) (address_of x m)) t.2
            ∙ ap (told_map (low x)) q.1

        -- an agent is told under the address of its number
        address_right : (s : Session) → Member s own → s.far.role ≡ Agent → address_in (agents_of x n) s.far.name ≡ address_of x s.far.name
        address_right s i e = laid.addressed n (far s) (subst (Member (far s)) os (in_map far s own i)) control e

        holds : 3 ≤ r → control_holdings x n (views own) ≡ with_peers (peer_maps own)
        holds h =
            control_is x n own (each_weak (Own r n) (λ s. s.far.role ≡ Configuration → s.near.held ≡ (low x)) own (λ s o. feed_right s (weaker r h) o) facts)
            (λ a i. told_right h a (laid.numbered n (far one) in_places control a i)) fed.0 fed.1
          where
            weaker : (r : ℕ) → 3 ≤ r → 1 ≤ r
            weaker r h = omega arith

        -- towards a peer
        peer_wanted : (k : Key) → peer_rank (low x) k ≤ suc r → get (wanted_by_peers (control_holdings x n (views own))) k ≡ get (told_to_peers x.topology.asn (low x) mine) k
        peer_wanted k h =
            ap (λ (hs : Holdings). get (wanted_by_peers hs) k) (holds (three (peer_rank (low x) k) r (peer_rank-ge (low x) k) h))
            ∙ local_by_peers x.topology.asn (low x) (map (compiled.told_by_agent (low x)) mine) laid.sound.ordered r (peer_maps own) (map (told_to_peers x.topology.asn (low x)) theirs)
            (peers_agree (AgreeBelow (low x) r) (told_to_peers x.topology.asn (low x)) (λ o. agents_at x places o.0) own
            (each_weak (Own r n) (λ s. s.far.role ≡ Controller → AgreeBelow (low x) r s.near.held (told_to_peers x.topology.asn (low x) (agents_at x places s.far.name))) own (λ s o e. peer_right s o e) facts))
            (peers_have (IsTargeted x.topology.asn) own (each_weak (Own r n) (λ s. s.far.role ≡ Controller → IsTargeted x.topology.asn s.near.held) own (λ s o _. o.targeted) facts))
            (all_have (IsTargeted x.topology.asn) (told_to_peers x.topology.asn (low x)) (λ agents. told_targeted x.topology.asn (low x) agents laid.sound) theirs) k h
            ∙ ap (λ (m : Map). get m k) (wants_itself_by_peers x.topology.asn (low x) mine theirs laid.sound served)
          where
            three : (a r : ℕ) → 4 ≤ a → a ≤ suc r → 3 ≤ r
            three a r h k = omega arith

        -- all that a control node holds, once every rank between control nodes is right
        pub all_held : longest x + 4 ≤ r → control_holdings x n (views own) ≡ compiled_holdings x.topology.asn (low x) mine theirs
        all_held h =
            holds (three (longest x) r h)
            ∙ ap with_peers (same_zip (peer_maps own) (map (told_to_peers x.topology.asn (low x)) theirs)
            (peers_agree (λ m n. m ≡ n) (told_to_peers x.topology.asn (low x)) (λ o. agents_at x places o.0) own
            (each_weak (Own r n) (λ s. s.far.role ≡ Controller → s.near.held ≡ told_to_peers x.topology.asn (low x) (agents_at x places s.far.name)) own
            (λ s o e. same_map key_total key_exact s.near.held (told_to_peers x.topology.asn (low x) (agents_at x places s.far.name)) (λ k. peer_right s o e k (within (peer_rank (low x) k) (longest x) r (peer_rank-le x places laid k) h))) facts)))
          where
            three : (a r : ℕ) → a + 4 ≤ r → 3 ≤ r
            three a r h = omega arith

            within : (a b r : ℕ) → a ≤ 4 + b → b + 4 ≤ r → a ≤ r
            within a b r h k = omega arith

        rows_wanted : (s : Session) → Member s own → Own r n s → s.far.role ≡ Agent → (k : Key) → longest x + 5 ≤ suc r → get (wanted_by_agent (control_holdings x n (views own)) (told_on (agents_of x n) (view s))) k ≡ get (told_to_agent (low x) (address_of x s.far.name)) k
        rows_wanted s m o e k h =
            (λ i. get (wanted_by_agent (all_held (four (longest x) r h) i) (record { session = 0; address = address_right s m e i; map = agent_right s (three (longest x) r h) o e i })) k)
            ∙ ap (λ (m : Map). get m k) (wants_itself_by_agent x.topology.asn (low x) mine theirs laid.sound served (has_one_row (low x) laid.sound) 0 (address_of x s.far.name))
          where
            four : (a r : ℕ) → a + 5 ≤ suc r → a + 4 ≤ r
            four a r h = omega arith

            three : (a r : ℕ) → a + 5 ≤ suc r → 3 ≤ r
            three a r h = omega arith

        -- towards an agent
        agent_wanted : (s : Session) → Member s own → Own r n s → s.far.role ≡ Agent → (k : Key) → agent_rank (longest x) k ≤ suc r → get (wanted_by_agent (control_holdings x n (views own)) (told_on (agents_of x n) (view s))) k ≡ get (told_to_agent (low x) (address_of x s.far.name)) k
        agent_wanted s m o e (Low k) h = slice_wanted (control_holdings x n (views own)) (told_on (agents_of x n) (view s)) (low x) (holds_feed (one_of r h)) k ∙ ap (λ (a : Addr). get (told_to_agent (low x) a) (Low k)) (address_right s m e)
          where
            one_of : (r : ℕ) → 2 ≤ suc r → 1 ≤ r
            one_of r h = omega arith
        agent_wanted s m o e (Vpn v) h = rows_wanted s m o e (Vpn v) h
        agent_wanted s m o e (Row i p) h = rows_wanted s m o e (Row i p) h
        agent_wanted s m o e (Publish i p) h = rows_wanted s m o e (Publish i p) h
        agent_wanted s m o e (Subscribe i) h = rows_wanted s m o e (Subscribe i) h

    -- ---- an agent
    module _ (is_agent : role_of x n ≡ Agent) (own : List Session) (facts : Each (Own r n) own) (os : map far own ≡ others n places) where
      not_peers : (p q : Role) → p ≡ Agent → are_peers p q ≡ false
      not_peers p q e = ap (λ p. are_peers p q) e

      pub slice_right : 2 ≤ r → slice_in_use (agent_holdings x n (views own)) ≡ slice (low x) (address_of x n)
      slice_right h =
          let c = role_agent x n is_agent in
          let f = laid.first n c.0 c.1 is_agent in
          let m = f.0 in
          let in_own : Member (m, Controller) (map far own) = subst (Member (m, Controller)) (sym os) f.3 in
          let o = from_map far (m, Controller) own in_own in
          let there = each_at (Own r n) own o.0 facts o.1 in
          let is_control : role_of x m ≡ Controller = ap (λ (n : Party). role_of x n.0) (sym o.2) ∙ sym there.far_role ∙ ap (λ (n : Party). n.1) o.2 in
          let t = heard (Own r n) own m Controller facts in_own in
          let s = t.0 in let w = t.1 in
          let up : is_up_phase s.near.phase ≡ true = w.right.up (one_of r h) (not_peers s.near.role s.far.role (w.near_role ∙ near_is Agent s is_agent w)) in
          let same : objects s.near.held ≡ objects (told_to_agent (low x) (address_of x s.near.name)) =
          objects_same s.near.held (told_to_agent (low x) (address_of x s.near.name)) (λ k. right_by r s Controller Agent (ap (role_of x) t.2 ∙ is_control) (near_is Agent s is_agent w) w.right (Low k) h) in
          ap (λ (o : Option Node). slice_in_use (map (heard_from (views own)) (unwrap_or (option_map (λ (n : Node). n.controllers) o) []))) c.1
          ∙ ap (λ (ns : List Name). slice_in_use (map (heard_from (views own)) ns)) f.2
          ∙ ap (λ (h : agent.Heard). cond h.is_up (objects h.map) (slice_in_use (map (heard_from (views own)) f.1))) t.3
          ∙ ap (λ b. cond b (objects s.near.held) (slice_in_use (map (heard_from (views own)) f.1))) up
          ∙ same ∙ objects-told_to_agent (low x) (address_of x s.near.name) ∙ ap (λ n. slice (low x) (address_of x n)) w.name
        where
          one_of : (r : ℕ) → 2 ≤ r → 1 ≤ r
          one_of r h = omega arith

    -- ---- any node
    module _ (own : List Session) (facts : Each (Own r n) own) (os : map far own ≡ others n places) where
      wanted_by : (p q : Role) (s : Session) → Member s own → Own r n s → role_of x n ≡ p → s.near.role ≡ p → s.far.role ≡ q → (k : Key) → rank_by x p q k ≤ suc r → get (wanted_from x (views own) (view s) p) k ≡ get (goal_map x places s.near.name p s.far.name q) k
      wanted_by Configuration q s m o e a b k h = refl
      wanted_by Agent q s m o e a b k h =
          ap (λ (n : Name). get (told_of (slice_in_use (agent_holdings x n (views own)))) k) o.name
          ∙ ap (λ l. get (told_of l) k) (slice_right e own facts os (two r h))
          ∙ ap (λ (n : Name). get (told_of (slice (low x) (address_of x n))) k) (sym o.name)
        where
          two : (r : ℕ) → 3 ≤ suc r → 2 ≤ r
          two r h = omega arith
      wanted_by Controller Configuration s m o e a b k h = ap (λ (m : Name). get (wanted_from_control x.topology.asn (agents_of x m) (views own) (view s) s.far.role) k) o.name
          ∙ ap (λ q. get (wanted_from_control x.topology.asn (agents_of x n) (views own) (view s) q) k) b
      wanted_by Controller Controller s m o e a b k h =
          ap (λ (m : Name). get (wanted_from_control x.topology.asn (agents_of x m) (views own) (view s) s.far.role) k) o.name
          ∙ ap (λ q. get (wanted_from_control x.topology.asn (agents_of x n) (views own) (view s) q) k) b
          ∙ peer_wanted e own facts os s m k h
          ∙ ap (λ os. get (told_to_peers x.topology.asn (low x) (agents_among x n os)) k) os
          ∙ ap (λ (n : Name). get (told_to_peers x.topology.asn (low x) (agents_at x places n)) k) (sym o.name)
      wanted_by Controller Agent s m o e a b k h =
          ap (λ (m : Name). get (wanted_from_control x.topology.asn (agents_of x m) (views own) (view s) s.far.role) k) o.name
          ∙ ap (λ q. get (wanted_from_control x.topology.asn (agents_of x n) (views own) (view s) q) k) b
          ∙ agent_wanted e own facts os s m s m o b k h

      wanted_right : (s : Session) → Member s own → Own r n s → (k : Key) → rank x s.near.name s.far.name k ≤ suc r → get (wanted x (views own) (view s)) k ≡ goal x places s.near.name s.far.name k
      unfolding wanted
      wanted_right s m o k h =
          let p = role_of x s.near.name in let q = role_of x s.far.name in
          ap (λ p. get (wanted_from x (views own) (view s) p) k) o.near_role
          ∙ wanted_by p q s m o (ap (role_of x) (sym o.name)) o.near_role o.far_role k h

  -- ---- the premise of the bound
  abbrev Known : ℕ → Session → Type 0
  Known r s = (s.near.role ≡ role_of x s.near.name) × (s.far.role ≡ role_of x s.far.name) × RightAt r s × IsTargeted x.topology.asn s.near.held

  known_own : (r : ℕ) (n : Name) (own : List Session) → Each (λ s. s.near.name ≡ n) own → Each (Known r) own → Each (Own r n) own
  known_own r n [] a b = tt
  known_own r n (s ∷ own) a b = (record { name = a.0; near_role = b.0.0; far_role = b.0.1; right = b.0.2; targeted = b.0.3 }, known_own r n own a.1 b.1)

  roles_each : (ss : List Session) → AllByRecursion (HasRoles x) (map nodes ss) → Each (λ s. HasRoles x (nodes s)) ss
  roles_each [] a = tt
  roles_each (s ∷ ss) a = (a.0, roles_each ss a.1)

  module _ (P : Session → Type 0) (fairs : (s : Session) → P s → IsTargeted x.topology.asn s.near.held × IsTargeted x.topology.asn s.far.held) where
    known_each : (r : ℕ) (ss : List Session) → Each (λ s. HasRoles x (nodes s)) ss → Each P ss → Each (λ s. RightAt r s × RightAt r (turned s)) ss → Each (λ s. Known r s × Known r (turned s)) ss
    known_each r [] a f b = tt
    known_each r (s ∷ ss) a f b = (((a.0.0, a.0.1, b.0.0, (fairs s f.0).0), (a.0.1, a.0.0, b.0.1, (fairs s f.0).1)), known_each r ss a.1 f.1 b.1)

    -- each node's sessions
    pub own_each : (r : ℕ) (ss : List Session) → map nodes ss ≡ places → Each P ss → Each (λ s. RightAt r s × RightAt r (turned s)) ss → (n : Name) → Each (Own r n) (sessions_of n ss)
    own_each r ss same fair right n =
        known_own r n (sessions_of n ss) (own_named n ss) (all_to_own (Known r) n ss (known_each r ss (roles_each ss (subst (AllByRecursion (HasRoles x)) (sym same) laid.roles)) fair right))

    pub steps : Steps (rank x) (goal x places) x places P
    steps ss r same fair right n =
        let own = sessions_of n ss in
        let facts = own_each r ss same fair right n in
        let os : map far own ≡ others n places = fars_are n ss ∙ ap (others n) same in
        each_from (Own r n) (λ s. (k : Key) → rank x s.near.name s.far.name k ≤ suc r → get (wanted x (views own) (view s)) k ≡ goal x places s.near.name s.far.name k) own facts (λ s m o. wanted_right r n own facts os s m o)
