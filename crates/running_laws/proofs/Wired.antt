-- Which node is at the other end of a session.
use Rattle.std.specs.Prelude.{◌≡◌, ◌⊎◌, ◌<◌, ◌≤◌, ◌+◌, ◌-◌, ◌==◌, ◌^◌, ℕ, zero, suc, List, [], ◌∷◌, ◌++◌, length, map, Bool, true, false, not}
use Rattle.std.specs.Prelude.{find, nat_le, nat_lt, cond, ◌&&◌, IsTrue}
use Rattle.std.specs.Option.{unwrap_or}
use Rattle.std.specs.List.{slice_index_or}
use Rattle.std.specs.declared.option.Option.{Option}
use Rattle.std.specs.declared.option.Option.TheVariants.{None, Some}
use Rattle.std.proofs.Common.{refl, sym, ◌∙◌, ap, subst, inl, inr, arith}
use Rattle.std.proofs.lemmas.Bool.{and_from, le-leb, leb-false, leb-true, lt-leb, ne_eqb, true≢false}
use Rattle.std.proofs.lemmas.Option.{same_Some}
use Rattle.std.proofs.lemmas.List.{get_or_append_left, get_or-append_right, length-map}
use Rattle.ov_types.specs.First.{same_name}
use Rattle.ov_types.specs.Name.{is_name}
use Rattle.ov_types.specs.declared.rows.NodeId.{NodeId}
use Rattle.config_types.specs.declared.topology.Node.{Node}
use Rattle.node_model.specs.Members.{Member}
use Rattle.ov_types.proofs.FirstLemmas.{same_name_self}
use Rattle.node_model.proofs.Members.{from_filter, from_map, in_either, in_left, in_map, in_right, none_some}
use Rattle.running_nodes.specs.ConfigNode.Beginning as configuration
use Rattle.running_nodes.specs.ControlNode.Beginning as control
use Rattle.running_nodes.specs.ControlNode.Core.{is_peer}
use Rattle.running_nodes.specs.ControlNode.ControlPlan.{ControlPlan}
use Rattle.running_nodes.specs.AgentNode.Beginning as agent
use Rattle.machine_laws.specs.MachineModel.Moments.{HasNumbers, NumbersFit}
use Rattle.machine_laws.specs.MachineModel.Network.{config}
use Rattle.machine_laws.specs.MachineModel.Setup.{Name, Setup, agents_of, checked}
use Rattle.running_nodes.specs.Controls.{Controls, plan_of}
use Rattle.running_nodes.specs.Seats.{Who, Configuring, Controlling, Forwarding, agent_plan, control_plan, controller_named, name_of, name_there, names_of, no_node, others_of, whos}
use Rattle.running_laws.proofs.Named.{AreNodes, IsAddress}

-- ---- the nodes of a topology
pub each_who : (x : Setup) (P : Who → Type 0) → P (Configuring (checked x))
    → ((c : NodeId) → Member c x.topology.controllers → P (Controlling (control_plan x c)))
    → ((n : Node) → Member n x.topology.nodes → P (Forwarding (agent_plan x.topology n)))
    → (who : Who) → Member who (whos x) → P who
each_who x P first sites agents who (inl e) = subst P e first
each_who x P first sites agents who (inr m) =
    let site : NodeId → Who = λ c. Controlling (control_plan x c) in
    let forward : Node → Who = λ n. Forwarding (agent_plan x.topology n) in
    elim (in_either who (map site x.topology.controllers) (map forward x.topology.nodes) m) as (λ _. P who) [
      | inl l ↦ let q = from_map site who x.topology.controllers l in subst P q.2 (sites q.0 q.1)
      | inr r ↦ let q = from_map forward who x.topology.nodes r in subst P q.2 (agents q.0 q.1)
    ]

-- what is known of a node by itself
abbrev pub HasAddress : Who → Type 0
HasAddress (Controlling c) = (c.asn < 2 ^ 32) × IsAddress c.me.address.0
HasAddress _ = Unit {0}

pub record IsSound (who : Who) : Type 0 where
  pub name : IsTrue (is_name (name_of who))
  pub numbers : HasAddress who

config_is_name : IsTrue (is_name config)
config_is_name = refl

pub sound : (x : Setup) → AreNodes x.topology → (who : Who) → Member who (whos x) → IsSound who
sound x are =
    each_who x IsSound (record { name = config_is_name; numbers = tt })
    (λ c m. record { name = are.site_name c m; numbers = (are.asn, are.site_address c m) })
    (λ n m. record { name = are.agent_name n m; numbers = tt })

-- ---- lists of nodes
name_at : (nodes : List NodeId) (i : ℕ) → i < length nodes
    → slice_index_or (names_of nodes) i None ≡ Some (slice_index_or nodes i no_node).name
name_at [] i lt = absurd (omega (arith, lt))
name_at (n ∷ nodes) zero lt = refl
name_at (n ∷ nodes) (suc i) lt = name_at nodes i (omega (arith, lt))

many_names : (nodes : List NodeId) → length (names_of nodes) ≡ length nodes
many_names nodes = length-map nodes (λ (n : NodeId). Some n.name)

pub within_at : (names : List (Option Name)) (i : ℕ) (name : Name) → slice_index_or names i None ≡ Some name → i < length names
within_at [] i name e = absurd (none_some name e)
within_at (o ∷ names) zero name e = omega arith
within_at (o ∷ names) (suc i) name e = let less = within_at names i name e in omega (arith, less)

-- the agent of a number at which there is somebody
record AgentOf (agents : List (Option NodeId)) (k : ℕ) (name : Name) : Type 0 where
  agent : NodeId
  member : Member (Some agent) agents
  named_so : agent.name ≡ name
  at : (me d : NodeId) → slice_index_or (map (λ o. unwrap_or o me) agents) k d ≡ agent

agent_of : (agents : List (Option NodeId)) (k : ℕ) (name : Name)
    → slice_index_or (map name_there agents) k None ≡ Some name → AgentOf agents k name
agent_of [] k name e = absurd (none_some name e)
agent_of (None ∷ agents) zero name e = absurd (none_some name e)
agent_of (Some a ∷ agents) zero name e =
    record { agent = a; member = inl refl; named_so = same_Some a.name name e; at = λ me d. refl }
agent_of (o ∷ agents) (suc k) name e =
    let q = agent_of agents k name e in
    record { agent = q.agent; member = inr q.member; named_so = q.named_so; at = q.at }

in_at : {A : Type 0} (xs : List A) (i : ℕ) (d : A) → i < length xs → Member (slice_index_or xs i d) xs
in_at [] i d lt = absurd (omega (arith, lt))
in_at (x ∷ xs) zero d lt = inl refl
in_at (x ∷ xs) (suc i) d lt = inr (in_at xs i d (omega (arith, lt)))

split_at : (n j : ℕ) → (j < n) ⊎ (n ≤ j)
split_at n j =
    elim (nat_le n j) as (λ b. nat_le n j ≡ b → (j < n) ⊎ (n ≤ j)) [ true ↦ λ e. inr (leb-true n j e) | false ↦ λ e. inl (leb-false n j e) ] refl

above_first : (j : ℕ) → nat_lt 0 (suc j) ≡ true
above_first j = le-leb 1 (suc j) (omega arith)

-- the control node of a name that there is
abbrev named : Name → List NodeId → NodeId
named name cs = unwrap_or (find (λ (c : NodeId). same_name c.name name) cs) no_node

found_in : (name : Name) (cs : List NodeId) → Member name (map (λ (c : NodeId). c.name) cs) → Member (named name cs) cs
found_in name [] m = absurd m
found_in name (c ∷ cs) m = by_test (λ later. found_in name cs later) (same_name c.name name) refl
  where
    by_test : (Member name (map (λ (c : NodeId). c.name) cs) → Member (named name cs) cs) → (b : Bool) → same_name c.name name ≡ b
        → Member (unwrap_or (cond b (Some c) (find (λ (c : NodeId). same_name c.name name) cs)) no_node) (c ∷ cs)
    by_test rest true e = inl refl
    by_test rest false e =
        elim m as (λ _. Member (named name cs) (c ∷ cs)) [
          | inl is ↦ absurd (true≢false (sym (ap (same_name c.name) (sym is) ∙ same_name_self c.name) ∙ e))
          | inr later ↦ inr (rest later)
        ]

-- ---- who is there
-- the first node's session of this number is with the second, as the first one has it
abbrev pub Meets : Who → Who → ℕ → Type 0
Meets (Configuring x) (Controlling other) i = (configuration.controller_at x i).name ≡ other.me.name
Meets (Controlling c) (Configuring x) i = i ≡ 0
Meets (Controlling c) (Controlling other) i =
    (is_peer (plan_of c) i ≡ true) × (other.asn ≡ c.asn) × (control.peer_at (plan_of c) i ≡ other.me)
Meets (Controlling c) (Forwarding other) i =
    (is_peer (plan_of c) i ≡ false) × ((i == 0) ≡ false) × ((control.agent_at (plan_of c) i).name ≡ other.me.name)
Meets (Forwarding plan) (Controlling other) i = (agent.controller_at plan i).name ≡ other.me.name
Meets _ _ i = ⊥

abbrev MeetsAt : Who → Who → ℕ → Type 0
MeetsAt a b i = i < length (others_of a) → slice_index_or (others_of a) i None ≡ Some (name_of b) → Meets a b i

module _ (x : Setup) (are : AreNodes x.topology) (numbers : HasNumbers x) where
  abbrev sites : List NodeId
  sites = x.topology.controllers

  from_config : (i : ℕ) (b : Who) → Member b (whos x) → MeetsAt (Configuring (checked x)) b i
  from_config i =
      each_who x (λ b. MeetsAt (Configuring (checked x)) b i)
      (λ lt e. are.no_site_config here (in_at sites i no_node (short lt)) (name_is lt config e))
      (λ d m lt e. name_is lt d.name e)
      (λ n m lt e. are.apart here n (in_at sites i no_node (short lt)) m (name_is lt n.name e))
    where
      here : NodeId
      here = slice_index_or sites i no_node

      short : i < length (names_of sites) → i < length sites
      short lt = omega (arith, lt, many_names sites)

      name_is : i < length (names_of sites) → (name : Name) → slice_index_or (names_of sites) i None ≡ Some name → here.name ≡ name
      name_is lt name e = same_Some here.name name (sym (name_at sites i (short lt)) ∙ e)

  -- ---- from an agent
  module _ (n : Node) (m : Member n x.topology.nodes) (i : ℕ) (lt : i < length (names_of (agent_plan x.topology n).controllers)) where
    abbrev heads : List NodeId
    heads = (agent_plan x.topology n).controllers

    abbrev head : NodeId
    head = agent.controller_at (agent_plan x.topology n) i

    is_short : i < length heads
    is_short = omega (arith, lt, many_names heads)

    listed : Member head sites
    listed =
        let q = from_map (controller_named x.topology) (slice_index_or heads i no_node) n.controllers (in_at heads i no_node is_short) in
        subst (λ (c : NodeId). Member c sites) q.2 (found_in q.0 sites (are.listed n m q.0 q.1))

    head_at : slice_index_or (names_of heads) i None ≡ Some head.name
    head_at = name_at heads i is_short

    head_named : (name : Name) → slice_index_or (names_of heads) i None ≡ Some name → head.name ≡ name
    head_named name e = same_Some head.name name (sym head_at ∙ e)

  from_agent : (n : Node) → Member n x.topology.nodes → (i : ℕ) (b : Who) → Member b (whos x) → MeetsAt (Forwarding (agent_plan x.topology n)) b i
  from_agent n k i =
      let r = agent.controller_at (agent_plan x.topology n) i in
      each_who x (λ b. MeetsAt (Forwarding (agent_plan x.topology n)) b i)
      (λ lt e. are.no_site_config r (listed n k i lt) (head_named n k i lt config e))
      (λ d m lt e. head_named n k i lt d.name e)
      (λ other m lt e. are.apart r other (listed n k i lt) m (head_named n k i lt other.name e))

  -- ---- from a control node
  module _ (c : NodeId) (i : Member c sites) where
    abbrev own : Controls
    own = control_plan x c

    abbrev plan : ControlPlan
    plan = plan_of own

    fit : NumbersFit x.topology c (agents_of x c.name)
    fit = numbers c i

    from_first : (b : Who) → Member b (whos x) → MeetsAt (Controlling own) b 0
    from_first =
        each_who x (λ b. MeetsAt (Controlling own) b 0)
        (λ lt e. refl)
        (λ d m lt e. absurd (are.no_site_config d m (sym (same_Some config d.name e))))
        (λ n m lt e. absurd (are.no_agent_config n m (sym (same_Some config n.name e))))

    -- the name at the other end of a session behind the first
    abbrev name_behind : ℕ → Option Name
    name_behind j = slice_index_or (names_of own.peers ++ map name_there own.agents) j None

    -- a session with a peer
    module _ (j : ℕ) (lt : j < length own.peers) where
      abbrev peer : NodeId
      peer = slice_index_or own.peers j no_node

      at_peer : control.peer_at plan (suc j) ≡ peer
      at_peer = let back : suc j - 1 ≡ j = omega arith in ap (λ k. slice_index_or own.peers k no_node) back

      peer_in : Member peer sites
      peer_in = (from_filter (λ (d : NodeId). not (same_name d.name c.name)) peer sites (in_at own.peers j no_node lt)).0

      peer_name : name_behind j ≡ Some peer.name
      peer_name =
          get_or_append_left (names_of own.peers) (map name_there own.agents) None j (omega (arith, lt, many_names own.peers))
          ∙ name_at own.peers j lt

      peer_named : (name : Name) → name_behind j ≡ Some name → peer.name ≡ name
      peer_named name e = same_Some peer.name name (sym peer_name ∙ e)

      is_one : is_peer plan (suc j) ≡ true
      is_one = and_from _ _ (above_first j) (le-leb (suc j) (length own.peers) (omega (arith, lt)))

      from_peer : (b : Who) → Member b (whos x) → name_behind j ≡ Some (name_of b) → Meets (Controlling own) b (suc j)
      from_peer =
          each_who x (λ b. name_behind j ≡ Some (name_of b) → Meets (Controlling own) b (suc j))
          (λ e. absurd (are.no_site_config peer peer_in (peer_named config e)))
          (λ d m e. (is_one, refl, at_peer ∙ are.one_site peer d peer_in m (peer_named d.name e)))
          (λ n m e. absurd (are.apart peer n peer_in m (peer_named n.name e)))

    -- a session with an agent
    module _ (j : ℕ) (ge : length own.peers ≤ j) where
      abbrev k : ℕ
      k = j - length own.peers

      at_agent : control.agent_at plan (suc j) ≡ slice_index_or (map (λ o. unwrap_or o c) own.agents) k no_node
      at_agent = let back : suc j - (1 + length own.peers) ≡ j - length own.peers = omega arith in ap (λ i. slice_index_or plan.agents i no_node) back

      name_by_number : name_behind j ≡ slice_index_or (map name_there own.agents) k None
      name_by_number =
          get_or-append_right (names_of own.peers) (map name_there own.agents) (length own.peers) j None (many_names own.peers) ge

      record NodeAt (name : Name) : Type 0 where
        node : Node
        member : Member node x.topology.nodes
        named_so : node.name ≡ name
        at_it : (control.agent_at plan (suc j)).name ≡ name

      node_at : (name : Name) → name_behind j ≡ Some name → NodeAt name
      node_at name e =
          let q = agent_of own.agents k name (sym name_by_number ∙ e) in
          let n = fit.only q.agent q.member in
          record {
            node = n.0;
            member = n.1;
            named_so = ap (λ (d : NodeId). d.name) n.2 ∙ q.named_so;
            at_it = ap (λ (d : NodeId). d.name) (at_agent ∙ q.at c no_node) ∙ q.named_so;
          }

      is_none : is_peer plan (suc j) ≡ false
      is_none =
          ap (λ (b : Bool). b && nat_le (suc j) (length own.peers)) (above_first j)
          ∙ lt-leb (suc j) (length own.peers) (omega (arith, ge))

      from_agents : (b : Who) → Member b (whos x) → name_behind j ≡ Some (name_of b) → Meets (Controlling own) b (suc j)
      from_agents =
          each_who x (λ b. name_behind j ≡ Some (name_of b) → Meets (Controlling own) b (suc j))
          (λ e. let q = node_at config e in absurd (are.no_agent_config q.node q.member q.named_so))
          (λ d m e. let q = node_at d.name e in absurd (are.apart d q.node m q.member (sym q.named_so)))
          (λ n m e. (is_none, ne_eqb (suc j) 0 (λ z. absurd (omega (arith, z))), (node_at n.name e).at_it))

    from_control : (i : ℕ) (b : Who) → Member b (whos x) → MeetsAt (Controlling own) b i
    from_control zero b m lt e = from_first b m lt e
    from_control (suc j) b m lt e =
        elim (split_at (length own.peers) j) as (λ _. Meets (Controlling own) b (suc j)) [
          | inl below ↦ from_peer j below b m e
          | inr above ↦ from_agents j above b m e
        ]

  pub meets : (a : Who) → Member a (whos x) → (b : Who) → Member b (whos x) → (i : ℕ) → MeetsAt a b i
  meets a ma b mb i =
      each_who x (λ a. MeetsAt a b i) (from_config i b mb) (λ c m. from_control c m i b mb) (λ n m. from_agent n m i b mb) a ma

  -- ---- each session has another end, unless it is nobody's
  abbrev pub HasOther : Who → ℕ → Name → Type 0
  HasOther a i name =
      slice_index_or (others_of a) i None ≡ Some name
      → (b : Who) × Member b (whos x) × (slice_index_or (others_of a) i None ≡ Some (name_of b))

  abbrev site : NodeId → Who
  site c = Controlling (control_plan x c)

  abbrev forward : Node → Who
  forward n = Forwarding (agent_plan x.topology n)

  site_there : (c : NodeId) → Member c sites → Member (site c) (whos x)
  site_there c m = inr (in_left (site c) (map site sites) (map forward x.topology.nodes) (in_map site c sites m))

  agent_there : (n : Node) → Member n x.topology.nodes → Member (forward n) (whos x)
  agent_there n m = inr (in_right (forward n) (map site sites) (map forward x.topology.nodes) (in_map forward n x.topology.nodes m))

  other_of_config : (i : ℕ) (name : Name) → HasOther (Configuring (checked x)) i name
  other_of_config i name e =
      let c = slice_index_or sites i no_node in
      let lt = within_at (names_of sites) i name e in
      let short : i < length sites = omega (arith, lt, many_names sites) in
      (site c, site_there c (in_at sites i no_node short), name_at sites i short)

  other_of_control : (c : NodeId) → Member c sites → (i : ℕ) (name : Name) → HasOther (site c) i name
  other_of_control c m zero name e = (Configuring (checked x), inl refl, refl)
  other_of_control c m (suc j) name e =
      let own = control_plan x c in
      elim (split_at (length own.peers) j) as (λ _. (b : Who) × Member b (whos x) × (slice_index_or (others_of (site c)) (suc j) None ≡ Some (name_of b))) [
        | inl below ↦ let p = slice_index_or own.peers j no_node in (site p, site_there p (peer_in c m j below), peer_name c m j below)
        | inr above ↦ let q = node_at c m j above name e in (forward q.node, agent_there q.node q.member, e ∙ ap (λ (n : Name). Some n) (sym q.named_so))
      ]

  other_of_agent : (n : Node) → Member n x.topology.nodes → (i : ℕ) (name : Name) → HasOther (forward n) i name
  other_of_agent n m i name e =
      let heads = (agent_plan x.topology n).controllers in
      let r = agent.controller_at (agent_plan x.topology n) i in
      let lt = within_at (names_of heads) i name e in
      (site r, site_there r (listed n m i lt), head_at n m i lt)

  pub has_other : (a : Who) → Member a (whos x) → (i : ℕ) (name : Name) → HasOther a i name
  has_other a m i name =
      each_who x (λ a. HasOther a i name) (other_of_config i name) (λ c k. other_of_control c k i name) (λ n k. other_of_agent n k i name) a m
