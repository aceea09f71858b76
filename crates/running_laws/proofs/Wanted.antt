-- With a valid configuration each node wants what is fit to be told, where all that its sessions hold is.
use Rattle.std.specs.FinMap.{get}
use Rattle.std.specs.List.{AllByRecursion, enumerate_from, filter_map, list_all}
use Rattle.std.specs.Prelude.{IsTrue, List, cond, false, length, nat_le, not, true, ℕ, [], ◌&&◌, ◌+◌, ◌<◌, ◌^◌, ◌∷◌, ◌≡◌, ◌≤◌}
use Rattle.std.specs.declared.option.Option.TheVariants.{None, Some}
use Rattle.std.specs.declared.option.Option.{Option}
use Rattle.std.specs.Cmp.Lexicographic.{bytes_decides}
use Rattle.std.proofs.Common.{ap, arith, inl, inr, refl, subst, sym, ◌∙◌}
use Rattle.std.proofs.lemmas.Bool.{and_parts, leb-true}
use Rattle.ov_sync.specs.Keyed.{Values}
use Rattle.ov_sync.proofs.KeyedLaws.{empty_values}
use Rattle.ov_types.specs.First.{same_name}
use Rattle.ov_types.specs.Name.{is_name}
use Rattle.ov_types.specs.declared.rows.NodeId.{NodeId}
use Rattle.item_wire.specs.declared.event.ItemFrom.TheVariants as From
use Rattle.config_types.specs.Form.{has_controller_form, has_node_form, has_topology_form, is_as_number, is_from_to, is_reserved_as, is_node_address, is_node_name}
use Rattle.config_types.specs.declared.topology.Node.{Node}
use Rattle.config_types.specs.declared.topology.Topology.{Topology}
use Rattle.schedule_script.specs.ConfigCheck.Finding.{node_named}
use Rattle.machine_laws.specs.TransformModel.Objects.{low_objects}
use Rattle.node_core.specs.Told.{AllFit}
use Rattle.node_core.proofs.Maps.{nothing_fits}
use Rattle.node_model.specs.Agent as agent
use Rattle.node_model.specs.Keys.{Key, key_cmp}
use Rattle.node_model.specs.Maps.{Map}
use Rattle.node_model.specs.Members.{Member}
use Rattle.node_model.specs.Values.{Value}
use Rattle.node_model.specs.Wants.{slice_entry}
use Rattle.node_model.proofs.Members.{from_map, member_get}
use Rattle.node_model.proofs.Orders.{key_exact, key_total}
use Rattle.machine_laws.specs.MachineModel.Moments.{Each, IsLaidOut, NumbersFit}
use Rattle.machine_laws.specs.MachineModel.Network.{address_in, agent_holdings, control_holdings, first_held, heard_from, same_role, sessions_of, told_by, told_on, view, views_of, wanted, wanted_from, with_role}
use Rattle.machine_laws.specs.MachineModel.Session.{Agent, Configuration, Controller, Role, Session, is_up_phase, turned}
use Rattle.machine_laws.specs.MachineModel.Setup.{Name, Setup, agents_of, listed_by, low}
use Rattle.machine_laws.proofs.MachineModel.Feed.{entries-low}
use Rattle.machine_laws.proofs.MachineModel.Twins.{all_to_own, each_and, each_weaker}
use Rattle.machine_laws.proofs.Views.{all_have, own_named, peers_have, views}
use Rattle.running_laws.proofs.Controlled.{AgentFits, HeldFit, agent_wants, list_member, peers_want}
use Rattle.running_laws.proofs.Fitness.{FitsItem, FitsPeer, IsFit}
use Rattle.running_laws.proofs.Forwarded.{agent_tells}
use Rattle.running_laws.proofs.Roles.{HaveRoles, back, control_named, new_roles, role_among}
use Rattle.running_laws.proofs.SentFact.{EntriesOf, IsSent, WantsFit}

-- ---- numbers of a topology
topology_parts : (t : Topology) → IsTrue (has_topology_form t) → (is_as_number t.asn ≡ true) × (list_all has_node_form t.nodes ≡ true)
unfolding has_topology_form
topology_parts t h =
    let a = is_as_number t.asn in
    let b = list_all has_controller_form t.controllers in
    let c = nat_le 1 (length t.controllers) in
    let d = list_all has_node_form t.nodes in
    let abcd = (and_parts (a && b && c && d) (nat_le 1 (length t.nodes)) h).0 in
    let abc = and_parts (a && b && c) d abcd in
    let ab = and_parts (a && b) c abc.0 in
    ((and_parts a b ab.0).0, abc.1)

small_number : (t : Topology) → IsTrue (has_topology_form t) → t.asn < 2 ^ 32
small_number t h =
    let range = and_parts (is_from_to 1 4294967294 t.asn) (not (is_reserved_as t.asn)) (topology_parts t h).0 in
    let small : t.asn ≤ 4294967294 = leb-true t.asn 4294967294 (and_parts (nat_le 1 t.asn) (nat_le t.asn 4294967294) range.0).1 in
    omega (arith, small)

node_address : (n : Node) → has_node_form n ≡ true → n.address.0 < 2 ^ 32
unfolding has_node_form
node_address n h =
    let a = is_node_name n.name in
    let b = is_node_address n.address.0 in
    let c = list_all is_name n.controllers in
    let abc = and_parts (a && b && c) (is_from_to 1 2 (length n.controllers)) h in
    let ab = and_parts (a && b) c abc.0 in
    let range = (and_parts a b ab.0).1 in
    let small : n.address.0 ≤ 0xdfff_ffff = leb-true n.address.0 0xdfff_ffff (and_parts (nat_le 0x0100_0000 n.address.0) (nat_le n.address.0 0xdfff_ffff) range).1 in
    omega (arith, small)

-- ---- what is known of a setup: its form, its low-level objects, its control nodes and the numbers of its agents
pub record IsFitted (cs : List NodeId) (x : Setup) : Type 0 where
  pub form : IsTrue (has_topology_form x.topology)
  pub laid : IsLaidOut x.topology
  pub fits : AllFit (low x)
  pub controllers : x.topology.controllers ≡ cs
  pub numbers : (c : NodeId) → Member c x.topology.controllers → NumbersFit x.topology c (agents_of x c.name)

-- an agent at one of these numbers: it has an address, and its name is an agent's
record IsAgentOf (cs : List NodeId) (a : NodeId) : Type 0 where
  address : a.address.0 < 2 ^ 32
  role : role_among cs a.name ≡ Agent

abbrev AreAgentsOf : List NodeId → List (Option NodeId) → Type 0
AreAgentsOf cs agents = (a : NodeId) → Member (Some a) agents → IsAgentOf cs a

agents_are : (cs : List NodeId) (x : Setup) → IsFitted cs x → (name : Name) → role_among cs name ≡ Controller → AreAgentsOf cs (agents_of x name)
agents_are cs x f name is a m =
    let c = control_named cs name is in
    let there : Member c.0 x.topology.controllers = subst (Member c.0) (sym f.controllers) c.1 in
    let fit = f.numbers c.0 there in
    let q = fit.only a (subst (λ (n : Name). Member (Some a) (agents_of x n)) (sym c.2) m) in
    subst (IsAgentOf cs) q.2 (record {
      address = node_address q.0 (list_member has_node_form q.0 x.topology.nodes (topology_parts x.topology f.form).1 q.1);
      role = subst (λ cs. role_among cs q.0.name ≡ Agent) f.controllers (sym (new_roles x.topology f.laid c.0 there q.0 q.1).1);
    })

small_in : (cs : List NodeId) (agents : List (Option NodeId)) → AreAgentsOf cs agents → (name : Name) → (address_in agents name).0 < 2 ^ 32
small_in cs [] h name = omega arith
small_in cs (None ∷ agents) h name = small_in cs agents (λ a m. h a (inr m)) name
small_in cs (Some a ∷ agents) h name =
    elim (same_name a.name name) as (λ b. (cond b a.address (address_in agents name)).0 < 2 ^ 32) [
      | true ↦ (h a (inl refl)).address
      | false ↦ small_in cs agents (λ b m. h b (inr m)) name
    ]

-- ---- the configuration node
low_fed : (x : Setup) → AllFit (low x) → Values {R = key_cmp} (FitsItem From.Feed) (low x)
low_fed x fit k v e =
    let m = subst (λ (es : List (Key × Value)). Member (k, v) es) (entries-low x) (member_get key_total key_exact (low x) k v e) in
    let q = from_map slice_entry (k, v) (low_objects x.topology x.config) m in
    let held : get (low x) (slice_entry q.0).0 ≡ Some (slice_entry q.0).1 = subst (λ (e : Key × Value). get (low x) e.0 ≡ Some e.1) (sym q.2) e in
    subst (λ (e : Key × Value). FitsItem From.Feed e.0 e.1) q.2 (record { fits = fit (slice_entry q.0).0 (slice_entry q.0).1 held; typed = tt; may = tt })

-- ---- a session of a node of this role holds what is fit, and the other node has the role of its name
module _ (cs : List NodeId) where
  record HeldBy (r : Role) (s : Session) : Type 0 where
    near : s.near.role ≡ r
    far : s.far.role ≡ role_among cs s.far.name
    held : EntriesOf (IsFit s.far.role r) s.near.held

  -- ---- a control node
  feed_fits : (own : List Session) → Each (HeldBy Controller) own → AllFit (first_held (with_role Configuration (views own)))
  feed_fits [] h = nothing_fits
  feed_fits (s ∷ own) h =
      elim s.far.role as (λ q. EntriesOf (IsFit q Controller) s.near.held → AllFit (first_held (cond (same_role Configuration q) (view s ∷ with_role Configuration (views own)) (with_role Configuration (views own))))) [
        | Configuration ↦ λ f k v e. (f k v e).fits
        | Controller ↦ λ _. feed_fits own h.1
        | Agent ↦ λ _. feed_fits own h.1
      ] h.0.held

  heard_by : (own : List Session) → Each (HeldBy Controller) own → (name : Name) → role_among cs name ≡ Agent → Values {R = key_cmp} (FitsItem From.Agent) (heard_from (views own) name).map
  heard_by [] h name is = empty_values key_cmp (FitsItem From.Agent)
  heard_by (s ∷ own) h name is =
      elim (same_name s.far.name name) as (λ b. same_name s.far.name name ≡ b → Values {R = key_cmp} (FitsItem From.Agent) (cond b (record { is_up = is_up_phase s.near.phase; map = s.near.held }) (heard_from (views own) name)).map) [
        | true ↦ λ e.
            let role : s.far.role ≡ Agent = h.0.far ∙ ap (role_among cs) ((bytes_decides s.far.name name).0 e) ∙ is in
            subst (λ q. EntriesOf (IsFit q Controller) s.near.held) role h.0.held
        | false ↦ λ _. heard_by own h.1 name is
      ] refl

  agents_held : (own : List Session) → Each (HeldBy Controller) own → (m : ℕ) (agents : List (Option NodeId)) → AreAgentsOf cs agents → AllByRecursion AgentFits (filter_map (λ e. told_by (views own) e.0 e.1) (enumerate_from m agents))
  agents_held own h m [] a = tt
  agents_held own h m (None ∷ agents) a = agents_held own h (m + 1) agents (λ b i. a b (inr i))
  agents_held own h m (Some b ∷ agents) a =
      let one = a b (inl refl) in
      (record { map = heard_by own h b.name one.role; address = one.address }, agents_held own h (m + 1) agents (λ b i. a b (inr i)))

  from_peer : (s : Session) → HeldBy Controller s → s.far.role ≡ Controller → Values {R = key_cmp} FitsPeer s.near.held
  from_peer s f is = subst (λ q. EntriesOf (IsFit q Controller) s.near.held) is f.held

  control_fit : (x : Setup) → IsFitted cs x → (name : Name) → role_among cs name ≡ Controller → (own : List Session) → Each (HeldBy Controller) own → HeldFit (control_holdings x name (views own))
  control_fit x f name is own h = record {
    asn = small_number x.topology f.form;
    feed = feed_fits own h;
    peers = peers_have (Values {R = key_cmp} FitsPeer) own (each_weaker (HeldBy Controller) (λ s. s.far.role ≡ Controller → Values {R = key_cmp} FitsPeer s.near.held) from_peer own h);
    agents = agents_held own h (1 + length (with_role Controller (views own))) (agents_of x name) (agents_are cs x f name is);
  }

  -- ---- an agent
  item_held : (q : Role) (m : Map) → EntriesOf (IsFit q Agent) m → AllFit m
  item_held Configuration m f k v e = (f k v e).fits
  item_held Controller m f k v e = (f k v e).fits
  item_held Agent m f k v e = (f k v e).fits

  heard_fits : (own : List Session) → Each (HeldBy Agent) own → (name : Name) → AllFit (heard_from (views own) name).map
  heard_fits [] h name = nothing_fits
  heard_fits (s ∷ own) h name =
      elim (same_name s.far.name name) as (λ b. AllFit (cond b (record { is_up = is_up_phase s.near.phase; map = s.near.held }) (heard_from (views own) name)).map) [
        | true ↦ item_held s.far.role s.near.held h.0.held
        | false ↦ heard_fits own h.1 name
      ]

  agent_fit : (x : Setup) (name : Name) (own : List Session) → Each (HeldBy Agent) own → AllByRecursion (λ (s : agent.Heard). AllFit s.map) (agent_holdings x name (views own))
  agent_fit x name own h = all_have (λ (s : agent.Heard). AllFit s.map) (heard_from (views own)) (heard_fits own h) (listed_by (node_named x.topology name))

  -- ---- the sessions of a node, by the roles of names
  abbrev NearFit : Session → Type 0
  NearFit s = ((s.near.role ≡ role_among cs s.near.name) × (s.far.role ≡ role_among cs s.far.name)) × EntriesOf (IsFit s.far.role s.near.role) s.near.held

  both_fit : (s : Session) → IsSent IsFit (HaveRoles cs) (back cs) s → NearFit s × NearFit (turned s)
  both_fit s f = (((f.place.0, f.place.1), f.sent.near_held), ((f.place.1, f.place.0), f.sent.far_held))

  held_by : (n : Name) (s : Session) → NearFit s × (s.near.name ≡ n) → HeldBy (role_among cs n) s
  held_by n s f =
      let is : s.near.role ≡ role_among cs n = f.0.0.0 ∙ ap (role_among cs) f.1 in
      record { near = is; far = f.0.0.1; held = subst (λ r. EntriesOf (IsFit s.far.role r) s.near.held) is f.0.1 }

  all_held : (n : Name) (ss : List Session) → Each (IsSent IsFit (HaveRoles cs) (back cs)) ss → Each (λ s. HeldBy (role_among cs n) s × (s.near.name ≡ n)) (sessions_of n ss)
  all_held n ss f =
      let own = sessions_of n ss in
      each_weaker (λ s. NearFit s × (s.near.name ≡ n)) (λ s. HeldBy (role_among cs n) s × (s.near.name ≡ n)) (λ s f. (held_by n s f, f.1)) own
      (each_and NearFit (λ s. s.near.name ≡ n) own (all_to_own NearFit n ss (each_weaker (IsSent IsFit (HaveRoles cs) (back cs)) (λ s. NearFit s × NearFit (turned s)) both_fit ss f)) (own_named n ss))

  -- ---- of every node
  module _ (x : Setup) (f : IsFitted cs x) (own : List Session) where
    by_roles : (r q : Role) (s : Session) → role_among cs s.near.name ≡ r → EntriesOf (IsFit q r) s.near.held → Each (HeldBy r) own → EntriesOf (IsFit r q) (wanted_from x (views own) (record (view s) { other_role = q }) r)
    by_roles Configuration q s is e h = low_fed x f.fits
    by_roles Agent q s is e h = agent_tells (agent_holdings x s.near.name (views own)) (agent_fit x s.near.name own h)
    by_roles Controller Configuration s is e h = empty_values key_cmp (IsFit Controller Configuration)
    by_roles Controller Controller s is e h = peers_want (control_holdings x s.near.name (views own)) (control_fit x f s.near.name is own h)
    by_roles Controller Agent s is e h =
        agent_wants (control_holdings x s.near.name (views own)) (control_fit x f s.near.name is own h) (told_on (agents_of x s.near.name) (view s))
        (record { map = e; address = small_in cs (agents_of x s.near.name) (agents_are cs x f s.near.name is) s.far.name })

    on_one : (r : Role) (s : Session) → role_among cs s.near.name ≡ r → Each (HeldBy r) own → HeldBy r s → EntriesOf (IsFit s.near.role s.far.role) (wanted x (views own) (view s))
    unfolding wanted
    on_one r s is h e = subst (λ r. EntriesOf (IsFit r s.far.role) (wanted_from x (views own) (view s) r)) (sym e.near) (by_roles r s.far.role s is e.held h)

pub wants_fit : (cs : List NodeId) (Valid : Setup → Type 0) → ((y : Setup) → Valid y → IsFitted cs y) → WantsFit IsFit (HaveRoles cs) (back cs) Valid
wants_fit cs Valid facts y ss n v f =
    let own = sessions_of n ss in
    let both = all_held cs n ss f in
    let held = each_weaker (λ s. HeldBy cs (role_among cs n) s × (s.near.name ≡ n)) (HeldBy cs (role_among cs n)) (λ s b. b.0) own both in
    each_weaker (λ s. HeldBy cs (role_among cs n) s × (s.near.name ≡ n)) (λ s. EntriesOf (IsFit s.near.role s.far.role) (wanted y (views_of n ss) (view s)))
    (λ s b. on_one cs y (facts y v) own (role_among cs n) s (ap (role_among cs) b.1) held b.0) own both
