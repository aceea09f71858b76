-- The sessions of a sound setup are laid as the theorems ask.
use Rattle.std.specs.Cmp.Lexicographic.{bytes_decides}
use Rattle.std.specs.List.{AllByRecursion, enumerate_from, filter, list_any}
use Rattle.std.specs.Option.{option_map, unwrap_or}
use Rattle.std.specs.Prelude.{Bool, List, cond, false, find, length, map, true, ℕ, [], ◌++◌, ◌+◌, ◌∷◌, ◌≡◌, ◌⊎◌}
use Rattle.std.specs.declared.option.Option.TheVariants.{None, Some}
use Rattle.std.specs.declared.option.Option.{Option}
use Rattle.std.proofs.Common.{ap, inl, inr, refl, subst, sym, ◌∙◌}
use Rattle.std.proofs.lemmas.Bool.{true≢false}
use Rattle.std.proofs.lemmas.Option.{same_Some}
use Rattle.ov_types.specs.First.{same_name}
use Rattle.ov_types.specs.declared.rows.NodeId.{NodeId}
use Rattle.config_types.specs.declared.topology.Node.{Node}
use Rattle.schedule_script.specs.ConfigCheck.Finding.{node_named}
use Rattle.schedule_script.specs.ConfigCheck.Rules.{controller_names, node_names}
use Rattle.node_laws.specs.NodeModel.Keys.{at}
use Rattle.node_laws.specs.NodeModel.Members.{Member}
use Rattle.node_laws.proofs.NodeModel.Members.{any_in, from_any, from_filter_map, from_map, in_either, in_filter, in_filter_map, in_flat_map, in_left, in_map, in_right, none_some}
use Rattle.machine_model.specs.Moments.{AreOnce, NodePair, NumbersFit, nodes}
use Rattle.machine_model.specs.Network.{accesses, address_in, asked, config, feeds, peerings}
use Rattle.machine_model.specs.Session.{Agent, Configuration, Controller, Role, Session}
use Rattle.machine_model.specs.Setup.{Name, Setup, agents_of, id_of, lists, low}
use Rattle.machine_model.proofs.Listed.{listed_member}
use Rattle.machine_model.proofs.Twins.{itself}
use Rattle.machine_model.proofs.Apart.{IsAccess, IsPeering, NamesApart, access_link, access_session, feed_session, from_accesses, from_peerings, peer_link, peer_session}
use Rattle.machine_model.proofs.Distinct.{Apart, same_false}
use Rattle.machine_laws.specs.Compiled.{Agents}
use Rattle.machine_laws.specs.Goal.{HasRoles, IsLaid, Party, address_of, agents_at, numbered_at, is_in_role, other_end, others, peers_at, role_in, role_of}
use Rattle.machine_laws.specs.Setups.{IsSoundSetup}
use Rattle.machine_laws.specs.Sound.{IsAmong, IsServed}
use Rattle.machine_laws.proofs.KindNames.{apart_names}
use Rattle.machine_laws.proofs.Peers.{in_enumerate}

-- ---- names
name_is : (a b : Name) → same_name a b ≡ true → a ≡ b
name_is a b e = (bytes_decides a b).0 e

computer_none : (ns : List Node) (name : Name) → ((c : Node) → Member c ns → c.name ≡ name → ⊥) → find (λ n. same_name n.name name) ns ≡ None
computer_none [] name h = refl
computer_none (c ∷ ns) name h = ap (λ b. cond b (Some c) (find (λ n. same_name n.name name) ns)) (same_false c.name name (h c (inl refl))) ∙ computer_none ns name (λ d m. h d (inr m))

computer_found : (ns : List Node) (c : Node) → Apart (map (λ n. n.name) ns) → Member c ns → find (λ n. same_name n.name c.name) ns ≡ Some c
computer_found [] c a m = absurd m
computer_found (d ∷ ns) c a (inl e) = ap (λ b. cond b (Some d) (find (λ n. same_name n.name c.name) ns)) (subst (λ (c : Node). same_name d.name c.name ≡ true) e (itself d.name)) ∙ ap Some e
computer_found (d ∷ ns) c a (inr m) = ap (λ b. cond b (Some d) (find (λ n. same_name n.name c.name) ns)) (same_false d.name c.name (λ e. a.0 c.name (in_map (λ (n : Node). n.name) c ns m) e)) ∙ computer_found ns c a.1 m

-- ---- places
abbrev pub feed_link : NodeId → NodePair
feed_link c = ((config, Configuration), (c.name, Controller))

abbrev IsFeed : List NodeId → NodePair → Type 0
IsFeed cs p = (c : NodeId) × Member c cs × (feed_link c ≡ p)

in_accesses : (cs : List NodeId) (ns : List Node) (c : NodeId) (n : Node) → Member c cs → Member n ns → lists n c ≡ true → Member (access_session c n) (accesses cs ns)
in_accesses cs ns c n m k l = in_flat_map (λ n. map (λ c. access_session c n) (filter (lists n) cs)) n (access_session c n) ns k (in_map (λ c. access_session c n) c (filter (lists n) cs) (in_filter (lists n) c cs m l))

pub in_peerings : (cs : List NodeId) (c d : NodeId) → Member c cs → Member d cs → (c.name ≡ d.name → ⊥) → Member (peer_session c d) (peerings cs) ⊎ Member (peer_session d c) (peerings cs)
in_peerings [] c d m n h = absurd m
in_peerings (e ∷ cs) c d (inl p) (inl q) h = absurd (h (ap (λ (c : NodeId). c.name) (sym p ∙ q)))
in_peerings (e ∷ cs) c d (inl p) (inr n) h = inl (in_left (peer_session c d) (map (peer_session e) cs) (peerings cs) (subst (λ c. Member (peer_session c d) (map (peer_session e) cs)) p (in_map (peer_session e) d cs n)))
in_peerings (e ∷ cs) c d (inr m) (inl q) h = inr (in_left (peer_session d c) (map (peer_session e) cs) (peerings cs) (subst (λ d. Member (peer_session d c) (map (peer_session e) cs)) q (in_map (peer_session e) c cs m)))
in_peerings (e ∷ cs) c d (inr m) (inr n) h =
    elim (in_peerings cs c d m n h) as (λ _. Member (peer_session c d) (peerings (e ∷ cs)) ⊎ Member (peer_session d c) (peerings (e ∷ cs))) [
      | inl l ↦ inl (in_right (peer_session c d) (map (peer_session e) cs) (peerings cs) l)
      | inr l ↦ inr (in_right (peer_session d c) (map (peer_session e) cs) (peerings cs) l)
    ]

all_of : (P : NodePair → Type 0) (ps : List NodePair) → ((p : NodePair) → Member p ps → P p) → AllByRecursion P ps
all_of P [] h = tt
all_of P (p ∷ ps) h = (h p (inl refl), all_of P ps (λ q m. h q (inr m)))

module _ (x : Setup) (valid : IsSoundSetup x) (fits : (c : NodeId) → Member c x.topology.controllers → NumbersFit x.topology c (agents_of x c.name)) where
  names : NamesApart x.topology
  names = apart_names x.topology valid.named.apart

  abbrev pub places : List NodePair
  places = map nodes (asked x.topology)

  site_name : (c : NodeId) → Member c x.topology.controllers → Member c.name (controller_names x.topology)
  site_name c m = in_map (λ (c : NodeId). c.name) c x.topology.controllers m

  computer_name : (n : Node) → Member n x.topology.nodes → Member n.name (node_names x.topology)
  computer_name n m = in_map (λ (n : Node). n.name) n x.topology.nodes m

  -- ---- roles
  role_config : role_of x config ≡ Configuration
  role_config = ap (λ b. cond b Configuration (role_in (node_named x.topology config))) (itself config)

  role_site : (name : Name) → Member name (controller_names x.topology) → role_of x name ≡ Controller
  role_site name m =
      ap (λ b. cond b Configuration (role_in (node_named x.topology name))) (same_false name config (names.no_site_config name m))
      ∙ ap role_in (computer_none x.topology.nodes name (λ c k e. names.kinds_apart name c.name m (computer_name c k) (sym e)))

  role_computer : (n : Node) → Member n x.topology.nodes → role_of x n.name ≡ Agent
  role_computer n m =
      ap (λ b. cond b Configuration (role_in (node_named x.topology n.name))) (same_false n.name config (names.no_computer_config n.name (computer_name n m)))
      ∙ ap role_in (computer_found x.topology.nodes n names.computers_apart m)

  -- ---- kinds
  kind : (p : NodePair) → Member p places → IsFeed x.topology.controllers p ⊎ (IsPeering x.topology.controllers p ⊎ IsAccess x.topology.controllers x.topology.nodes p)
  kind p m =
      let q = from_map nodes p (asked x.topology) m in
      elim (in_either q.0 (feeds x.topology.controllers ++ peerings x.topology.controllers) (accesses x.topology.controllers x.topology.nodes) q.1) as (λ _. IsFeed x.topology.controllers p ⊎ (IsPeering x.topology.controllers p ⊎ IsAccess x.topology.controllers x.topology.nodes p)) [
        | inl l ↦ elim (in_either q.0 (feeds x.topology.controllers) (peerings x.topology.controllers) l) as (λ _. IsFeed x.topology.controllers p ⊎ (IsPeering x.topology.controllers p ⊎ IsAccess x.topology.controllers x.topology.nodes p)) [
          | inl f ↦ let c = from_map feed_session q.0 x.topology.controllers f in inl (c.0, c.1, ap nodes c.2 ∙ q.2)
          | inr f ↦ let c = from_peerings x.topology.controllers q.0 f in inr (inl (c.0, c.1, c.2, c.3, c.4 ∙ q.2))
        ]
        | inr r ↦ let c = from_accesses x.topology.controllers x.topology.nodes q.0 r in inr (inr (c.0, c.1, c.2, c.3, c.4 ∙ q.2, c.5))
      ]

  in_feeds : (c : NodeId) → Member c x.topology.controllers → Member (feed_link c) places
  in_feeds c m =
      in_map nodes (feed_session c) (asked x.topology) (in_left (feed_session c) (feeds x.topology.controllers ++ peerings x.topology.controllers) (accesses x.topology.controllers x.topology.nodes)
      (in_left (feed_session c) (feeds x.topology.controllers) (peerings x.topology.controllers) (in_map feed_session c x.topology.controllers m)))

  peer_in : (s : Session) → Member s (peerings x.topology.controllers) → Member (nodes s) places
  peer_in s m = in_map nodes s (asked x.topology) (in_left s (feeds x.topology.controllers ++ peerings x.topology.controllers) (accesses x.topology.controllers x.topology.nodes) (in_right s (feeds x.topology.controllers) (peerings x.topology.controllers) m))

  access_in : (s : Session) → Member s (accesses x.topology.controllers x.topology.nodes) → Member (nodes s) places
  access_in s m = in_map nodes s (asked x.topology) (in_right s (feeds x.topology.controllers ++ peerings x.topology.controllers) (accesses x.topology.controllers x.topology.nodes) m)

  roles_at : (p : NodePair) → Member p places → HasRoles x p
  roles_at p m =
      elim (kind p m) as (λ _. HasRoles x p) [
        | inl f ↦ subst (HasRoles x) f.2 (sym role_config, sym (role_site f.0.name (site_name f.0 f.1)))
        | inr r ↦ elim r as (λ _. HasRoles x p) [
          | inl f ↦ subst (HasRoles x) f.4 (sym (role_site f.0.name (site_name f.0 f.1)), sym (role_site f.2.name (site_name f.2 f.3)))
          | inr f ↦ subst (HasRoles x) f.4 (sym (role_site f.0.name (site_name f.0 f.1)), sym (role_computer f.2 f.3))
        ]
      ]

  -- a node with a session that is a control node stands among the sites
  never_config : (n : Name) → n ≡ config → role_of x n ≡ Controller → ⊥
  never_config n e h = apart (sym role_config ∙ ap (role_of x) (sym e) ∙ h)
    where
      apart : Configuration ≡ Controller → ⊥
      apart e = cc

  never_computer : (n : Name) (c : Node) → Member c x.topology.nodes → c.name ≡ n → role_of x n ≡ Controller → ⊥
  never_computer n c m e h = apart (sym (role_computer c m) ∙ ap (role_of x) e ∙ h)
    where
      apart : Agent ≡ Controller → ⊥
      apart e = cc

  abbrev SiteOf : Name → Type 0
  SiteOf n = (c : NodeId) × Member c x.topology.controllers × (c.name ≡ n)

  end_of : (n : Name) (p : NodePair) (o : Party) → other_end n p ≡ Some o → (p.0.0 ≡ n) ⊎ (p.1.0 ≡ n)
  end_of n p o e =
      elim (same_name p.0.0 n) as (λ b. same_name p.0.0 n ≡ b → cond b (Some p.1) (cond (same_name p.1.0 n) (Some p.0) None) ≡ Some o → (p.0.0 ≡ n) ⊎ (p.1.0 ≡ n)) [
        | true ↦ λ t _. inl (name_is p.0.0 n t)
        | false ↦ λ _ e. elim (same_name p.1.0 n) as (λ b. same_name p.1.0 n ≡ b → cond b (Some p.0) None ≡ Some o → (p.0.0 ≡ n) ⊎ (p.1.0 ≡ n)) [
          | true ↦ λ t _. inr (name_is p.1.0 n t)
          | false ↦ λ _ e. absurd (none_some o e)
        ] refl e
      ] refl e

  site_of : (n : Name) (o : Party) → Member o (others n places) → role_of x n ≡ Controller → SiteOf n
  site_of n o m h =
      let q = from_filter_map (other_end n) o places m in
      let p = q.0 in
      let e = end_of n p o q.2 in
      elim (kind p q.1) as (λ _. SiteOf n) [
        | inl f ↦ elim e as (λ _. SiteOf n) [ inl a ↦ absurd (never_config n (sym a ∙ ap (λ (p : NodePair). p.0.0) (sym f.2)) h) | inr a ↦ (f.0, f.1, ap (λ (p : NodePair). p.1.0) f.2 ∙ a) ]
        | inr r ↦ elim r as (λ _. SiteOf n) [
          | inl f ↦ elim e as (λ _. SiteOf n) [ inl a ↦ (f.0, f.1, ap (λ (p : NodePair). p.0.0) f.4 ∙ a) | inr a ↦ (f.2, f.3, ap (λ (p : NodePair). p.1.0) f.4 ∙ a) ]
          | inr f ↦ elim e as (λ _. SiteOf n) [ inl a ↦ (f.0, f.1, ap (λ (p : NodePair). p.0.0) f.4 ∙ a) | inr a ↦ absurd (never_computer n f.2 f.3 (ap (λ (p : NodePair). p.1.0) f.4 ∙ a) h) ]
        ]
      ]

  -- ---- who is among the others
  near_others : (n : Name) (p : NodePair) → Member p places → p.0.0 ≡ n → Member p.1 (others n places)
  near_others n p m e = in_filter_map (other_end n) p p.1 places m (ap (λ b. cond b (Some p.1) (cond (same_name p.1.0 n) (Some p.0) None)) (subst (λ n. same_name p.0.0 n ≡ true) e (itself p.0.0)))

  far_others : (n : Name) (p : NodePair) → Member p places → (p.0.0 ≡ n → ⊥) → p.1.0 ≡ n → Member p.0 (others n places)
  far_others n p m h e =
      in_filter_map (other_end n) p p.0 places m
      (ap (λ b. cond b (Some p.1) (cond (same_name p.1.0 n) (Some p.0) None)) (same_false p.0.0 n h) ∙ ap (λ b. cond b (Some p.0) None) (subst (λ n. same_name p.1.0 n ≡ true) e (itself p.1.0)))

  feed_among : (c : NodeId) → Member c x.topology.controllers → Member (config, Configuration) (others c.name places)
  feed_among c m = far_others c.name (feed_link c) (in_feeds c m) (λ e. names.no_site_config c.name (site_name c m) (sym e)) refl

  peer_among : (c d : NodeId) → Member c x.topology.controllers → Member d x.topology.controllers → (c.name ≡ d.name → ⊥) → Member (d.name, Controller) (others c.name places)
  peer_among c d m n h =
      elim (in_peerings x.topology.controllers c d m n h) as (λ _. Member (d.name, Controller) (others c.name places)) [
        | inl l ↦ near_others c.name (peer_link c d) (peer_in (peer_session c d) l) refl
        | inr r ↦ far_others c.name (peer_link d c) (peer_in (peer_session d c) r) (λ e. h (sym e)) refl
      ]

  lists_it : (n : Node) (c : NodeId) → Member c.name n.controllers → lists n c ≡ true
  lists_it n c m = any_in (same_name c.name) c.name n.controllers m (itself c.name)

  agent_among : (c : NodeId) (n : Node) → Member c x.topology.controllers → Member n x.topology.nodes → Member c.name n.controllers → Member (n.name, Agent) (others c.name places)
  agent_among c n m k l = near_others c.name (access_link c n) (access_in (access_session c n) (in_accesses x.topology.controllers x.topology.nodes c n m k (lists_it n c l))) refl

  control_among : (c : NodeId) (n : Node) → Member c x.topology.controllers → Member n x.topology.nodes → Member c.name n.controllers → Member (c.name, Controller) (others n.name places)
  control_among c n m k l =
      far_others n.name (access_link c n) (access_in (access_session c n) (in_accesses x.topology.controllers x.topology.nodes c n m k (lists_it n c l)))
      (λ e. names.kinds_apart c.name n.name (site_name c m) (computer_name n k) e) refl

  site_named : (name : Name) → Member name (controller_names x.topology) → SiteOf name
  site_named name m = from_map (λ (c : NodeId). c.name) name x.topology.controllers m

  -- an agent that lists a control node is among its agents
  is_among : (c : NodeId) (n : Node) → Member c x.topology.controllers → Member n x.topology.nodes → Member c.name n.controllers → IsAmong n.address (agents_at x places c.name)
  is_among c n i k l =
      let first = 1 + length (filter (is_in_role Controller) (others c.name places)) in
      let e = in_enumerate first (Some (id_of n)) (agents_of x c.name) ((fits c i).all n k (lists_it n c l)) in
      ((e.0, n.address), in_filter_map (λ (e : ℕ × Option NodeId). numbered_at e.0 e.1) (e.0, Some (id_of n)) (e.0, n.address) (enumerate_from first (agents_of x c.name)) e.1 refl, refl)

  served : (c : NodeId) → Member c x.topology.controllers → IsServed (low x) (agents_at x places c.name) (peers_at x places c.name)
  served c m a at =
      let h = valid.homed a at in
      let n = h.0 in
      let l = valid.named.lists n h.1 in
      let first : Member l.0 n.controllers = subst (Member l.0) (sym l.2) (inl refl) in
      let d = site_named l.0 (valid.named.listed n l.0 h.1 first) in
      let lists_d : Member d.0.name n.controllers = subst (λ name. Member name n.controllers) (sym d.2) first in
      let among : IsAmong a.node (agents_at x places d.0.name) = subst (λ address. IsAmong address (agents_at x places d.0.name)) h.2 (is_among d.0 n d.1 h.1 lists_d) in
      elim (same_name c.name d.0.name) as (λ b. same_name c.name d.0.name ≡ b → IsAmong a.node (agents_at x places c.name) ⊎ ((o : Agents) × Member o (peers_at x places c.name) × IsAmong a.node o)) [
        | true ↦ λ e. inl (subst (λ name. IsAmong a.node (agents_at x places name)) (sym (name_is c.name d.0.name e)) among)
        | false ↦ λ e. inr (
          agents_at x places d.0.name,
          in_map (λ (o : Party). agents_at x places o.0) (d.0.name, Controller) (filter (is_in_role Controller) (others c.name places))
              (in_filter (is_in_role Controller) (d.0.name, Controller) (others c.name places) (peer_among c d.0 m d.1 (λ is. true≢false (sym ((bytes_decides c.name d.0.name).1 is) ∙ e))) refl),
          among,
        )
      ] refl

  node_address : (n : Node) → Member n x.topology.nodes → address_of x n.name ≡ n.address
  node_address n k = ap (λ (o : Option Node). unwrap_or (option_map (λ (c : Node). c.address) o) (record { 0 = 0 })) (computer_found x.topology.nodes n names.computers_apart k)

  -- each number
  numbered : (c : NodeId) → Member c x.topology.controllers → (a : NodeId) → Member (Some a) (agents_of x c.name) → Member (a.name, Agent) (others c.name places) × (address_of x a.name ≡ a.address)
  numbered c i a m =
      let n = (fits c i).only a m in
      let lists_c : Member c.name n.0.controllers = listed_member c n.0 n.3 in
      subst (λ (a : NodeId). Member (a.name, Agent) (others c.name places) × (address_of x a.name ≡ a.address)) n.2 (agent_among c n.0 i n.1 lists_c, node_address n.0 n.1)

  end_is : (n : Name) (p : NodePair) (o : Party) → other_end n p ≡ Some o → ((p.0.0 ≡ n) × (p.1 ≡ o)) ⊎ ((p.1.0 ≡ n) × (p.0 ≡ o))
  end_is n p o e =
      elim (same_name p.0.0 n) as (λ b. same_name p.0.0 n ≡ b → cond b (Some p.1) (cond (same_name p.1.0 n) (Some p.0) None) ≡ Some o → ((p.0.0 ≡ n) × (p.1 ≡ o)) ⊎ ((p.1.0 ≡ n) × (p.0 ≡ o))) [
        | true ↦ λ t e. inl (name_is p.0.0 n t, same_Some p.1 o e)
        | false ↦ λ _ e. elim (same_name p.1.0 n) as (λ b. same_name p.1.0 n ≡ b → cond b (Some p.0) None ≡ Some o → ((p.0.0 ≡ n) × (p.1 ≡ o)) ⊎ ((p.1.0 ≡ n) × (p.0 ≡ o))) [
          | true ↦ λ t e. inr (name_is p.1.0 n t, same_Some p.0 o e)
          | false ↦ λ _ e. absurd (none_some o e)
        ] refl e
      ] refl e

  no_agent : (r : Role) (o : Party) → (r ≡ Agent → ⊥) → r ≡ o.1 → o.1 ≡ Agent → ⊥
  no_agent r o h e f = h (e ∙ f)

  control_no : Controller ≡ Agent → ⊥
  control_no e = cc

  config_no : Configuration ≡ Agent → ⊥
  config_no e = cc

  -- an agent among the others lists the control node
  abbrev AgentOf : Name → Name → Type 0
  AgentOf n m = (c : NodeId) × Member c x.topology.controllers × (c.name ≡ n) × (k : Node) × Member k x.topology.nodes × (k.name ≡ m) × (lists k c ≡ true)

  agent_of : (n : Name) (o : Party) → Member o (others n places) → o.1 ≡ Agent → AgentOf n o.0
  agent_of n o m h =
      let q = from_filter_map (other_end n) o places m in
      let p = q.0 in
      let e = end_is n p o q.2 in
      elim (kind p q.1) as (λ _. AgentOf n o.0) [
        | inl f ↦ elim e as (λ _. AgentOf n o.0) [
          | inl a ↦ absurd (no_agent Controller o control_no (ap (λ (p : NodePair). p.1.1) f.2 ∙ ap (λ (o : Party). o.1) a.1) h)
          | inr a ↦ absurd (no_agent Configuration o config_no (ap (λ (p : NodePair). p.0.1) f.2 ∙ ap (λ (o : Party). o.1) a.1) h)
        ]
        | inr r ↦ elim r as (λ _. AgentOf n o.0) [
          | inl f ↦ elim e as (λ _. AgentOf n o.0) [
            | inl a ↦ absurd (no_agent Controller o control_no (ap (λ (p : NodePair). p.1.1) f.4 ∙ ap (λ (o : Party). o.1) a.1) h)
            | inr a ↦ absurd (no_agent Controller o control_no (ap (λ (p : NodePair). p.0.1) f.4 ∙ ap (λ (o : Party). o.1) a.1) h)
          ]
          | inr f ↦ elim e as (λ _. AgentOf n o.0) [
            | inl a ↦ (f.0, f.1, ap (λ (p : NodePair). p.0.0) f.4 ∙ a.0, f.2, f.3, ap (λ (p : NodePair). p.1.0) f.4 ∙ ap (λ (o : Party). o.0) a.1, f.5)
            | inr a ↦ absurd (no_agent Controller o control_no (ap (λ (p : NodePair). p.0.1) f.4 ∙ ap (λ (o : Party). o.1) a.1) h)
          ]
        ]
      ]

  address_found : (a : NodeId) (agents : List (Option NodeId)) → AreOnce agents → Member (Some a) agents → address_in agents a.name ≡ a.address
  address_found a [] h m = absurd m
  address_found a (None ∷ agents) h (inl e) = absurd (none_some a e)
  address_found a (None ∷ agents) h (inr m) = address_found a agents h m
  address_found a (Some b ∷ agents) h (inl e) =
      let f : b ≡ a = same_Some b a e in
      ap (λ c. cond c b.address (address_in agents a.name)) (subst (λ (k : NodeId). same_name b.name k.name ≡ true) f (itself b.name)) ∙ ap (λ (k : NodeId). k.address) f
  address_found a (Some b ∷ agents) h (inr m) =
      ap (λ c. cond c b.address (address_in agents a.name)) (same_false b.name a.name (h.0 a m)) ∙ address_found a agents h.1 m

  addressed : (n : Name) (o : Party) → Member o (others n places) → o.1 ≡ Agent → address_in (agents_of x n) o.0 ≡ address_of x o.0
  addressed n o m e =
      let q = agent_of n o m e in
      let fit = fits q.0 q.1 in
      let found : address_in (agents_of x q.0.name) q.3.name ≡ q.3.address = address_found (id_of q.3) (agents_of x q.0.name) fit.once (fit.all q.3 q.4 q.6) in
      let there : address_in (agents_of x n) o.0 ≡ q.3.address = subst (λ (n : Name). address_in (agents_of x n) o.0 ≡ q.3.address) q.2 (subst (λ (k : Name). address_in (agents_of x q.0.name) k ≡ q.3.address) q.5 found) in
      there ∙ sym (subst (λ (k : Name). address_of x k ≡ q.3.address) q.5 (node_address q.3 q.4))

  computer_is : (ns : List Node) (name : Name) (c : Node) → find (λ n. same_name n.name name) ns ≡ Some c → Member c ns × (c.name ≡ name)
  computer_is [] name c e = absurd (none_some c e)
  computer_is (d ∷ ns) name c e = go (computer_is ns name c) (same_name d.name name) refl e
    where
      go : (find (λ n. same_name n.name name) ns ≡ Some c → Member c ns × (c.name ≡ name)) → (b : Bool) → same_name d.name name ≡ b → cond b (Some d) (find (λ n. same_name n.name name) ns) ≡ Some c → Member c (d ∷ ns) × (c.name ≡ name)
      go rest true t e = let is : d ≡ c = same_Some d c e in (inl is, subst (λ (c : Node). c.name ≡ name) is (name_is d.name name t))
      go rest false t e = let q = rest e in (inr q.0, q.1)

  -- the sessions of a sound setup are laid
  pub is_laid : IsLaid x places
  is_laid = record {
    sound = valid.sound;
    longest = valid.within;
    roles = all_of (HasRoles x) places roles_at;
    fed = λ n o m h. let s = site_of n o m h in (config, subst (λ n. Member (config, Configuration) (others n places)) s.2 (feed_among s.0 s.1));
    served = λ n o m h. let s = site_of n o m h in subst (λ n. IsServed (low x) (agents_at x places n) (peers_at x places n)) s.2 (served s.0 s.1);
    numbered = λ n o m h. let s = site_of n o m h in subst (λ n. (a : NodeId) → Member (Some a) (agents_of x n) → Member (a.name, Agent) (others n places) × (address_of x a.name ≡ a.address)) s.2 (numbered s.0 s.1);
    addressed = λ n o m h e. addressed n o m e;
    first = λ n c e h.
        let k = computer_is x.topology.nodes n c e in
        let l = valid.named.lists c k.0 in
        let first : Member l.0 c.controllers = subst (Member l.0) (sym l.2) (inl refl) in
        let d = site_named l.0 (valid.named.listed c l.0 k.0 first) in (
          l.0,
          l.1,
          l.2,
          subst (λ (name : Name). Member (name, Controller) (others n places)) d.2
              (subst (λ n. Member (d.0.name, Controller) (others n places)) k.1 (control_among d.0 c d.1 k.0 (subst (λ name. Member name c.controllers) (sym d.2) first))),
        );
    listed = λ n c e m l. let k = computer_is x.topology.nodes n c e in role_site m (valid.named.listed c m k.0 l);
  }

  -- a node of the topology is a control node with its feed, or an agent
  pub control_named : (name : Name) → list_any (λ (c : NodeId). same_name c.name name) x.topology.controllers ≡ true → (role_of x name ≡ Controller) × Member (config, Configuration) (others name places)
  control_named name e =
      let q = from_any (λ (c : NodeId). same_name c.name name) x.topology.controllers e in
      let is : q.0.name ≡ name = name_is q.0.name name q.2 in
      subst (λ (name : Name). (role_of x name ≡ Controller) × Member (config, Configuration) (others name places)) is (role_site q.0.name (site_name q.0 q.1), feed_among q.0 q.1)

  pub agent_named : (name : Name) (c : Node) → node_named x.topology name ≡ Some c → role_of x name ≡ Agent
  agent_named name c e = let k = computer_is x.topology.nodes name c e in ap (role_of x) (sym k.1) ∙ role_computer c k.0
