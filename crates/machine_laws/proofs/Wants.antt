-- Where all that is held in a network is tied, all that is wanted is.
use Rattle.std.specs.FinMap.{empty}
use Rattle.std.specs.List.{AllByRecursion, enumerate_from, filter_map}
use Rattle.std.specs.declared.option.Option.TheVariants.{None, Some}
use Rattle.std.specs.declared.option.Option.{Option}
use Rattle.std.specs.Prelude.{List, cond, false, length, map, true, ℕ, [], ◌+◌, ◌∷◌, ◌≡◌}
use Rattle.std.proofs.Common.{inl, inr, subst, sym}
use Rattle.ov_types.specs.declared.rows.NodeId.{NodeId}
use Rattle.schedule_script.specs.ConfigCheck.Finding.{node_named}
use Rattle.node_laws.specs.NodeModel.Agent.{slice_in_use}
use Rattle.node_laws.specs.NodeModel.Maps.{Map}
use Rattle.node_laws.specs.NodeModel.Members.{Member}
use Rattle.node_laws.specs.NodeModel.Paths.{Told}
use Rattle.machine_model.specs.Moments.{Each}
use Rattle.machine_model.specs.Network.{View, agent_holdings, control_holdings, first_held, heard_from, same_role, sessions_of, told_by, told_on, view, views_of, wanted, wanted_from, with_role}
use Rattle.machine_model.specs.Session.{Agent, Configuration, Controller, Role, Session, is_up_phase, turned}
use Rattle.machine_model.specs.Setup.{Name, Setup, agents_of, listed_by, low as low_map}
use Rattle.machine_model.proofs.Twins.{all_to_own, each_weaker}
use Rattle.machine_laws.specs.Settling.{Fair}
use Rattle.machine_laws.proofs.Views.{views}
use Rattle.ov_types.specs.First.{same_name}
use Rattle.schedule_script.specs.Ties.{Ties}
use Rattle.machine_laws.specs.Tied.{AreTied, tied}
use Rattle.machine_laws.proofs.Labels.{none_tied}
use Rattle.machine_laws.proofs.TiedControls.{to_agent, to_peers}
use Rattle.machine_laws.proofs.Agents.{slice_tied, told_tied}

-- ---- from the sessions of a node, for any fact of a map
module _ (P : Map → Type 0) (none : P empty) where
  abbrev Held : Session → Type 0
  Held s = P s.near.held

  feed_of : (own : List Session) → Each Held own → P (first_held (with_role Configuration (views own)))
  feed_of [] h = none
  feed_of (s ∷ own) h = elim (same_role Configuration s.far.role) as (λ b. P (first_held (cond b (view s ∷ with_role Configuration (views own)) (with_role Configuration (views own))))) [ true ↦ h.0 | false ↦ feed_of own h.1 ]

  peers_of : (own : List Session) → Each Held own → (m : Map) → Member m (map (λ v. v.held) (with_role Controller (views own))) → P m
  peers_of [] h m i = absurd i
  peers_of (s ∷ own) h m i =
      elim (same_role Controller s.far.role) as (λ b. Member m (map (λ v. v.held) (cond b (view s ∷ with_role Controller (views own)) (with_role Controller (views own)))) → P m) [
        | true ↦ λ i. elim i as (λ _. P m) [ inl e ↦ subst P e h.0 | inr i ↦ peers_of own h.1 m i ]
        | false ↦ λ i. peers_of own h.1 m i
      ] i

  heard_of : (own : List Session) → Each Held own → (m : Name) → P (heard_from (views own) m).map
  heard_of [] h m = none
  heard_of (s ∷ own) h m = elim (same_name s.far.name m) as (λ b. P (cond b (record { is_up = is_up_phase s.near.phase; map = s.near.held }) (heard_from (views own) m)).map) [ true ↦ h.0 | false ↦ heard_of own h.1 m ]

  told_of_agents : (m : ℕ) (own : List Session) → Each Held own → (agents : List (Option NodeId)) → (a : Told) → Member a (filter_map (λ e. told_by (views own) e.0 e.1) (enumerate_from m agents)) → P a.map
  told_of_agents m own h [] a i = absurd i
  told_of_agents m own h (None ∷ agents) a i = told_of_agents (m + 1) own h agents a i
  told_of_agents m own h (Some b ∷ agents) a (inl e) = subst (λ (a : Told). P a.map) e (heard_of own h b.name)
  told_of_agents m own h (Some b ∷ agents) a (inr i) = told_of_agents (m + 1) own h agents a i

  all_heard : (own : List Session) → Each Held own → (ms : List Name) → AllByRecursion (λ h. P h.map) (map (heard_from (views own)) ms)
  all_heard own h [] = tt
  all_heard own h (m ∷ ms) = (heard_of own h m, all_heard own h ms)

  -- all that an agent holds
  pub agent_holds : (x : Setup) (n : Name) (own : List Session) → Each Held own → AllByRecursion (λ h. P h.map) (agent_holdings x n (views own))
  agent_holds x n own h = all_heard own h (listed_by (node_named x.topology n))

-- ---- of every node
module _ (t : Ties) where
  abbrev pub AllTied : ℕ → Session → Type 0
  AllTied asn = Fair (tied t asn)

  wanted_tied : (x : Setup) (own : List Session) (v : View) → AreTied t x.topology.asn (low_map x) → Each (λ s. AreTied t x.topology.asn s.near.held) own → AreTied t x.topology.asn (wanted x (views own) v)
  unfolding wanted
  wanted_tied x own v feed h = go v.role v.other_role
    where
      T : Map → Type 0
      T m = AreTied t x.topology.asn m

      none : T empty
      none = none_tied t x.topology.asn

      go : (p q : Role) → T (wanted_from x (views own) (record v { other_role = q }) p)
      go Configuration q = feed
      go Agent q = told_tied t x.topology.asn (slice_in_use (agent_holdings x v.name (views own))) (slice_tied t x.topology.asn (agent_holdings x v.name (views own)) (agent_holds T none x v.name own h))
      go Controller Configuration = none
      go Controller Controller = to_peers t (control_holdings x v.name (views own)) (feed_of T none own h) (peers_of T none own h) (told_of_agents T none (1 + length (with_role Controller (views own))) own h (agents_of x v.name))
      go Controller Agent = to_agent t (control_holdings x v.name (views own)) (feed_of T none own h) (peers_of T none own h) (told_of_agents T none (1 + length (with_role Controller (views own))) own h (agents_of x v.name)) (told_on (agents_of x v.name) v)

  each_wanted : (asn : ℕ) (x : Setup) (vs : List View) (own : List Session) → ((v : View) → AreTied t asn (wanted x vs v)) → Each (λ s. AreTied t asn (wanted x vs (view s))) own
  each_wanted asn x vs [] h = tt
  each_wanted asn x vs (s ∷ own) h = (h (view s), each_wanted asn x vs own h)

  -- what a node holds
  pub own_held : (asn : ℕ) (ss : List Session) (n : Name) → Each (AllTied asn) ss → Each (λ s. AreTied t asn s.near.held) (sessions_of n ss)
  own_held asn ss n f =
      all_to_own (λ s. AreTied t asn s.near.held) n ss
      (each_weaker (AllTied asn) (λ s. AreTied t asn s.near.held × AreTied t asn (turned s).near.held) (λ s f. (f.near_held, f.far_held)) ss f)

  pub wants_tied : (asn : ℕ) (x : Setup) (ss : List Session) (n : Name) → x.topology.asn ≡ asn → AreTied t asn (low_map x) → Each (AllTied asn) ss → Each (λ s. AreTied t asn (wanted x (views_of n ss) (view s))) (sessions_of n ss)
  wants_tied asn x ss n is feed f =
      let own = sessions_of n ss in
      let held = own_held asn ss n f in
      each_wanted asn x (views own) own (λ v. subst (λ n. AreTied t n (wanted x (views own) v)) is (wanted_tied x own v (subst (λ n. AreTied t n (low_map x)) (sym is) feed) (subst (λ n. Each (λ s. AreTied t n s.near.held) own) (sym is) held)))
