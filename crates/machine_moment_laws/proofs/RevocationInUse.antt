-- From the slices that agents hold on their sessions to those that they use.
use Rattle.std.specs.Prelude.{◌≡◌, ◌⊎◌, List, [], ◌∷◌, ◌++◌, map, true, false, cond}
use Rattle.std.specs.declared.option.Option.{Option}
use Rattle.std.specs.declared.option.Option.TheVariants.{Some, None}
use Rattle.std.specs.List.{AllByRecursion, cons_option}
use Rattle.std.specs.Cmp.Lexicographic.{bytes_decides}
use Rattle.std.proofs.lemmas.Option.{same_Some}
use Rattle.std.proofs.Common.{refl, sym, ◌∙◌, ap, subst, inl, inr}
use Rattle.ov_types.specs.First.{same_name}
use Rattle.ov_types.specs.declared.rows.NodeId.{NodeId}
use Rattle.config_types.specs.declared.topology.Node.{Node}
use Rattle.config_types.specs.declared.topology.Topology.{Topology}
use Rattle.schedule_script.specs.ConfigCheck.Finding.{node_named}
use Rattle.schedule_script.specs.ConfigCheck.Rules.{controller_names, node_names}
use Rattle.node_laws.specs.NodeModel.Members.{Member}
use Rattle.node_laws.proofs.NodeModel.Members.{from_map, in_either, in_map}
use Rattle.node_laws.specs.NodeModel.Maps.{Map, objects}
use Rattle.node_laws.specs.NodeModel.Wants.{slice}
use Rattle.node_laws.specs.NodeModel.Agent.{slice_in_use}
use Rattle.machine_model.specs.Setup.{Name, Setup, agents_of, id_of, lists, low}
use Rattle.machine_model.specs.Session.{Session, turned, is_up_phase}
use Rattle.machine_model.specs.Network.{accesses, address_in, asked, config, feeds, heard_from, is_at, peerings, sessions_of, start, view}
use Rattle.machine_model.specs.Events.{after}
use Rattle.machine_model.specs.Rounds.{after_rounds}
use Rattle.machine_model.specs.Moments.{AreOnce, Each, EditsAreValid, IsLaidOut, LaidOut, NodePair, NumbersFit, nodes, WhereLaidOut}
use Rattle.machine_model.proofs.Apart.{IsAccess, IsPeering, NamesApart, apart_of, feed_session, from_accesses, from_peerings, names_apart, same_false}
use Rattle.machine_model.proofs.Asking.{sessions_are_asked}
use Rattle.machine_model.proofs.Changing.{found_alone}
use Rattle.machine_model.proofs.Listed.{of_nodes}
use Rattle.machine_model.proofs.Numbered.{numbers_fit}
use Rattle.machine_moment_laws.specs.Revocation.{AllGoByPresent, AllHoldSlices, GoesByPresent, HoldsSlice, RevokesInTwo, SlicesInTwo}
use Rattle.machine_moment_laws.proofs.Slices.{no_objects}
use Rattle.machine_moment_laws.proofs.RoundsAsOne.{after_append, after_flat, append_valid, flat, flat_deliveries}

-- ---- the sessions of a topology
record IsFeed (t : Topology) (p : NodePair) : Type 0 where
  near : p.0.0 ≡ config
  far : Member p.1.0 (controller_names t)

abbrev Kind : Topology → NodePair → Type 0
Kind t p = IsFeed t p ⊎ (IsPeering t.controllers p ⊎ IsAccess t.controllers t.nodes p)

kind_of : (t : Topology) (s : Session) → Member s (asked t) → Kind t (nodes s)
kind_of t s m =
    elim (in_either s (feeds t.controllers ++ peerings t.controllers) (accesses t.controllers t.nodes) m) as (λ _. Kind t (nodes s)) [
      | inr a ↦ inr (inr (from_accesses t.controllers t.nodes s a))
      | inl r ↦ elim (in_either s (feeds t.controllers) (peerings t.controllers) r) as (λ _. Kind t (nodes s)) [
        | inl f ↦ let q = from_map (λ c. feed_session c) s t.controllers f in
            inl (record { near = ap (λ (s : Session). s.near.name) (sym q.2); far = subst (λ (n : Name). Member n (controller_names t)) (ap (λ (s : Session). s.far.name) q.2) (in_map (λ (c : NodeId). c.name) q.0 t.controllers q.1) })
        | inr p ↦ inr (inl (from_peerings t.controllers s p))
      ]
    ]

kinds_all : (t : Topology) (ss : List Session) → ((s : Session) → Member s ss → Kind t (nodes s)) → AllByRecursion (Kind t) (map nodes ss)
kinds_all t [] h = tt
kinds_all t (s ∷ ss) h = (h s (inl refl), kinds_all t ss (λ u m. h u (inr m)))

-- ---- the address of an agent at a control node
none_not_some : (a : NodeId) → None ≡ Some a → ⊥
none_not_some a e = cc

address_found : (a : NodeId) (agents : List (Option NodeId)) → AreOnce agents → Member (Some a) agents → address_in agents a.name ≡ a.address
address_found a [] o m = absurd m
address_found a (None ∷ agents) o (inl e) = absurd (none_not_some a e)
address_found a (None ∷ agents) o (inr m) = address_found a agents o m
address_found a (Some b ∷ agents) o (inl e) =
    let same : b ≡ a = same_Some b a e in
    ap (λ c. cond c b.address (address_in agents a.name)) ((bytes_decides b.name a.name).1 (ap (λ (n : NodeId). n.name) same)) ∙ ap (λ (n : NodeId). n.address) same
address_found a (Some b ∷ agents) o (inr m) =
    ap (λ c. cond c b.address (address_in agents a.name)) (same_false b.name a.name (o.0 a m)) ∙ address_found a agents o.1 m

abbrev Fine : Setup → Node → Map → Type 0
Fine x n m = (objects m ≡ slice (low x) n.address) ⊎ (objects m ≡ [])

-- ---- the sessions of one agent
module _ (x : Setup) (laid : IsLaidOut x.topology) (fit : (c : NodeId) → Member c x.topology.controllers → NumbersFit x.topology c (agents_of x c.name)) (n : Node) (there : Member n x.topology.nodes) where
  abbrev t : Topology
  t = x.topology

  names : NamesApart t
  names = names_apart t (apart_of (config ∷ controller_names t ++ node_names t) laid.apart)

  named : Member n.name (node_names t)
  named = in_map (λ (n : Node). n.name) n t.nodes there

  no_site : (c : NodeId) → Member c t.controllers → c.name ≡ n.name → ⊥
  no_site c m e = names.kinds_apart c.name n.name (in_map (λ (c : NodeId). c.name) c t.controllers m) named e

  near_fine : (s : Session) → Kind t (nodes s) → s.near.name ≡ n.name → ⊥
  near_fine s (inl f) at = names.no_computer_config n.name named (sym at ∙ f.near)
  near_fine s (inr (inl p)) at = no_site p.0 p.1 (ap (λ (p : NodePair). p.0.0) p.4 ∙ at)
  near_fine s (inr (inr a)) at = no_site a.0 a.1 (ap (λ (p : NodePair). p.0.0) a.4 ∙ at)

  far_fine : (s : Session) → Kind t (nodes s) → s.far.name ≡ n.name → HoldsSlice x s → Fine x n s.far.held
  far_fine s (inl f) at h = absurd (names.kinds_apart s.far.name n.name f.far named at)
  far_fine s (inr (inl p)) at h = absurd (no_site p.2 p.3 (ap (λ (p : NodePair). p.1.0) p.4 ∙ at))
  far_fine s (inr (inr a)) at h =
      let link = a.4 in
      let other : a.2.name ≡ n.name = ap (λ (p : NodePair). p.1.0) link ∙ at in
      let same : a.2 ≡ n = same_Some a.2 n
      (sym (found_alone a.2 t.nodes names.computers_apart a.3) ∙ ap (λ (k : Name). find_named k) other ∙ found_alone n t.nodes names.computers_apart there) in
      let lists_it : lists n a.0 ≡ true = ap (λ (n : Node). lists n a.0) (sym same) ∙ a.5 in
      let f = fit a.0 a.1 in
      let address : address_in (agents_of x s.near.name) s.far.name ≡ n.address =
      (λ i. address_in (agents_of x (sym (ap (λ (p : NodePair). p.0.0) link) i)) (at i)) ∙ address_found (id_of n) (agents_of x a.0.name) f.once (f.all n there lists_it) in
      subst (λ d. (objects s.far.held ≡ slice (low x) d) ⊎ (objects s.far.held ≡ [])) address
      (h (ap (λ (p : NodePair). p.0.1) (sym link)) (ap (λ (p : NodePair). p.1.1) (sym link)))
    where
      find_named : Name → Option Node
      find_named k = node_named t k

  own_fine : (ss : List Session) → Each (λ s. Kind t (nodes s)) ss → Each (HoldsSlice x) ss → Each (λ s. Fine x n s.near.held) (sessions_of n.name ss)
  own_fine [] k h = tt
  own_fine (s ∷ ss) k h =
      elim (is_at n.name s.near) as (λ b. is_at n.name s.near ≡ b → Each (λ s. Fine x n s.near.held) (cons_option (cond b (Some s) (cond (is_at n.name s.far) (Some (turned s)) None)) (sessions_of n.name ss))) [
        | true ↦ λ at. absurd (near_fine s k.0 ((bytes_decides s.near.name n.name).0 at))
        | false ↦ λ _. elim (is_at n.name s.far) as (λ b. is_at n.name s.far ≡ b → Each (λ s. Fine x n s.near.held) (cons_option (cond b (Some (turned s)) None) (sessions_of n.name ss))) [
          | true ↦ λ at. (far_fine s k.0 ((bytes_decides s.far.name n.name).0 at) h.0, own_fine ss k.1 h.1)
          | false ↦ λ _. own_fine ss k.1 h.1
        ] refl
      ] refl

  heard_fine : (own : List Session) → Each (λ s. Fine x n s.near.held) own → (c : Name) → Fine x n (heard_from (map view own) c).map
  heard_fine [] e c = inr no_objects
  heard_fine (s ∷ own) e c =
      elim (same_name s.far.name c) as (λ b. Fine x n (cond b (record { is_up = is_up_phase s.near.phase; map = s.near.held }) (heard_from (map view own) c)).map) [ true ↦ e.0 | false ↦ heard_fine own e.1 c ]

  use_fine : (own : List Session) → Each (λ s. Fine x n s.near.held) own → (cs : List Name) → GoesByPresent x n (slice_in_use (map (heard_from (map view own)) cs))
  use_fine own e [] = inr refl
  use_fine own e (c ∷ cs) =
      elim (heard_from (map view own) c).is_up as (λ b. GoesByPresent x n (cond b (objects (heard_from (map view own) c).map) (slice_in_use (map (heard_from (map view own)) cs)))) [ true ↦ heard_fine own e c | false ↦ use_fine own e cs ]

pub slices_in_use : WhereLaidOut SlicesInTwo → WhereLaidOut RevokesInTwo
slices_in_use held size positive x l es laid rounds unbroken many r =
    let now = after size (start x) es in
    let fs = es ++ flat rounds in
    let v = after size (start x) fs in
    let same : after_rounds size now rounds ≡ v = after_flat size now rounds ∙ sym (after_append size (start x) es (flat rounds)) in
    let valid : EditsAreValid size LaidOut (start x) fs = append_valid size LaidOut (start x) es (flat rounds) laid (flat_deliveries size now rounds r) in
    let asked_now = sessions_are_asked size positive x l fs valid in
    let holds : AllHoldSlices v = subst AllHoldSlices same (held size positive x l es laid rounds unbroken many r) in
    let kinds = of_nodes (Kind v.setup.topology) v.sessions (subst (AllByRecursion (Kind v.setup.topology)) (sym asked_now.1) (kinds_all v.setup.topology (asked v.setup.topology) (λ s m. kind_of v.setup.topology s m))) in
    subst AllGoByPresent (sym same)
    (λ n m. use_fine v.setup asked_now.0 (numbers_fit size positive x l fs valid) n m (sessions_of n.name v.sessions) (own_fine v.setup asked_now.0 (numbers_fit size positive x l fs valid) n m v.sessions kinds holds) _)
