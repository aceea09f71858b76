-- An edit keeps it too: a control node that gets the new session of a compute node wants what it wanted, since nothing came on it.
use Rattle.std.specs.Prelude.{◌≡◌, ◌⊎◌, ◌+◌, ℕ, List, [], ◌∷◌, ◌++◌, map, length, true, false, not, cond, Bool, is_some}
use Rattle.std.specs.Cmp.Lexicographic.{bytes_decides}
use Rattle.std.specs.FinMap.{empty}
use Rattle.std.specs.List.{AllByRecursion, cons_option, enumerate_from, filter, filter_map, list_any}
use Rattle.std.specs.declared.option.Option.{Option}
use Rattle.std.specs.declared.option.Option.TheVariants.{None, Some}
use Rattle.std.proofs.Common.{ap, inl, inr, refl, subst, sym, ◌∙◌}
use Rattle.std.proofs.lemmas.Bool.{true≢false}
use Rattle.ov_types.specs.First.{same_name}
use Rattle.ov_types.specs.declared.prefix.Addr.{Addr}
use Rattle.ov_types.specs.declared.rows.NodeId.{NodeId}
use Rattle.config_types.specs.declared.edit.Edit.{Edit}
use Rattle.config_types.specs.declared.topology.Node.{Node}
use Rattle.config_types.specs.declared.topology.Topology.{Topology}
use Rattle.schedule_script.specs.ConfigCheck.Edits.{edit_fault, edited as checked_edited}
use Rattle.schedule_script.specs.ConfigCheck.Finding.{node_named}
use Rattle.schedule_script.specs.ConfigCheck.Rules.{controller_names}
use Rattle.node_laws.specs.Quiet.{IsWithout, SameButQuiet}
use Rattle.node_laws.proofs.Quiet.{quiet_by_agent, quiet_by_peers}
use Rattle.node_laws.specs.NodeModel.Agent as agent
use Rattle.node_laws.specs.NodeModel.Members.{Member}
use Rattle.node_laws.specs.NodeModel.Paths.{Told}
use Rattle.node_laws.specs.NodeModel.Step.{Idle}
use Rattle.node_laws.specs.NodeModel.Wants.{wanted_by_agent}
use Rattle.node_laws.proofs.NodeModel.Members.{any_in, from_any, from_filter, in_map}
use Rattle.machine_model.specs.Events.{edits, moved}
use Rattle.machine_model.specs.Moments.{Each, TellsWanted, nodes}
use Rattle.machine_model.specs.Network.{MachineState, View, address_in, between, brought, config, first_held, heard_from, holdings_of, is_at, is_of, replaced, same_role, seen_by, sessions_of, told_by, told_on, view, wanted, wanted_from, wanted_from_control, with_role}
use Rattle.machine_model.specs.Session.{Agent, Configuration, Controller, Role, Session, are_peers, is_up_phase, may_send, turned}
use Rattle.machine_model.specs.Setup.{Move, Name, Numbers, Setup, agents_in, agents_of, came_at, checked, edited, edited_without, has_name, id_of, is_listed, listed_by, lists, moves, remade, renumbered, renumbered_at, with_agent, without_agent}
use Rattle.machine_model.proofs.Changing.{KindsApart, MoverIs, Renews, edit_apart, found_named, renews}
use Rattle.machine_model.specs.Steps.{pass}
use Rattle.machine_model.proofs.Apart.{NamesApart}
use Rattle.machine_model.proofs.Distinct.{same_false}
use Rattle.machine_model.proofs.Listed.{ListedAt, Placed, Stands, is_agents, of_nodes}
use Rattle.machine_model.proofs.NodesFact.{Holds}
use Rattle.machine_model.proofs.Replaced.{each_brought, each_replaced}
use Rattle.machine_model.proofs.SessionFact.{append_nil}
use Rattle.machine_model.proofs.ToldEdits.{each_as, of_parts, own_same, unseen}
use Rattle.machine_model.proofs.Twins.{each_and, each_weaker, itself, same_name_sym}
use Rattle.machine_moment_laws.proofs.Easy.{idle_sends_nothing}
use Rattle.machine_moment_laws.proofs.EditsTold.{same_address}
use Rattle.machine_moment_laws.proofs.Tells.{AllTell, TellsAt, by_node, pass_leaves_told, pass_tells, passes_tell, passes_unbroken}
use Rattle.machine_moment_laws.proofs.Unbroken.{NoBreak}

not_control_config : (r : Role) → r ≡ Controller → r ≡ Configuration → ⊥
not_control_config r e f = let g : Controller ≡ Configuration = sym e ∙ f in cc

not_agent_config : (r : Role) → r ≡ Agent → r ≡ Configuration → ⊥
not_agent_config r e f = let g : Agent ≡ Configuration = sym e ∙ f in cc

not_agent_control : (r : Role) → r ≡ Agent → r ≡ Controller → ⊥
not_agent_control r e f = let g : Agent ≡ Controller = sym e ∙ f in cc

-- ---- what is seen of a list
each_seen : (P : Session → Type 0) (m : Name) (ss : List Session) → Each (λ s. (is_at m s.near ≡ true → P s) × (is_at m s.far ≡ true → P (turned s))) ss → Each P (sessions_of m ss)
each_seen P m [] e = tt
each_seen P m (s ∷ ss) e =
    elim (is_at m s.near) as (λ b. is_at m s.near ≡ b → Each P (cons_option (cond b (Some s) (cond (is_at m s.far) (Some (turned s)) None)) (sessions_of m ss))) [
      | true ↦ λ at. (e.0.0 at, each_seen P m ss e.1)
      | false ↦ λ _. elim (is_at m s.far) as (λ b. is_at m s.far ≡ b → Each P (cons_option (cond b (Some (turned s)) None) (sessions_of m ss))) [
        | true ↦ λ at. (e.0.1 at, each_seen P m ss e.1)
        | false ↦ λ _. each_seen P m ss e.1
      ] refl
    ] refl

-- nothing is owed where nothing may be sent
none_tells : (x : Setup) (vs : List View) (own : List Session) → Each (λ s. may_send s ≡ false) own → TellsWanted x vs own
none_tells x vs [] e = tt
none_tells x vs (s ∷ own) e = ((λ may. absurd (true≢false (sym may ∙ e.0))), none_tells x vs own e.1)

-- ---- a session that a compute node of this name got, as a control node sees it
record IsMute (name : Name) (t : Session) : Type 0 where
  other_role : t.far.role ≡ Agent
  other : t.far.name ≡ name
  held : t.near.held ≡ empty
  quiet : may_send t ≡ false

-- the second list is the first without some of these
abbrev IsBeside : Name → List Session → List Session → Type 0
IsBeside name [] us = us ≡ []
IsBeside name (t ∷ ts) us = (IsMute name t × IsBeside name ts us) ⊎ ((rest : List Session) × (us ≡ t ∷ rest) × IsBeside name ts rest)

beside_cons : (name : Name) (o : Option Session) (ts us : List Session) → IsBeside name ts us → IsBeside name (cons_option o ts) (cons_option o us)
beside_cons name None ts us w = w
beside_cons name (Some s) ts us w = inr (us, refl, w)

module _ (name : Name) where
  -- the views of other roles are the same
  kept_role : (r : Role) → same_role r Agent ≡ false → (ts us : List Session) → IsBeside name ts us → with_role r (map view ts) ≡ with_role r (map view us)
  kept_role r off [] us w = ap (λ (us : List Session). with_role r (map view us)) (sym w)
  kept_role r off (t ∷ ts) us (inl w) =
      ap (λ b. cond b (view t ∷ with_role r (map view ts)) (with_role r (map view ts))) (ap (same_role r) w.0.other_role ∙ off) ∙ kept_role r off ts us w.1
  kept_role r off (t ∷ ts) us (inr w) =
      (λ i. cond (same_role r t.far.role) (view t ∷ kept_role r off ts w.0 w.2 i) (kept_role r off ts w.0 w.2 i)) ∙ ap (λ (us : List Session). with_role r (map view us)) (sym w.1)

  -- another node is heard as before
  abbrev heard_on : Session → agent.Heard
  heard_on t = record { is_up = is_up_phase t.near.phase; map = t.near.held }

  kept_heard : (a : Name) → (name ≡ a → ⊥) → (ts us : List Session) → IsBeside name ts us → heard_from (map view ts) a ≡ heard_from (map view us) a
  kept_heard a other [] us w = ap (λ (us : List Session). heard_from (map view us) a) (sym w)
  kept_heard a other (t ∷ ts) us (inl w) =
      ap (λ b. cond b (heard_on t) (heard_from (map view ts) a)) (same_false t.far.name a (λ e. other (sym w.0.other ∙ e))) ∙ kept_heard a other ts us w.1
  kept_heard a other (t ∷ ts) us (inr w) =
      (λ i. cond (same_name t.far.name a) (heard_on t) (kept_heard a other ts w.0 w.2 i)) ∙ ap (λ (us : List Session). heard_from (map view us) a) (sym w.1)

  -- and of the new one nothing
  new_heard : (ts us : List Session) → Each (λ s. s.far.name ≡ name → ⊥) us → IsBeside name ts us → (heard_from (map view ts) name).map ≡ empty
  new_heard [] us n w = refl
  new_heard (t ∷ ts) us n (inl w) = ap (λ b. (cond b (heard_on t) (heard_from (map view ts) name)).map) ((bytes_decides t.far.name name).1 w.0.other) ∙ w.0.held
  new_heard (t ∷ ts) us n (inr w) =
      let apart : Each (λ s. s.far.name ≡ name → ⊥) (t ∷ w.0) = subst (Each (λ s. s.far.name ≡ name → ⊥)) w.1 n in
      ap (λ b. (cond b (heard_on t) (heard_from (map view ts) name)).map) (same_false t.far.name name apart.0) ∙ new_heard ts w.0 apart.1 w.2

-- ---- what the agents told, by their numbers
abbrev tolds : List View → ℕ → List (Option NodeId) → List Told
tolds vs k agents = filter_map (λ (e : ℕ × Option NodeId). told_by vs e.0 e.1) (enumerate_from k agents)

abbrev AreOthers : Name → List (Option NodeId) → Type 0
AreOthers name agents = AllByRecursion (λ (a : Option NodeId). has_name name a ≡ false) agents

module _ (name : Name) (vs us : List View) (kept : (a : Name) → (name ≡ a → ⊥) → heard_from vs a ≡ heard_from us a) (nothing : (heard_from vs name).map ≡ empty) where
  abbrev told_in : List View → ℕ → NodeId → Told
  told_in vs k a = record { session = k; address = a.address; map = (heard_from vs a.name).map }

  told_kept : (k : ℕ) (a : NodeId) → has_name name (Some a) ≡ false → told_in vs k a ≡ told_in us k a
  told_kept k a off = ap (λ (h : agent.Heard). record { session = k; address = a.address; map = h.map }) (kept a.name (λ e. true≢false (sym ((bytes_decides a.name name).1 (sym e)) ∙ off)))

  tolds_kept : (k : ℕ) (agents : List (Option NodeId)) → AreOthers name agents → IsWithout (tolds vs k agents) (tolds us k agents)
  tolds_kept k [] n = refl
  tolds_kept k (None ∷ agents) n = tolds_kept (k + 1) agents n.1
  tolds_kept k (Some a ∷ agents) n = inr (tolds us (k + 1) agents, ap (λ (t : Told). t ∷ tolds us (k + 1) agents) (sym (told_kept k a n.0)), tolds_kept (k + 1) agents n.1)

  tolds_with : (k : ℕ) (b : NodeId) → b.name ≡ name → (agents : List (Option NodeId)) → AreOthers name agents → IsWithout (tolds vs k (with_agent b agents)) (tolds us k agents)
  tolds_with k b is [] n = inl (ap (λ (a : Name). (heard_from vs a).map) is ∙ nothing, refl)
  tolds_with k b is (None ∷ agents) n = inl (ap (λ (a : Name). (heard_from vs a).map) is ∙ nothing, tolds_kept (k + 1) agents n.1)
  tolds_with k b is (Some a ∷ agents) n = inr (tolds us (k + 1) agents, ap (λ (t : Told). t ∷ tolds us (k + 1) agents) (sym (told_kept k a n.0)), tolds_with (k + 1) b is agents n.1)

  unmoved : (agents : List (Option NodeId)) → AreOthers name agents → without_agent name agents ≡ agents
  unmoved [] n = refl
  unmoved (o ∷ agents) n = ap (λ b. cond b None o ∷ without_agent name agents) n.0 ∙ ap (λ (os : List (Option NodeId)). o ∷ os) (unmoved agents n.1)

  tolds_came : (k : ℕ) (now : Option Node) → ((n : Node) → now ≡ Some n → n.name ≡ name) → (c : Name) (agents : List (Option NodeId)) → AreOthers name agents
      → IsWithout (tolds vs k (came_at now c (without_agent name agents))) (tolds us k agents)
  tolds_came k None h c agents n = subst (λ (these : List (Option NodeId)). IsWithout (tolds vs k these) (tolds us k agents)) (sym (unmoved agents n)) (tolds_kept k agents n)
  tolds_came k (Some m) h c agents n =
      subst (λ (these : List (Option NodeId)). IsWithout (tolds vs k (cond (is_listed c m) (with_agent (id_of m) these) these)) (tolds us k agents)) (sym (unmoved agents n))
      (elim (is_listed c m) as (λ b. IsWithout (tolds vs k (cond b (with_agent (id_of m) agents) agents)) (tolds us k agents)) [
        | true ↦ tolds_with k (id_of m) (h m refl) agents n
        | false ↦ tolds_kept k agents n
      ])

  tolds_renumbered : (k : ℕ) (now : Option Node) (left : List Name) → ((n : Node) → now ≡ Some n → n.name ≡ name) → (c : Name) (ns : List Numbers) → AreOthers name (agents_in ns c)
      → IsWithout (tolds vs k (agents_in (map (renumbered_at (record { name = name; left = left; now = now })) ns) c)) (tolds us k (agents_in ns c))
  tolds_renumbered k now left h c [] n = refl
  tolds_renumbered k now left h c (e ∷ ns) n =
      elim (same_name e.control c) as (λ b. AreOthers name (cond b e.agents (agents_in ns c))
      → IsWithout (tolds vs k (cond b (came_at now e.control (without_agent name e.agents)) (agents_in (map (renumbered_at (record { name = name; left = left; now = now })) ns) c))) (tolds us k (cond b e.agents (agents_in ns c)))) [
        | true ↦ λ n. tolds_came k now h e.control e.agents n
        | false ↦ λ n. tolds_renumbered k now left h c ns n
      ] n

-- ---- a session as one of its nodes sees it
record OwnFits (t : Topology) (m : Name) (s : Session) : Type 0 where
  name : s.near.name ≡ m
  no_config : s.near.role ≡ Configuration → ⊥
  control : s.near.role ≡ Controller → Member m (controller_names t)
  listed : s.near.role ≡ Agent → Member s.far.name (listed_by (node_named t m))

module _ (t : Topology) (m : Name) (apart : same_name config m ≡ false) where
  near_fits : (s : Session) → Stands t (nodes s) → is_at m s.near ≡ true → OwnFits t m s
  near_fits s p at =
      let named : s.near.name ≡ m = (bytes_decides s.near.name m).0 at in
      record {
        name = named;
        no_config = λ role. true≢false (sym ((bytes_decides config m).1 (sym ((bytes_decides s.near.name config).0 (p.fits role)) ∙ named)) ∙ apart);
        control = λ role. elim p.near as (λ _. Member m (controller_names t)) [
          | inl e ↦ absurd (not_control_config s.near.role role e)
          | inr q ↦ subst (λ (n : Name). Member n (controller_names t)) named q.1
        ];
        listed = λ role. absurd (elim p.near as (λ _. ⊥) [
          | inl e ↦ not_agent_config s.near.role role e
          | inr q ↦ not_agent_control s.near.role role q.0
        ]);
      }

  far_fits : (s : Session) → Stands t (nodes s) → is_at m s.far ≡ true → OwnFits t m (turned s)
  far_fits s p at =
      let named : s.far.name ≡ m = (bytes_decides s.far.name m).0 at in
      record {
        name = named;
        no_config = λ role. elim p.far as (λ _. ⊥) [ inl q ↦ not_control_config s.far.role q.0 role | inr q ↦ not_agent_config s.far.role q.0 role ];
        control = λ role. elim p.far as (λ _. Member m (controller_names t)) [
          | inl q ↦ subst (λ (n : Name). Member n (controller_names t)) named q.1
          | inr q ↦ absurd (not_agent_control s.far.role q.0 role)
        ];
        listed = λ role. elim p.far as (λ _. Member s.near.name (listed_by (node_named t m))) [
          | inl q ↦ absurd (not_agent_control s.far.role role q.0)
          | inr q ↦ subst (λ (n : Name). Member s.near.name (listed_by (node_named t n))) named q.1
        ];
      }

  own_fit : (ss : List Session) → Each (λ s. Stands t (nodes s)) ss → Each (OwnFits t m) (sessions_of m ss)
  own_fit ss a = each_seen (OwnFits t m) m ss (each_weaker (λ s. Stands t (nodes s)) (λ s. (is_at m s.near ≡ true → OwnFits t m s) × (is_at m s.far ≡ true → OwnFits t m (turned s))) (λ s p. (near_fits s p, far_fits s p)) ss a)

-- ---- where the setup changes and the sessions of the node stay
module _ (x y : Setup) (asn : y.topology.asn ≡ x.topology.asn) (m : Name) (agents : Member m (controller_names x.topology) → agents_of y m ≡ agents_of x m) (listed : listed_by (node_named y.topology m) ≡ listed_by (node_named x.topology m)) where
  same_wants : (vs : List View) (s : Session) → OwnFits x.topology m s → wanted y vs (view s) ≡ wanted x vs (view s)
  unfolding wanted
  same_wants vs s f = by s.near.role refl
    where
      by : (r : Role) → s.near.role ≡ r → wanted_from y vs (view s) r ≡ wanted_from x vs (view s) r
      by Configuration e = absurd (f.no_config e)
      by Controller e =
          ap (λ (n : ℕ). wanted_from_control n (agents_of y s.near.name) vs (view s) s.far.role) asn
          ∙ ap (λ (those : List (Option NodeId)). wanted_from_control x.topology.asn those vs (view s) s.far.role) (subst (λ (n : Name). agents_of y n ≡ agents_of x n) (sym f.name) (agents (f.control e)))
      by Agent e = ap (λ (ns : List Name). agent.wanted (map (heard_from vs) ns)) (subst (λ (n : Name). listed_by (node_named y.topology n) ≡ listed_by (node_named x.topology n)) (sym f.name) listed)

  still_tells : (vs : List View) (own : List Session) → Each (OwnFits x.topology m) own → TellsWanted x vs own → TellsWanted y vs own
  still_tells vs [] f h = tt
  still_tells vs (s ∷ own) f h = ((λ may. h.0 may ∙ sym (same_wants vs s f.0)), still_tells vs own f.1 h.1)

-- ---- where a control node gets such a session
module _ (x y : Setup) (o : Move) (asn : y.topology.asn ≡ x.topology.asn) (numbers : y.numbers ≡ renumbered (Some o) x.numbers) (mover : MoverIs o.name o.now x.topology y.topology) (m : Name)
    (others : AreOthers o.name (agents_of x m)) (us ts : List Session) (beside : IsBeside o.name ts us) (apart : Each (λ s. s.far.name ≡ o.name → ⊥) us) where
  abbrev vs : List View
  vs = map view us

  abbrev ws : List View
  ws = map view ts

  named : (n : Node) → o.now ≡ Some n → n.name ≡ o.name
  named n e = (subst (λ (k : Option Node). MoverIs o.name k x.topology y.topology) e mover).0

  peers_kept : with_role Controller ws ≡ with_role Controller vs
  peers_kept = kept_role o.name Controller refl ts us beside

  same_holdings : SameButQuiet (holdings_of y.topology.asn (agents_of y m) ws) (holdings_of x.topology.asn (agents_of x m) vs)
  same_holdings = record {
    asn = asn;
    feed = ap first_held (kept_role o.name Configuration refl ts us beside);
    peers = ap (map (λ (v : View). v.held)) peers_kept;
    agents =
        subst (λ (k : ℕ). IsWithout (tolds ws k (agents_of y m)) (tolds vs (1 + length (with_role Controller vs)) (agents_of x m))) (ap (λ (l : List View). 1 + length l) (sym peers_kept))
        (subst (λ (ns : List Numbers). IsWithout (tolds ws (1 + length (with_role Controller vs)) (agents_in ns m)) (tolds vs (1 + length (with_role Controller vs)) (agents_of x m))) (sym numbers)
        (tolds_renumbered o.name ws vs (λ a other. kept_heard o.name a other ts us beside) (new_heard o.name ts us apart beside) (1 + length (with_role Controller vs)) o.now o.left named m x.numbers others));
  }

  -- it wants the same on the sessions that it had
  control_wants : (s : Session) → s.near.role ≡ Controller → s.near.name ≡ m → (s.far.name ≡ o.name → ⊥) → wanted y ws (view s) ≡ wanted x vs (view s)
  unfolding wanted
  control_wants s role is other =
      ap (wanted_from y ws (view s)) role
      ∙ ap (λ (n : Name). wanted_from_control y.topology.asn (agents_of y n) ws (view s) s.far.role) is
      ∙ by s.far.role
      ∙ sym (ap (λ (n : Name). wanted_from_control x.topology.asn (agents_of x n) vs (view s) s.far.role) is)
      ∙ sym (ap (wanted_from x vs (view s)) role)
    where
      address_same : address_in (agents_of y m) s.far.name ≡ address_in (agents_of x m) s.far.name
      address_same =
          ap (λ (ns : List Numbers). address_in (agents_in ns m) s.far.name) numbers
          ∙ same_address o x.topology y.topology mover s.far.name (λ e. other (sym e)) m x.numbers

      by : (q : Role) → wanted_from_control y.topology.asn (agents_of y m) ws (view s) q ≡ wanted_from_control x.topology.asn (agents_of x m) vs (view s) q
      by Configuration = refl
      by Controller = quiet_by_peers (holdings_of y.topology.asn (agents_of y m) ws) (holdings_of x.topology.asn (agents_of x m) vs) same_holdings
      by Agent =
          quiet_by_agent (holdings_of y.topology.asn (agents_of y m) ws) (holdings_of x.topology.asn (agents_of x m) vs) same_holdings (told_on (agents_of y m) (view s))
          ∙ ap (λ (a : Addr). wanted_by_agent (holdings_of x.topology.asn (agents_of x m) vs) (record { session = 0; address = a; map = s.near.held })) address_same

  record IsControls (s : Session) : Type 0 where
    role : s.near.role ≡ Controller
    name : s.near.name ≡ m
    other : s.far.name ≡ o.name → ⊥

  beside_tells : (own rest : List Session) → IsBeside o.name own rest → Each IsControls rest → TellsWanted x vs rest → TellsWanted y ws own
  beside_tells [] rest w c h = tt
  beside_tells (t ∷ own) rest (inl w) c h = ((λ may. absurd (true≢false (sym may ∙ w.0.quiet))), beside_tells own rest w.1 c h)
  beside_tells (t ∷ own) rest (inr w) c h =
      let d : Each IsControls (t ∷ w.0) = subst (Each IsControls) w.1 c in
      let k : TellsWanted x vs (t ∷ w.0) = subst (TellsWanted x vs) w.1 h in
      ((λ may. k.0 may ∙ sym (control_wants t d.0.role d.0.name d.0.other)), beside_tells own w.0 w.2 d.1 k.1)

-- ---- the node that moves, and the others
module _ (x y : Setup) (o : Move) (r : Renews x.topology y.topology (Some o)) (numbers : y.numbers ≡ renumbered (Some o) x.numbers) (no_config : config ≡ o.name → ⊥) (m : Name) (apart : same_name config m ≡ false) (ss : List Session) (p : Placed x (map nodes ss)) (kinds : KindsApart y.topology) where
  abbrev new : List Session
  new = brought y.topology.controllers o.now

  abbrev old_own : List Session
  old_own = sessions_of m ss

  abbrev new_own : List Session
  new_own = sessions_of m (replaced o.name new ss)

  stand : Each (λ s. Stands x.topology (nodes s)) ss
  stand = of_nodes (Stands x.topology) ss p.stand

  same_controls : controller_names y.topology ≡ controller_names x.topology
  same_controls = ap (λ (cs : List NodeId). map (λ (c : NodeId). c.name) cs) r.controllers

  -- no control node has the name of the one that moves
  no_site : Member o.name (controller_names x.topology) → ⊥
  no_site i = by o.now r.mover.1
    where
      some_named : (k : Option Node) → node_named x.topology o.name ≡ k → is_some k ≡ true → ⊥
      some_named None e h = true≢false (sym h)
      some_named (Some n) e h = p.kinds o.name i n e

      by : (k : Option Node) → MoverIs o.name k x.topology y.topology → ⊥
      by None h = some_named (node_named x.topology o.name) refl h
      by (Some n) h = kinds o.name (subst (Member o.name) (sym same_controls) i) n h.1

  -- on the new sessions of the one that moves nothing may be sent
  abbrev SendsNothing : Session → Type 0
  SendsNothing s = (is_at m s.near ≡ true → may_send s ≡ false) × (is_at m s.far ≡ true → may_send (turned s) ≡ false)

  mover_quiet : o.name ≡ m → Each (λ s. may_send s ≡ false) new_own
  mover_quiet is =
      each_seen (λ s. may_send s ≡ false) m (replaced o.name new ss)
      (each_replaced (λ s. Stands x.topology (nodes s)) SendsNothing o.name others_off new ss
      (each_brought SendsNothing (λ n k q u. ((λ at. idle_sends_nothing (are_peers q u) Idle refl), (λ at. idle_sends_nothing (are_peers u q) Idle refl))) y.topology.controllers o.now) stand)
    where
      others_off : (s : Session) → is_of o.name s ≡ false → Stands x.topology (nodes s) → SendsNothing s
      others_off s off q = (
        (λ at. let e : s.near.name ≡ m = (bytes_decides s.near.name m).0 at in absurd (elim q.near as (λ _. ⊥) [
          | inl role ↦ true≢false (sym ((bytes_decides config m).1 (sym ((bytes_decides s.near.name config).0 (q.fits role)) ∙ e)) ∙ apart)
          | inr c ↦ no_site (subst (λ (n : Name). Member n (controller_names x.topology)) (e ∙ sym is) c.1)
        ])),
        (λ at. let e : s.far.name ≡ m = (bytes_decides s.far.name m).0 at in absurd (elim q.far as (λ _. ⊥) [
          | inl c ↦ no_site (subst (λ (n : Name). Member n (controller_names x.topology)) (e ∙ sym is) c.1)
          | inr a ↦ true≢false (sym (is_agents o.name s a.0 (is ∙ sym e)) ∙ off)
        ])),
      )

  -- a node that the one that moves did not list had no session with it
  module _ (other : o.name ≡ m → ⊥) (off : Member m o.left → ⊥) where
    listed_not : (k : Name) → k ≡ o.name → Member m (listed_by (node_named x.topology k)) → ⊥
    listed_not k e i = off (subst (Member m) (sym r.mover.0) (subst (λ (k : Name). Member m (listed_by (node_named x.topology k))) e i))

    not_left : (s : Session) → Stands x.topology (nodes s) → is_of o.name s ≡ true → seen_by m s ≡ None
    not_left s q is =
        let f = of_parts o.name s is in
        unseen m s
        (λ e. elim q.far as (λ _. ⊥) [
          | inl c ↦ not_agent_control s.far.role f.1 c.0
          | inr a ↦ listed_not s.far.name f.0 (subst (λ (k : Name). Member k (listed_by (node_named x.topology s.far.name))) e a.1)
        ])
        (λ e. other (sym f.0 ∙ e))

    gone : Each (λ s. is_of o.name s ≡ true → seen_by m s ≡ None) ss
    gone = each_as (λ s. Stands x.topology (nodes s)) (λ s. is_of o.name s ≡ true → seen_by m s ≡ None) not_left ss stand

    none_named : (those : List (Option NodeId)) → AllByRecursion (ListedAt x.topology m) those → AreOthers o.name those
    none_named [] a = tt
    none_named (None ∷ those) a = (refl, none_named those a.1)
    none_named (Some b ∷ those) a = (same_false b.name o.name (λ e. listed_not b.name e a.0), none_named those a.1)

    -- its sessions are those that it had, and the new ones
    filtered_same : (ts : List Session) → Each (λ s. is_of o.name s ≡ true → seen_by m s ≡ None) ts → sessions_of m (filter (λ s. not (is_of o.name s)) ts) ≡ sessions_of m ts
    filtered_same [] e = refl
    filtered_same (s ∷ ts) e =
        elim (is_of o.name s) as (λ b. is_of o.name s ≡ b → sessions_of m (cond (not b) (s ∷ filter (λ s. not (is_of o.name s)) ts) (filter (λ s. not (is_of o.name s)) ts)) ≡ sessions_of m (s ∷ ts)) [
          | true ↦ λ is. filtered_same ts e.1 ∙ sym (ap (λ (k : Option Session). cons_option k (sessions_of m ts)) (e.0 is))
          | false ↦ λ _. ap (cons_option (seen_by m s)) (filtered_same ts e.1)
        ] refl

    abbrev IsMuteHere : Session → Type 0
    IsMuteHere s = (is_at m s.near ≡ true → IsMute o.name s) × (is_at m s.far ≡ false)

    new_beside : (ns ts us : List Session) → Each IsMuteHere ns → IsBeside o.name (sessions_of m ts) us → IsBeside o.name (sessions_of m (ns ++ ts)) us
    new_beside [] ts us e w = w
    new_beside (s ∷ ns) ts us e w =
        elim (is_at m s.near) as (λ b. is_at m s.near ≡ b → IsBeside o.name (cons_option (cond b (Some s) (cond (is_at m s.far) (Some (turned s)) None)) (sessions_of m (ns ++ ts))) us) [
          | true ↦ λ at. inl (e.0.0 at, new_beside ns ts us e.1 w)
          | false ↦ λ _. subst (λ b. IsBeside o.name (cons_option (cond b (Some (turned s)) None) (sessions_of m (ns ++ ts))) us) (sym e.0.1) (new_beside ns ts us e.1 w)
        ] refl

    beside_itself : (us : List Session) → IsBeside o.name us us
    beside_itself [] = refl
    beside_itself (u ∷ us) = inr (us, refl, beside_itself us)

    replaced_beside : (ns ts : List Session) → Each IsMuteHere ns → Each (λ s. is_of o.name s ≡ true → seen_by m s ≡ None) ts → IsBeside o.name (sessions_of m (replaced o.name ns ts)) (sessions_of m ts)
    replaced_beside ns [] n e = subst (λ (ts : List Session). IsBeside o.name (sessions_of m ts) []) (sym (append_nil ns)) (new_beside ns [] [] n refl)
    replaced_beside ns (s ∷ ts) n e =
        elim (is_of o.name s) as (λ b. is_of o.name s ≡ b → IsBeside o.name (sessions_of m (cond b (ns ++ filter (λ s. not (is_of o.name s)) ts) (s ∷ replaced o.name ns ts))) (sessions_of m (s ∷ ts))) [
          | true ↦ λ is.
              let rest : List Session = filter (λ s. not (is_of o.name s)) ts in
              let same : sessions_of m rest ≡ sessions_of m (s ∷ ts) = filtered_same ts e.1 ∙ sym (ap (λ (k : Option Session). cons_option k (sessions_of m ts)) (e.0 is)) in
              new_beside ns rest (sessions_of m (s ∷ ts)) n (subst (λ (us : List Session). IsBeside o.name (sessions_of m rest) us) same (beside_itself (sessions_of m rest)))
          | false ↦ λ _. beside_cons o.name (seen_by m s) (sessions_of m (replaced o.name ns ts)) (sessions_of m ts) (replaced_beside ns ts n e.1)
        ] refl

    new_mute : (k : Option Node) → MoverIs o.name k x.topology y.topology → Each IsMuteHere (brought y.topology.controllers k)
    new_mute None i = tt
    new_mute (Some n) i = of_each (filter (lists n) y.topology.controllers)
      where
        of_each : (cs : List NodeId) → Each IsMuteHere (map (λ (c : NodeId). between c.name Controller n.name Agent) cs)
        of_each [] = tt
        of_each (c ∷ cs) = (
          (
            (λ at. record { other_role = refl; other = i.0; held = refl; quiet = refl }),
            same_false n.name m (λ e. other (sym i.0 ∙ e)),
          ),
          of_each cs,
        )

    beside : IsBeside o.name new_own old_own
    beside = replaced_beside new ss (new_mute o.now r.mover.1) gone

    -- a control node
    module _ (site : Member m (controller_names x.topology)) where
      control_of : (s : Session) → OwnFits x.topology m s → s.near.role ≡ Controller
      control_of s f = by s.near.role refl
        where
          none_listed : (k : Option Node) → node_named x.topology m ≡ k → Member s.far.name (listed_by k) → ⊥
          none_listed None e i = i
          none_listed (Some n) e i = p.kinds m site n e

          by : (q : Role) → s.near.role ≡ q → q ≡ Controller
          by Controller e = refl
          by Configuration e = absurd (f.no_config e)
          by Agent e = absurd (none_listed (node_named x.topology m) refl (f.listed e))

      -- none of its sessions had the one that moves at its other end
      abbrev IsApart : Session → Type 0
      IsApart s = (is_at m s.near ≡ true → s.far.name ≡ o.name → ⊥) × (is_at m s.far ≡ true → s.near.name ≡ o.name → ⊥)

      apart_one : (s : Session) → Stands x.topology (nodes s) → IsApart s
      apart_one s q = (
        (λ at e. elim q.far as (λ _. ⊥) [
          | inl c ↦ no_site (subst (λ (n : Name). Member n (controller_names x.topology)) e c.1)
          | inr a ↦ listed_not s.far.name e (subst (λ (k : Name). Member k (listed_by (node_named x.topology s.far.name))) ((bytes_decides s.near.name m).0 at) a.1)
        ]),
        (λ at e. elim q.near as (λ _. ⊥) [
          | inl role ↦ no_config (sym ((bytes_decides s.near.name config).0 (q.fits role)) ∙ e)
          | inr c ↦ no_site (subst (λ (n : Name). Member n (controller_names x.topology)) e c.1)
        ]),
      )

      apart_each : Each (λ s. s.far.name ≡ o.name → ⊥) old_own
      apart_each = each_seen (λ s. s.far.name ≡ o.name → ⊥) m ss (each_weaker (λ s. Stands x.topology (nodes s)) IsApart apart_one ss stand)

      abbrev IsOurs : Session → Type 0
      IsOurs = IsControls x y o r.asn numbers r.mover.1 m (none_named (agents_of x m) (p.numbered m)) old_own new_own beside apart_each

      ours : Each IsOurs old_own
      ours =
          each_weaker (λ s. OwnFits x.topology m s × (s.far.name ≡ o.name → ⊥)) IsOurs (λ s q. record { role = control_of s q.0; name = q.0.name; other = q.1 }) old_own
          (each_and (OwnFits x.topology m) (λ s. s.far.name ≡ o.name → ⊥) old_own (own_fit x.topology m apart ss stand) apart_each)

      control_tells : TellsWanted x (map view old_own) old_own → TellsWanted y (map view new_own) new_own
      control_tells h = beside_tells x y o r.asn numbers r.mover.1 m (none_named (agents_of x m) (p.numbered m)) old_own new_own beside apart_each new_own old_own beside ours h

    -- a node that is none: it has no new session
    module _ (no_control : Member m (controller_names x.topology) → ⊥) where
      none_new : (k : Option Node) → MoverIs o.name k x.topology y.topology → (cs : List NodeId) → ((c : NodeId) → Member c cs → c.name ≡ m → ⊥) → sessions_of m (brought cs k) ≡ []
      none_new None i cs h = refl
      none_new (Some n) i cs h = of_each (filter (lists n) cs) (λ c a. h c (from_filter (lists n) c cs a).0)
        where
          of_each : (cs : List NodeId) → ((c : NodeId) → Member c cs → c.name ≡ m → ⊥) → sessions_of m (map (λ (c : NodeId). between c.name Controller n.name Agent) cs) ≡ []
          of_each [] h = refl
          of_each (c ∷ cs) h =
              let s : Session = between c.name Controller n.name Agent in
              ap (λ (k : Option Session). cons_option k (sessions_of m (map (λ (c : NodeId). between c.name Controller n.name Agent) cs))) (unseen m s (λ e. h c (inl refl) e) (λ e. other (sym i.0 ∙ e)))
              ∙ of_each cs (λ d a. h d (inr a))

      no_new : sessions_of m new ≡ []
      no_new = none_new o.now r.mover.1 y.topology.controllers (λ c a e. no_control (subst (Member m) same_controls (subst (λ (n : Name). Member n (controller_names y.topology)) e (in_map (λ (c : NodeId). c.name) c y.topology.controllers a))))

      other_tells : TellsWanted x (map view old_own) old_own → TellsWanted y (map view new_own) new_own
      other_tells h =
          subst (λ (own : List Session). TellsWanted y (map view own) own) (sym (own_same m o.name new no_new ss gone))
          (still_tells x y r.asn m (λ i. absurd (no_control i)) (r.others m other) (map view old_own) old_own (own_fit x.topology m apart ss stand) h)

    moved_tells : TellsWanted x (map view old_own) old_own → TellsWanted y (map view new_own) new_own
    moved_tells h = by (list_any (same_name m) (controller_names x.topology)) refl
      where
        by : (c : Bool) → list_any (same_name m) (controller_names x.topology) ≡ c → TellsWanted y (map view new_own) new_own
        by true is =
            let q = from_any (same_name m) (controller_names x.topology) is in
            control_tells (subst (λ (n : Name). Member n (controller_names x.topology)) (sym ((bytes_decides m q.0).0 q.2)) q.1) h
        by false is = other_tells (λ i. true≢false (sym (any_in (same_name m) m (controller_names x.topology) i (itself m)) ∙ is)) h

-- ---- edits
module _ (d : Edit) (w : MachineState) (p : Holds Placed w) (unbroken : Each NoBreak w.sessions) (h : AllTell w) (names : NamesApart w.setup.topology) (none : edit_fault (checked w.setup) d ≡ None) where
  abbrev y : Setup
  y = remade (checked_edited d (checked w.setup)) (renumbered (moves d w.setup.topology) w.setup.numbers)

  abbrev v : MachineState
  v = record { setup = y; sessions = w.sessions }

  new_unbroken : (o : Move) → Each NoBreak (replaced o.name (brought y.topology.controllers o.now) w.sessions)
  new_unbroken o = each_replaced NoBreak NoBreak o.name (λ s off n. n) (brought y.topology.controllers o.now) w.sessions (each_brought NoBreak (λ n k q u. (refl, refl)) y.topology.controllers o.now) unbroken

  moves_tell : (o : Option Move) → y.numbers ≡ renumbered o w.setup.numbers → Renews w.setup.topology y.topology o → NamesApart y.topology → (m : Name) → same_name config m ≡ false → TellsAt (moved o v) m
  moves_tell None numbers r later m apart =
      still_tells w.setup y r.asn m (λ _. ap (λ ns. agents_in ns m) numbers) (r.others m tt) (map view (sessions_of m w.sessions)) (sessions_of m w.sessions)
      (own_fit w.setup.topology m apart w.sessions (of_nodes (Stands w.setup.topology) w.sessions p.stand)) (h m)
  moves_tell (Some o) numbers r later m apart =
      passes_tell o.left m (record { setup = y; sessions = replaced o.name (brought y.topology.controllers o.now) w.sessions }) (new_unbroken o) (λ off. by off (same_name o.name m) refl)
    where
      kinds : KindsApart y.topology
      kinds = edit_apart (checked w.setup) d none

      no_config : config ≡ o.name → ⊥
      no_config e = at o.now r.mover.1
        where
          some_named : (k : Option Node) → node_named w.setup.topology o.name ≡ k → is_some k ≡ true → ⊥
          some_named None f g = true≢false (sym g)
          some_named (Some n) f g = names.no_computer_config o.name (found_named o.name w.setup.topology.nodes n f) (sym e)

          at : (k : Option Node) → MoverIs o.name k w.setup.topology y.topology → ⊥
          at None g = some_named (node_named w.setup.topology o.name) refl g
          at (Some n) g = later.no_computer_config o.name (found_named o.name y.topology.nodes n g.1) (sym e)

      by : (Member m o.left → ⊥) → (c : Bool) → same_name o.name m ≡ c → TellsAt (record { setup = y; sessions = replaced o.name (brought y.topology.controllers o.now) w.sessions }) m
      by off true is =
          none_tells y (map view (sessions_of m (replaced o.name (brought y.topology.controllers o.now) w.sessions))) (sessions_of m (replaced o.name (brought y.topology.controllers o.now) w.sessions))
          (mover_quiet w.setup y o r numbers no_config m apart w.sessions p kinds ((bytes_decides o.name m).0 is))
      by off false is = moved_tells w.setup y o r numbers no_config m apart w.sessions p kinds (λ e. true≢false (sym ((bytes_decides o.name m).1 e) ∙ is)) off (h m)

  moved_unbroken : (o : Option Move) → Each NoBreak (moved o v).sessions
  moved_unbroken None = unbroken
  moved_unbroken (Some o) = passes_unbroken o.left (record { setup = y; sessions = replaced o.name (brought y.topology.controllers o.now) w.sessions }) (new_unbroken o)

  edit_tells : NamesApart y.topology → (m : Name) → TellsAt (pass config (moved (moves d w.setup.topology) v)) m
  edit_tells later m =
      let u : MachineState = moved (moves d w.setup.topology) v in
      by_node (TellsAt (pass config u)) config m (pass_tells config u (moved_unbroken (moves d w.setup.topology)))
      (λ off. pass_leaves_told config m u off (moves_tell (moves d w.setup.topology) refl (renews (checked w.setup) d none) later m (swapped_false m config off)))
    where
      swapped_false : (a b : Name) → same_name a b ≡ false → same_name b a ≡ false
      swapped_false a b e = same_name_sym b a ∙ e

-- the names of nodes are apart before and after it
pub edits_tell : (d : Edit) (w : MachineState) → Holds Placed w → Each NoBreak w.sessions → NamesApart w.setup.topology → ((y : Setup) → edited w.setup d ≡ Some y → NamesApart y.topology) → AllTell w → AllTell (edits (moves d w.setup.topology) (edited w.setup d) w)
edits_tell d w p unbroken names later h m =
    elim (edit_fault (checked w.setup) d) as (λ o. edit_fault (checked w.setup) d ≡ o → ((y : Setup) → edited_without o w.setup d ≡ Some y → NamesApart y.topology) → TellsAt (edits (moves d w.setup.topology) (edited_without o w.setup d) w) m) [
      | None ↦ λ none later. edit_tells d w p unbroken h names none (later (remade (checked_edited d (checked w.setup)) (renumbered (moves d w.setup.topology) w.setup.numbers)) refl) m
      | Some f ↦ λ _ _. h m
    ] refl later
