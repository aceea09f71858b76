-- At a settled moment the tables of each node are those compiled from the configuration alone.
use Rattle.std.specs.Cmp.Lexicographic.{bytes_decides}
use Rattle.std.specs.FinMap.{empty, get}
use Rattle.std.specs.List.{AllByRecursion, list_all}
use Rattle.std.specs.Option.{option_map, unwrap_or}
use Rattle.std.specs.Prelude.{Bool, List, cond, false, map, suc, true, zero, ℕ, [], ◌&&◌, ◌+◌, ◌==◌, ◌∷◌, ◌≡◌, ◌≤◌, ◌⊎◌}
use Rattle.std.specs.declared.option.Option.TheVariants.{None, Some}
use Rattle.std.specs.declared.option.Option.{Option}
use Rattle.std.proofs.Common.{ap, arith, inl, inr, refl, subst, sym, ◌∙◌}
use Rattle.std.proofs.lemmas.Bool.{and_parts, true≢false}
use Rattle.ov_types.specs.First.{same_name}
use Rattle.ov_types.specs.Prefix.{Block}
use Rattle.ov_types.specs.declared.numbers.InstanceId.{InstanceId}
use Rattle.ov_types.specs.declared.rows.Entry.{Entry as RouteEntry}
use Rattle.ov_types.specs.declared.rows.NodeRows.TheVariants as Rows
use Rattle.config_types.specs.declared.topology.Node.{Node}
use Rattle.machine_model.specs.Setup.{Setup}
use Rattle.schedule_script.specs.ConfigCheck.Finding.{node_named}
use Rattle.node_laws.specs.NodeModel.Agent as agent
use Rattle.node_laws.specs.NodeModel.Agent.{as_hop, first_some, slice_in_use}
use Rattle.node_laws.specs.NodeModel.Keys.{Key, Row}
use Rattle.node_laws.specs.NodeModel.Maps.{Map}
use Rattle.node_laws.specs.NodeModel.Members.{Member}
use Rattle.node_laws.specs.NodeModel.Ranks.{IsTargeted}
use Rattle.node_laws.specs.NodeModel.Tables.{rows as control_rows_of}
use Rattle.node_laws.specs.NodeModel.Wants.{slice}
use Rattle.machine_model.specs.Events.{shown, shown_of}
use Rattle.machine_model.specs.Moments.{Each, IsAtRest, IsAtRestWith, NodePair, nodes}
use Rattle.machine_model.specs.Network.{MachineState, agent_holdings, config, control_holdings, heard_from, sessions_of, view, views_of, wanted}
use Rattle.machine_model.specs.Session.{Agent, Configuration, Controller, Role, Session, are_peers, is_up, is_up_phase, turned, waiting}
use Rattle.machine_model.specs.Setup.{Name, longest, low}
use Rattle.machine_model.specs.Steps.{is_rested, is_settled}
use Rattle.machine_model.proofs.Twins.{NoTwins, each_and, each_weaker, own_to_all}
use Rattle.machine_laws.specs.Settling as settling
use Rattle.machine_laws.specs.Compiled.{agent_rows, compiled, control_rows, rows_for, told_to_agent}
use Rattle.machine_laws.specs.Goal.{IsLaid, address_of, agents_among, goal, others, rank, role_in, role_of}
use Rattle.machine_laws.proofs.Assembly.{Own, all_held, near_is, own_each, right_by, role_agent, served, slice_right, steps, theirs}
use Rattle.machine_laws.proofs.RankBounds.{rank-ge}
use Rattle.machine_laws.proofs.CompiledShown.{agent_compiled, rows_compiled}
use Rattle.machine_laws.proofs.Views.{far, fars_are, heard, views}

-- ---- what a settled moment says
abbrev Ups : Session → Type 0
Ups s = (is_up_phase s.near.phase ≡ true) × (is_up_phase s.far.phase ≡ true)

all_up : (ss : List Session) → list_all is_rested ss ≡ true → Each Ups ss
all_up [] e = tt
all_up (s ∷ ss) e =
    let p = and_parts (is_rested s) (list_all is_rested ss) e in
    let a = and_parts (is_up s.near && is_up s.far && (waiting s == 0)) (waiting (turned s) == 0) p.0 in
    let b = and_parts (is_up s.near && is_up s.far) (waiting s == 0) a.0 in
    let c = and_parts (is_up s.near) (is_up s.far) b.0 in ((c.0, c.1), all_up ss p.1)

role_not : (x : Setup) (n : Name) (r : Role) → same_name n config ≡ false → role_in (node_named x.topology n) ≡ r → role_of x n ≡ r
role_not x n r e h = ap (λ b. cond b Configuration (role_in (node_named x.topology n))) e ∙ h

-- ---- the routes of an agent
module _ (i : InstanceId) (p : Block) (g : Option RouteEntry) where
  abbrev HeardOk : agent.Heard → Type 0
  HeardOk h = (h.is_up ≡ false) ⊎ ((h.is_up ≡ true) × (as_hop (get h.map (Row i p)) ≡ g))

  none_or : (hs : agent.Holdings) → AllByRecursion HeardOk hs → (agent.route_from hs i p ≡ None) ⊎ (agent.route_from hs i p ≡ g)
  none_or [] a = inl refl
  none_or (h ∷ hs) a = go (none_or hs a.1) a.0
    where
      go : (agent.route_from hs i p ≡ None) ⊎ (agent.route_from hs i p ≡ g) → HeardOk h → (agent.route_from (h ∷ hs) i p ≡ None) ⊎ (agent.route_from (h ∷ hs) i p ≡ g)
      go rest (inl e) =
          let here : agent.route_from (h ∷ hs) i p ≡ agent.route_from hs i p = ap (λ b. cond b (first_some (as_hop (get h.map (Row i p))) (agent.route_from hs i p)) (agent.route_from hs i p)) e in
          elim rest as (λ _. (agent.route_from (h ∷ hs) i p ≡ None) ⊎ (agent.route_from (h ∷ hs) i p ≡ g)) [ inl n ↦ inl (here ∙ n) | inr n ↦ inr (here ∙ n) ]
      go rest (inr e) =
          let here : agent.route_from (h ∷ hs) i p ≡ first_some g (agent.route_from hs i p) =
          ap (λ b. cond b (first_some (as_hop (get h.map (Row i p))) (agent.route_from hs i p)) (agent.route_from hs i p)) e.0
          ∙ ap (λ (o : Option RouteEntry). first_some o (agent.route_from hs i p)) e.1 in
          elim g as (λ (g : Option RouteEntry). (agent.route_from hs i p ≡ None) ⊎ (agent.route_from hs i p ≡ g) → agent.route_from (h ∷ hs) i p ≡ first_some g (agent.route_from hs i p) → (agent.route_from (h ∷ hs) i p ≡ None) ⊎ (agent.route_from (h ∷ hs) i p ≡ g)) [
            | Some v ↦ λ rest here. inr here
            | None ↦ λ rest here. elim rest as (λ _. (agent.route_from (h ∷ hs) i p ≡ None) ⊎ (agent.route_from (h ∷ hs) i p ≡ None)) [ inl n ↦ inl (here ∙ n) | inr n ↦ inl (here ∙ n) ]
          ] rest here

  -- where the first is up
  first_up : (h : agent.Heard) (hs : agent.Holdings) → h.is_up ≡ true → as_hop (get h.map (Row i p)) ≡ g → AllByRecursion HeardOk hs → agent.route_from (h ∷ hs) i p ≡ g
  first_up h hs u e a =
      let here : agent.route_from (h ∷ hs) i p ≡ first_some g (agent.route_from hs i p) =
      ap (λ b. cond b (first_some (as_hop (get h.map (Row i p))) (agent.route_from hs i p)) (agent.route_from hs i p)) u
      ∙ ap (λ (o : Option RouteEntry). first_some o (agent.route_from hs i p)) e in
      here ∙ elim g as (λ (g : Option RouteEntry). (agent.route_from hs i p ≡ None) ⊎ (agent.route_from hs i p ≡ g) → first_some g (agent.route_from hs i p) ≡ g) [
        | Some v ↦ λ _. refl
        | None ↦ λ rest. elim rest as (λ _. agent.route_from hs i p ≡ None) [ inl n ↦ n | inr n ↦ n ]
      ] (none_or hs a)

-- a node that an agent lists, where it has a session with it or not
heard_either : (F : Session → Type 0) (own : List Session) (m : Name) → Each F own
    → ((s : Session) × F s × (s.far.name ≡ m) × (heard_from (views own) m ≡ record { is_up = is_up_phase s.near.phase; map = s.near.held })) ⊎ (heard_from (views own) m ≡ record { is_up = false; map = empty })
heard_either F [] m h = inr refl
heard_either F (s ∷ own) m h = go (heard_either F own m h.1) (same_name s.far.name m) refl
  where
    go : ((t : Session) × F t × (t.far.name ≡ m) × (heard_from (views own) m ≡ record { is_up = is_up_phase t.near.phase; map = t.near.held })) ⊎ (heard_from (views own) m ≡ record { is_up = false; map = empty })
        → (b : Bool) → same_name s.far.name m ≡ b
        → ((t : Session) × F t × (t.far.name ≡ m) × (cond b (record { is_up = is_up_phase s.near.phase; map = s.near.held }) (heard_from (views own) m) ≡ record { is_up = is_up_phase t.near.phase; map = t.near.held })) ⊎ (cond b (record { is_up = is_up_phase s.near.phase; map = s.near.held }) (heard_from (views own) m) ≡ record { is_up = false; map = empty })
    go rest true e = inl (s, h.0, (bytes_decides s.far.name m).0 e, refl)
    go rest false e = rest

module _ (w : MachineState) (laid : IsLaid w.setup (map nodes w.sessions)) (apart : NoTwins (map nodes w.sessions))
    (P : Session → Type 0) (fairs : (s : Session) → P s → IsTargeted w.setup.topology.asn s.near.held × IsTargeted w.setup.topology.asn s.far.held) (fair : Each P w.sessions) (rest : IsAtRest w) (settled : is_settled w ≡ true) where
  abbrev x : Setup
  x = w.setup

  abbrev places : List NodePair
  places = map nodes w.sessions

  abbrev RightAt : ℕ → Session → Type 0
  RightAt r s = settling.RightAt (rank x) (goal x places) r s

  abbrev BothRight : ℕ → Session → Type 0
  BothRight r s = RightAt r s × RightAt r (turned s)

  right_zero : (s : Session) → Ups s → BothRight 0 s
  right_zero s u = (
    record { held = λ k h. absurd (none (rank x s.far.name s.near.name k) (rank-ge x (role_of x s.far.name) (role_of x s.near.name) k) h); up = λ _ _. u.0 },
    record { held = λ k h. absurd (none (rank x s.near.name s.far.name k) (rank-ge x (role_of x s.near.name) (role_of x s.far.name) k) h); up = λ _ _. u.1 },
  )
    where
      none : (n : ℕ) → 1 ≤ n → n ≤ 0 → ⊥
      none n a b = omega arith

  -- what the other end holds
  abbrev FarRight : ℕ → Session → Type 0
  FarRight r s = (k : Key) → rank x s.near.name s.far.name k ≤ r → get s.far.held k ≡ goal x places s.near.name s.far.name k

  far_right : (r : ℕ) (n : Name) (vs : List _) (own : List Session) → Each (IsAtRestWith x vs) own → Each (λ s. (k : Key) → rank x s.near.name s.far.name k ≤ r → get (wanted x vs (view s)) k ≡ goal x places s.near.name s.far.name k) own → Each (FarRight r) own
  far_right r n vs [] a b = tt
  far_right r n vs (s ∷ own) a b = ((λ k h. ap (λ (m : Map). get m k) (a.0.held ∙ a.0.wanted) ∙ b.0 k h), far_right r n vs own a.1 b.1)

  -- by induction on the rank all that is held is right
  rights : (r : ℕ) → Each (BothRight r) w.sessions
  rights zero = each_weaker Ups (BothRight 0) right_zero w.sessions (all_up w.sessions settled)
  rights (suc r) =
      each_weaker (λ s. (FarRight (suc r) s × FarRight (suc r) (turned s)) × Ups s) (BothRight (suc r))
      (λ s f. (record { held = f.0.1; up = λ _ _. f.1.0 }, record { held = f.0.0; up = λ _ _. f.1.1 }))
      w.sessions
      (each_and (λ s. FarRight (suc r) s × FarRight (suc r) (turned s)) Ups w.sessions
      (own_to_all (FarRight (suc r)) w.sessions apart (λ n. far_right (suc r) n (views_of n w.sessions) (sessions_of n w.sessions) (rest n) (steps x places laid P fairs w.sessions r refl fair (rights r) n)))
      (all_up w.sessions settled))

  last : ℕ
  last = longest x + 5

  facts : (n : Name) → Each (Own x places laid last n) (sessions_of n w.sessions)
  facts n = own_each x places laid P fairs last w.sessions refl fair (rights last) n

  -- ---- a control node
  control_holds : (n : Name) → role_of x n ≡ Controller → (one : Session) → Member one (sessions_of n w.sessions) → control_rows_of (control_holdings x n (views_of n w.sessions)) ≡ control_rows (low x)
  unfolding last
  control_holds n is one m =
      let own = sessions_of n w.sessions in let os = fars_are n w.sessions in
      let mine' = agents_among x n (map far own) in
      let theirs' = theirs x places laid last n is own (facts n) os one m in
      let served' = served x places laid last n is own (facts n) os one m in
      ap control_rows_of (all_held x places laid last n is own (facts n) os one m (less (longest x)))
      ∙ rows_compiled x.topology.asn (low x) mine' theirs' laid.sound served'
    where
      less : (n : ℕ) → n + 4 ≤ n + 5
      less n = omega arith

  -- ---- an agent
  module _ (n : Name) (is : role_of x n ≡ Agent) where
    abbrev own : List Session
    own = sessions_of n w.sessions

    abbrev held : agent.Holdings
    held = agent_holdings x n (views own)

    slice_is : slice_in_use held ≡ slice (low x) (address_of x n)
    unfolding last
    slice_is = slice_right x places laid last n is own (facts n) (fars_are n w.sessions) (less (longest x))
      where
        less : (n : ℕ) → 2 ≤ n + 5
        less n = omega arith

    abbrev told_row : InstanceId → Block → Option RouteEntry
    told_row i p = as_hop (get (told_to_agent (low x) (address_of x n)) (Row i p))

    heard_ok : (i : InstanceId) (p : Block) (m : Name) → role_of x m ≡ Controller → HeardOk i p (told_row i p) (heard_from (views own) m)
    unfolding last
    heard_ok i p m control =
        elim (heard_either (Own x places laid last n) own m (facts n)) as (λ _. HeardOk i p (told_row i p) (heard_from (views own) m)) [
          | inl q ↦
              let s = q.0 in let o = q.1 in
              let held' : get s.near.held (Row i p) ≡ get (told_to_agent (low x) (address_of x n)) (Row i p) =
              right_by x places laid last s Controller Agent (ap (role_of x) q.2 ∙ control) (near_is x places laid last n Agent s is o) o.right (Row i p) (itself (longest x + 5))
              ∙ ap (λ n. get (told_to_agent (low x) (address_of x n)) (Row i p)) o.name in
              inr (ap (λ (h : agent.Heard). h.is_up) q.3 ∙ o.right.up (positive_last (longest x)) (not_peers s.near.role s.far.role (o.near_role ∙ near_is x places laid last n Agent s is o)), ap (λ (h : agent.Heard). as_hop (get h.map (Row i p))) q.3 ∙ ap as_hop held')
          | inr e ↦ inl (ap (λ (h : agent.Heard). h.is_up) e)
        ]
      where
        itself : (n : ℕ) → n ≤ n
        itself n = omega arith

        positive_last : (n : ℕ) → 1 ≤ n + 5
        positive_last n = omega arith

        not_peers : (p q : Role) → p ≡ Agent → are_peers p q ≡ false
        not_peers p q e = ap (λ p. are_peers p q) e

    all_ok : (i : InstanceId) (p : Block) (ms : List Name) → ((m : Name) → Member m ms → role_of x m ≡ Controller) → AllByRecursion (HeardOk i p (told_row i p)) (map (heard_from (views own)) ms)
    all_ok i p [] h = tt
    all_ok i p (m ∷ ms) h = (heard_ok i p m (h m (inl refl)), all_ok i p ms (λ k a. h k (inr a)))

    -- the first control node is up
    first_is_up : (m : Name) → Member (m, Controller) (others n places) → (heard_from (views own) m).is_up ≡ true
    unfolding last
    first_is_up m a =
        let in_own : Member (m, Controller) (map far own) = subst (Member (m, Controller)) (sym (fars_are n w.sessions)) a in
        let q = heard (Own x places laid last n) own m Controller (facts n) in_own in
        let s = q.0 in let o = q.1 in
        ap (λ (h : agent.Heard). h.is_up) q.3 ∙ o.right.up (positive_last (longest x)) (not_peers s.near.role s.far.role (o.near_role ∙ near_is x places laid last n Agent s is o))
      where
        positive_last : (n : ℕ) → 1 ≤ n + 5
        positive_last n = omega arith

        not_peers : (p q : Role) → p ≡ Agent → are_peers p q ≡ false
        not_peers p q e = ap (λ p. are_peers p q) e

    route_from_is : (i : InstanceId) (p : Block) → agent.route_from held i p ≡ told_row i p
    route_from_is i p =
        let c = role_agent x n is in
        let f = laid.first n c.0 c.1 is in
        let g = told_row i p in
        let h = heard_from (views own) f.0 in
        let lists : (m : Name) → Member m (f.0 ∷ f.1) → role_of x m ≡ Controller = λ m a. laid.listed n c.0 c.1 m (subst (Member m) (sym f.2) a) in
        let up : h.is_up ≡ true = first_is_up f.0 f.3 in
        let at : as_hop (get h.map (Row i p)) ≡ g = elim (heard_ok i p f.0 (lists f.0 (inl refl))) as (λ _. as_hop (get h.map (Row i p)) ≡ g) [ inl e ↦ absurd (true≢false (sym up ∙ e)) | inr e ↦ e.1 ] in
        ap (λ (o : Option Node). agent.route_from (map (heard_from (views own)) (unwrap_or (option_map (λ (n : Node). n.controllers) o) [])) i p) c.1
        ∙ ap (λ (ns : List Name). agent.route_from (map (heard_from (views own)) ns) i p) f.2
        ∙ first_up i p g h (map (heard_from (views own)) f.1) up at (all_ok i p f.1 (λ m a. lists m (inr a)))

    agent_holds : agent.rows held ≡ agent_rows (low x) (address_of x n)
    agent_holds = agent_compiled (low x) (address_of x n) held slice_is route_from_is

  -- at rest each node shows its compiled rows. A control node has a session
  pub shows : (n : Name) → (node_named x.topology n ≡ None → (role_of x n ≡ Controller) × ((one : Session) × Member one (sessions_of n w.sessions))) → ((c : Node) → node_named x.topology n ≡ Some c → role_of x n ≡ Agent) → shown w n ≡ compiled x n
  shows n as_control as_agent = go (node_named x.topology n) refl
    where
      go : (o : Option Node) → node_named x.topology n ≡ o → shown_of o w n ≡ rows_for (low x) o
      go None e = let c = as_control e in ap Rows.Control (control_holds n c.0 c.1.0 c.1.1)
      go (Some c) e =
          ap Rows.Agent (agent_holds n (as_agent c e)
          ∙ ap (agent_rows (low x)) (ap (λ (o : Option Node). unwrap_or (option_map (λ (c : Node). c.address) o) (record { 0 = 0 })) e))
