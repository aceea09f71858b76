-- After an edit each node with no session down has told what it wants.
use Rattle.std.specs.Prelude.{◌≡◌, ◌≢◌, ℕ, ◌⊎◌, List, [], ◌∷◌, ◌++◌, map, true, false, not, cond, is_some}
use Rattle.std.specs.declared.option.Option.{Option}
use Rattle.std.specs.declared.option.Option.TheVariants.{Some, None}
use Rattle.std.specs.List.{AllByRecursion, cons_option, filter}
use Rattle.std.specs.Cmp.Lexicographic.{bytes_decides}
use Rattle.std.proofs.lemmas.Bool.{true≢false, and_parts}
use Rattle.std.proofs.Common.{refl, sym, ◌∙◌, ap, subst, inl, inr}
use Rattle.ov_types.specs.First.{same_name}
use Rattle.ov_types.specs.declared.rows.NodeId.{NodeId}
use Rattle.schedule_script.specs.ConfigTypes.Edit.{Edit}
use Rattle.schedule_script.specs.ConfigTypes.Node.{Node}
use Rattle.schedule_script.specs.ConfigTypes.Topology.{Topology}
use Rattle.schedule_script.specs.ConfigCheck.Finding.{node_named}
use Rattle.schedule_script.specs.ConfigCheck.Rules.{controller_names}
use Rattle.schedule_script.specs.ConfigCheck.Edits.{edit_fault, edited as checked_edited}
use Rattle.transform_model.specs.NodeModel.Agent as agent
use Rattle.transform_model.specs.NodeModel.Members.{Member}
use Rattle.transform_model.proofs.NodeModel.Members.{from_map, in_filter}
use Rattle.machine_model.specs.Setup.{Name, Move, Setup, agents_in, agents_of, checked, edited, edited_without, has_name, is_listed, listed_by, lists, moves, remade, renumbered}
use Rattle.machine_model.specs.Session.{Role, Configuration, Controller, Agent, Session, turned}
use Rattle.machine_model.specs.Network.{MachineState, View, between, brought, config, heard_from, is_at, is_of, replaced, same_role, seen_by, sessions_of, view, views_of, wanted, wanted_from, wanted_from_control}
use Rattle.machine_model.specs.Steps.{pass}
use Rattle.machine_model.specs.Events.{edits, moved, passes}
use Rattle.machine_model.specs.Moments.{AreWhole, Each, HasTold, NodeHasTold, TellsWanted, nodes}
use Rattle.machine_model.proofs.Distinct.{same_false}
use Rattle.machine_model.proofs.Replaced.{each_brought}
use Rattle.machine_model.proofs.NodesFact.{Holds}
use Rattle.machine_model.proofs.ToldFact.{pass_others, pass_tells}
use Rattle.machine_model.proofs.Changing.{KindsApart, MoverIs, Renews, edit_apart, numbers_stay, renews}
use Rattle.machine_model.proofs.Listed.{ListedAt, Placed, Stands, is_agents, of_nodes}

-- each node has told what it wants, unless a session of it is down
abbrev pub AllHaveTold : MachineState → Type 0
AllHaveTold w = (m : Name) → NodeHasTold w m

-- ---- passes
same_or : (P : Name → Type 0) (a m : Name) → P a → (same_name a m ≡ false → P m) → P m
same_or P a m p q = elim (same_name a m) as (λ c. same_name a m ≡ c → P m) [ true ↦ λ is. subst P ((bytes_decides a m).0 is) p | false ↦ q ] refl

passes_tell : (ns : List Name) (m : Name) (w : MachineState) → ((Member m ns → ⊥) → NodeHasTold w m) → NodeHasTold (passes ns w) m
passes_tell [] m w h = h (λ i. i)
passes_tell (n ∷ ns) m w h =
    passes_tell ns m (pass n w) (λ off. same_or (NodeHasTold (pass n w)) n m (pass_tells n w) (λ apart.
    pass_others n m w apart (h (λ i. elim i as (λ _. ⊥) [
      | inl is ↦ true≢false (sym ((bytes_decides n m).1 is) ∙ apart)
      | inr j ↦ off j
    ]))))

-- ---- a node wants the same
module _ (x y : Setup) (asn : y.topology.asn ≡ x.topology.asn) where
  same_wants : (vs : List View) (v : View) (r : Role) → r ≢ Configuration → (r ≡ Controller → agents_of y v.name ≡ agents_of x v.name)
      → (r ≡ Agent → listed_by (node_named y.topology v.name) ≡ listed_by (node_named x.topology v.name)) → wanted_from y vs v r ≡ wanted_from x vs v r
  same_wants vs v Configuration c a l = absurd (c refl)
  same_wants vs v Controller c a l =
      ap (λ (n : ℕ). wanted_from_control n (agents_of y v.name) vs v v.other_role) asn
      ∙ ap (λ (those : List (Option NodeId)). wanted_from_control x.topology.asn those vs v v.other_role) (a refl)
  same_wants vs v Agent c a l = ap (λ (ns : List Name). agent.wanted (map (heard_from vs) ns)) (l refl)

-- a session as one of its nodes sees it
record OwnFits (t : Topology) (m : Name) (s : Session) : Type 0 where
  name : s.near.name ≡ m
  fits : s.near.role ≡ Configuration → same_name config m ≡ true
  control : s.near.role ≡ Controller → Member m (controller_names t)

not_both : (r : Role) → r ≡ Controller → r ≡ Configuration → ⊥
not_both r e f = let g : Controller ≡ Configuration = sym e ∙ f in cc

not_config : (r : Role) → r ≡ Agent → r ≡ Configuration → ⊥
not_config r e f = let g : Agent ≡ Configuration = sym e ∙ f in cc

not_control : (r : Role) → r ≡ Agent → r ≡ Controller → ⊥
not_control r e f = let g : Agent ≡ Controller = sym e ∙ f in cc

module _ (t : Topology) (m : Name) where
  near_fits : (s : Session) → Stands t (nodes s) → is_at m s.near ≡ true → OwnFits t m s
  near_fits s p at =
      let named : s.near.name ≡ m = (bytes_decides s.near.name m).0 at in
      record {
        name = named;
        fits = λ role. (bytes_decides config m).1 (sym ((bytes_decides s.near.name config).0 (p.fits role)) ∙ named);
        control = λ role. elim p.near as (λ _. Member m (controller_names t)) [
          | inl e ↦ absurd (not_both s.near.role role e)
          | inr q ↦ subst (λ (n : Name). Member n (controller_names t)) named q.1
        ];
      }

  far_fits : (s : Session) → Stands t (nodes s) → is_at m s.far ≡ true → OwnFits t m (turned s)
  far_fits s p at =
      let named : s.far.name ≡ m = (bytes_decides s.far.name m).0 at in
      record {
        name = named;
        fits = λ role. elim p.far as (λ _. same_name config m ≡ true) [ inl q ↦ absurd (not_both s.far.role q.0 role) | inr q ↦ absurd (not_config s.far.role q.0 role) ];
        control = λ role. elim p.far as (λ _. Member m (controller_names t)) [
          | inl q ↦ subst (λ (n : Name). Member n (controller_names t)) named q.1
          | inr q ↦ absurd (not_control s.far.role q.0 role)
        ];
      }

  own_fit : (ss : List Session) → Each (λ s. Stands t (nodes s)) ss → Each (OwnFits t m) (sessions_of m ss)
  own_fit [] a = tt
  own_fit (s ∷ ss) a =
      elim (is_at m s.near) as (λ b. is_at m s.near ≡ b → Each (OwnFits t m) (cons_option (cond b (Some s) (cond (is_at m s.far) (Some (turned s)) None)) (sessions_of m ss))) [
        | true ↦ λ at. (near_fits s a.0 at, own_fit ss a.1)
        | false ↦ λ _. elim (is_at m s.far) as (λ b. is_at m s.far ≡ b → Each (OwnFits t m) (cons_option (cond b (Some (turned s)) None) (sessions_of m ss))) [
          | true ↦ λ at. (far_fits s a.0 at, own_fit ss a.1)
          | false ↦ λ _. own_fit ss a.1
        ] refl
      ] refl

-- what it told is still what it wants
module _ (x y : Setup) (asn : y.topology.asn ≡ x.topology.asn) (m : Name) (apart : same_name config m ≡ false) (agents : Member m (controller_names x.topology) → agents_of y m ≡ agents_of x m) (lists : listed_by (node_named y.topology m) ≡ listed_by (node_named x.topology m)) where
  still_tells : (vs : List View) (own : List Session) → Each (OwnFits x.topology m) own → TellsWanted x vs own → TellsWanted y vs own
  unfolding wanted
  still_tells vs [] f h = tt
  still_tells vs (s ∷ own) f h = (
    (λ may. h.0 may ∙ sym (same_wants x y asn vs (view s) s.near.role (λ role. true≢false (sym (f.0.fits role) ∙ apart))
        (λ role. subst (λ (n : Name). agents_of y n ≡ agents_of x n) (sym f.0.name) (agents (f.0.control role)))
        (λ role. subst (λ (n : Name). listed_by (node_named y.topology n) ≡ listed_by (node_named x.topology n)) (sym f.0.name) lists))),
    still_tells vs own f.1 h.1,
  )

-- ---- sessions of a node where others are replaced
module _ (m : Name) where
  rest_whole : (o : Option Session) (ss : List Session) → AreWhole (cons_option o ss) → AreWhole ss
  rest_whole None ss w = w
  rest_whole (Some s) ss w = w.1

  whole_cons : (o : Option Session) (rs ps : List Session) → (AreWhole rs → AreWhole ps) → AreWhole (cons_option o rs) → AreWhole (cons_option o ps)
  whole_cons None rs ps h w = h w
  whole_cons (Some s) rs ps h w = (w.0, h w.1)

  whole_first : (ss ts : List Session) → AreWhole (sessions_of m (ss ++ ts)) → AreWhole (sessions_of m ss)
  whole_first [] ts w = tt
  whole_first (s ∷ ss) ts w = whole_cons (seen_by m s) (sessions_of m (ss ++ ts)) (sessions_of m ss) (whole_first ss ts) w

  none_cons : (o : Option Session) (ps rs ts : List Session) → (ps ≡ [] → rs ≡ ts) → cons_option o ps ≡ [] → cons_option o rs ≡ ts
  none_cons None ps rs ts h e = h e
  none_cons (Some s) ps rs ts h e = cc

  none_first : (ss ts : List Session) → sessions_of m ss ≡ [] → sessions_of m (ss ++ ts) ≡ sessions_of m ts
  none_first [] ts e = refl
  none_first (s ∷ ss) ts e = none_cons (seen_by m s) (sessions_of m ss) (sessions_of m (ss ++ ts)) (sessions_of m ts) (none_first ss ts) e

  -- new sessions are down
  none_or_down : (ss : List Session) → Each (λ s. s.is_down ≡ true) ss → (sessions_of m ss ≡ []) ⊎ (AreWhole (sessions_of m ss) → ⊥)
  none_or_down [] d = inl refl
  none_or_down (s ∷ ss) d =
      elim (is_at m s.near) as (λ b. (cons_option (cond b (Some s) (cond (is_at m s.far) (Some (turned s)) None)) (sessions_of m ss) ≡ []) ⊎ (AreWhole (cons_option (cond b (Some s) (cond (is_at m s.far) (Some (turned s)) None)) (sessions_of m ss)) → ⊥)) [
        | true ↦ inr (λ w. true≢false (sym d.0 ∙ w.0))
        | false ↦ elim (is_at m s.far) as (λ b. (cons_option (cond b (Some (turned s)) None) (sessions_of m ss) ≡ []) ⊎ (AreWhole (cons_option (cond b (Some (turned s)) None) (sessions_of m ss)) → ⊥)) [
          | true ↦ inr (λ w. true≢false (sym d.0 ∙ w.0))
          | false ↦ none_or_down ss d.1
        ]
      ]

  module _ (name : Name) (new : List Session) where
    abbrev others_in : List Session → List Session
    others_in ss = filter (λ s. not (is_of name s)) ss

    whole_new : (ss : List Session) → AreWhole (sessions_of m (replaced name new ss)) → AreWhole (sessions_of m new)
    whole_new [] w = w
    whole_new (s ∷ ss) w =
        elim (is_of name s) as (λ b. AreWhole (sessions_of m (cond b (new ++ others_in ss) (s ∷ replaced name new ss))) → AreWhole (sessions_of m new)) [
          | true ↦ λ w. whole_first new (others_in ss) w
          | false ↦ λ w. whole_new ss (rest_whole (seen_by m s) (sessions_of m (replaced name new ss)) w)
        ] w

    -- where it had none of those that are taken away
    filtered_same : (ss : List Session) → Each (λ s. is_of name s ≡ true → seen_by m s ≡ None) ss → sessions_of m (others_in ss) ≡ sessions_of m ss
    filtered_same [] e = refl
    filtered_same (s ∷ ss) e =
        elim (is_of name s) as (λ b. is_of name s ≡ b → sessions_of m (cond (not b) (s ∷ others_in ss) (others_in ss)) ≡ sessions_of m (s ∷ ss)) [
          | true ↦ λ is. filtered_same ss e.1 ∙ sym (ap (λ (o : Option Session). cons_option o (sessions_of m ss)) (e.0 is))
          | false ↦ λ _. ap (cons_option (seen_by m s)) (filtered_same ss e.1)
        ] refl

    pub own_same : sessions_of m new ≡ [] → (ss : List Session) → Each (λ s. is_of name s ≡ true → seen_by m s ≡ None) ss → sessions_of m (replaced name new ss) ≡ sessions_of m ss
    own_same none [] e = none
    own_same none (s ∷ ss) e =
        elim (is_of name s) as (λ b. is_of name s ≡ b → sessions_of m (cond b (new ++ others_in ss) (s ∷ replaced name new ss)) ≡ sessions_of m (s ∷ ss)) [
          | true ↦ λ is. none_first new (others_in ss) none ∙ filtered_same ss e.1 ∙ sym (ap (λ (o : Option Session). cons_option o (sessions_of m ss)) (e.0 is))
          | false ↦ λ _. ap (cons_option (seen_by m s)) (own_same none ss e.1)
        ] refl

    -- where all that it had are taken away
    filtered_none : (ss : List Session) → Each (λ s. is_of name s ≡ false → seen_by m s ≡ None) ss → sessions_of m (others_in ss) ≡ []
    filtered_none [] e = refl
    filtered_none (s ∷ ss) e =
        elim (is_of name s) as (λ b. is_of name s ≡ b → sessions_of m (cond (not b) (s ∷ others_in ss) (others_in ss)) ≡ []) [
          | true ↦ λ _. filtered_none ss e.1
          | false ↦ λ off. ap (λ (o : Option Session). cons_option o (sessions_of m (others_in ss))) (e.0 off) ∙ filtered_none ss e.1
        ] refl

    own_none : sessions_of m new ≡ [] → (ss : List Session) → Each (λ s. is_of name s ≡ false → seen_by m s ≡ None) ss → sessions_of m (replaced name new ss) ≡ []
    own_none none [] e = none
    own_none none (s ∷ ss) e =
        elim (is_of name s) as (λ b. is_of name s ≡ b → sessions_of m (cond b (new ++ others_in ss) (s ∷ replaced name new ss)) ≡ []) [
          | true ↦ λ _. none_first new (others_in ss) none ∙ filtered_none ss e.1
          | false ↦ λ off. ap (λ (o : Option Session). cons_option o (sessions_of m (replaced name new ss))) (e.0 off) ∙ own_none none ss e.1
        ] refl

pub unseen : (m : Name) (s : Session) → (s.near.name ≡ m → ⊥) → (s.far.name ≡ m → ⊥) → seen_by m s ≡ None
unseen m s near far =
    ap (λ b. cond b (Some s) (cond (is_at m s.far) (Some (turned s)) None)) (same_false s.near.name m near)
    ∙ ap (λ b. cond b (Some (turned s)) None) (same_false s.far.name m far)

pub each_as : (P Q : Session → Type 0) → ((s : Session) → P s → Q s) → (ss : List Session) → Each P ss → Each Q ss
each_as P Q h [] a = tt
each_as P Q h (s ∷ ss) a = (h s a.0, each_as P Q h ss a.1)

pub of_parts : (name : Name) (s : Session) → is_of name s ≡ true → (s.far.name ≡ name) × (s.far.role ≡ Agent)
of_parts name s e = let p = and_parts (is_at name s.far) (same_role Agent s.far.role) e in ((bytes_decides s.far.name name).0 p.0, agent_is s.far.role p.1)
  where
    agent_is : (r : Role) → same_role Agent r ≡ true → r ≡ Agent
    agent_is Agent e = refl
    agent_is Configuration e = absurd (true≢false (sym e))
    agent_is Controller e = absurd (true≢false (sym e))

-- a control node with new sessions sees one
rest_none : (k : Option Session) (ts : List Session) → cons_option k ts ≡ [] → ts ≡ []
rest_none None ts e = e
rest_none (Some s) ts e = cc

not_empty : (s : Session) (ts : List Session) → s ∷ ts ≡ [] → ⊥
not_empty s ts e = cc

seen_none : (m : Name) (cs : List NodeId) (n : Node) (c : NodeId) → Member c cs → c.name ≡ m → sessions_of m (map (λ (c : NodeId). between c.name Controller n.name Agent) cs) ≡ [] → ⊥
seen_none m [] n c i e h = i
seen_none m (d ∷ cs) n c (inl is) e h =
    let here : same_name d.name m ≡ true = (bytes_decides d.name m).1 (ap (λ (c : NodeId). c.name) is ∙ e) in
    let s : Session = between d.name Controller n.name Agent in
    let more : List Session = sessions_of m (map (λ (c : NodeId). between c.name Controller n.name Agent) cs) in
    not_empty s more (ap (λ b. cons_option (cond b (Some s) (cond (is_at m s.far) (Some (turned s)) None)) more) (sym here) ∙ h)
seen_none m (d ∷ cs) n c (inr i) e h =
    seen_none m cs n c i e (rest_none (seen_by m (between d.name Controller n.name Agent)) (sessions_of m (map (λ (c : NodeId). between c.name Controller n.name Agent) cs)) h)

-- ---- the node that moves, and the others
module _ (x y : Setup) (o : Move) (r : Renews x.topology y.topology (Some o)) (m : Name) (apart : same_name config m ≡ false) (ss : List Session) (p : Placed x (map nodes ss)) (kinds : KindsApart y.topology) where
  abbrev new : List Session
  new = brought y.topology.controllers o.now

  abbrev stand : Each (λ s. Stands x.topology (nodes s)) ss
  stand = of_nodes (Stands x.topology) ss p.stand

  -- no control node has the name of the one that moves
  no_site : Member o.name (controller_names x.topology) → ⊥
  no_site i = by o.now r.mover.1
    where
      some_named : (k : Option Node) → node_named x.topology o.name ≡ k → is_some k ≡ true → ⊥
      some_named None e h = true≢false (sym h)
      some_named (Some n) e h = p.kinds o.name i n e

      by : (k : Option Node) → MoverIs o.name k x.topology y.topology → ⊥
      by None h = some_named (node_named x.topology o.name) refl h
      by (Some n) h = kinds o.name (subst (λ (cs : List NodeId). Member o.name (map (λ (c : NodeId). c.name) cs)) (sym r.controllers) i) n h.1

  mover_alone : o.name ≡ m → (s : Session) → Stands x.topology (nodes s) → is_of o.name s ≡ false → seen_by m s ≡ None
  mover_alone is s q off = unseen m s
      (λ e. elim q.near as (λ _. ⊥) [
        | inl role ↦ true≢false (sym ((bytes_decides config m).1 (sym ((bytes_decides s.near.name config).0 (q.fits role)) ∙ e)) ∙ apart)
        | inr c ↦ no_site (subst (λ (n : Name). Member n (controller_names x.topology)) (e ∙ sym is) c.1)
      ])
      (λ e. elim q.far as (λ _. ⊥) [
        | inl c ↦ no_site (subst (λ (n : Name). Member n (controller_names x.topology)) (e ∙ sym is) c.1)
        | inr a ↦ true≢false (sym (is_agents o.name s a.0 (is ∙ sym e)) ∙ off)
      ])

  -- a control node that it did not list had no session with it
  not_left : (o.name ≡ m → ⊥) → (Member m o.left → ⊥) → (s : Session) → Stands x.topology (nodes s) → is_of o.name s ≡ true → seen_by m s ≡ None
  not_left other off s q is =
      let f = of_parts o.name s is in
      unseen m s
      (λ e. elim q.far as (λ _. ⊥) [
        | inl c ↦ not_control s.far.role f.1 c.0
        | inr a ↦ off (subst (Member m) (sym r.mover.0) (subst (λ (k : Name). Member m (listed_by (node_named x.topology k))) f.0 (subst (λ (k : Name). Member k (listed_by (node_named x.topology s.far.name))) e a.1)))
      ])
      (λ e. other (sym f.0 ∙ e))

  -- the numbers there stay, if it has no new session with it either
  none_named : (Member m o.left → ⊥) → (those : List (Option NodeId)) → AllByRecursion (ListedAt x.topology m) those → AllByRecursion (λ (a : Option NodeId). has_name o.name a ≡ false) those
  none_named off [] a = tt
  none_named off (None ∷ those) a = (refl, none_named off those a.1)
  none_named off (Some b ∷ those) a = (
    same_false b.name o.name (λ e. off (subst (Member m) (sym r.mover.0) (subst (λ (k : Name). Member m (listed_by (node_named x.topology k))) e a.0))),
    none_named off those a.1,
  )

  not_listed : sessions_of m new ≡ [] → Member m (controller_names x.topology) → (n : Node) → o.now ≡ Some n → is_listed m n ≡ false
  not_listed none i n e =
      elim (is_listed m n) as (λ b. is_listed m n ≡ b → b ≡ false) [
        | true ↦ λ is.
            let q = from_map (λ (c : NodeId). c.name) m y.topology.controllers (subst (λ (cs : List NodeId). Member m (map (λ (c : NodeId). c.name) cs)) (sym r.controllers) i) in
            let lists_it : lists n q.0 ≡ true = ap (λ (k : Name). is_listed k n) q.2 ∙ is in
            absurd (seen_none m (filter (lists n) y.topology.controllers) n q.0 (in_filter (lists n) q.0 y.topology.controllers q.1 lists_it) q.2
            (ap (λ (k : Option Node). sessions_of m (brought y.topology.controllers k)) (sym e) ∙ none))
        | false ↦ λ _. refl
      ] refl

  moved_told : (agents : y.numbers ≡ renumbered (Some o) x.numbers) → (Member m o.left → ⊥) → HasTold x (sessions_of m ss) → HasTold y (sessions_of m (replaced o.name new ss))
  moved_told numbers off h =
      let down : Each (λ s. s.is_down ≡ true) new = each_brought (λ s. s.is_down ≡ true) (λ n k q r. refl) y.topology.controllers o.now in
      elim (none_or_down m new down) as (λ _. HasTold y (sessions_of m (replaced o.name new ss))) [
        | inr never ↦ λ whole. absurd (never (whole_new m o.name new ss whole))
        | inl none ↦ elim (same_name o.name m) as (λ b. same_name o.name m ≡ b → HasTold y (sessions_of m (replaced o.name new ss))) [
          | true ↦ λ is.
              let e : o.name ≡ m = (bytes_decides o.name m).0 is in
              subst (HasTold y) (sym (own_none m o.name new none ss (each_as (λ s. Stands x.topology (nodes s)) (λ s. is_of o.name s ≡ false → seen_by m s ≡ None) (mover_alone e) ss stand))) (λ _. tt)
          | false ↦ λ is.
              let other : o.name ≡ m → ⊥ = λ e. true≢false (sym ((bytes_decides o.name m).1 e) ∙ is) in
              subst (HasTold y) (sym (own_same m o.name new none ss (each_as (λ s. Stands x.topology (nodes s)) (λ s. is_of o.name s ≡ true → seen_by m s ≡ None) (not_left other off) ss stand)))
              (λ whole. still_tells x y r.asn m apart
              (λ i. ap (λ ns. agents_in ns m) numbers ∙ numbers_stay o m x.numbers (none_named off (agents_of x m) (p.numbered m)) (not_listed none i))
              (r.others m other)
              (views_of m ss) (sessions_of m ss) (own_fit x.topology m ss stand) (h whole))
        ] refl
      ]

-- ---- edits
module _ (d : Edit) (w : MachineState) (p : Holds Placed w) (h : AllHaveTold w) (m : Name) (none : edit_fault (checked w.setup) d ≡ None) where
  abbrev y : Setup
  y = remade (checked_edited d (checked w.setup)) (renumbered (moves d w.setup.topology) w.setup.numbers)

  abbrev v : MachineState
  v = record { setup = y; sessions = w.sessions }

  moves_told : (o : Option Move) → y.numbers ≡ renumbered o w.setup.numbers → Renews w.setup.topology y.topology o → same_name config m ≡ false → NodeHasTold (moved o v) m
  moves_told None numbers r apart = λ whole.
      still_tells w.setup y r.asn m apart (λ _. ap (λ ns. agents_in ns m) numbers) (r.others m tt) (views_of m w.sessions) (sessions_of m w.sessions)
      (own_fit w.setup.topology m w.sessions (of_nodes (Stands w.setup.topology) w.sessions p.stand)) (h m whole)
  moves_told (Some o) numbers r apart =
      passes_tell o.left m (record { setup = y; sessions = replaced o.name (brought y.topology.controllers o.now) w.sessions })
      (λ off. moved_told w.setup y o r m apart w.sessions p (edit_apart (checked w.setup) d none) numbers off (h m))

  edit_told : NodeHasTold (pass config (moved (moves d w.setup.topology) v)) m
  edit_told =
      let u : MachineState = moved (moves d w.setup.topology) v in
      same_or (NodeHasTold (pass config u)) config m (pass_tells config u)
      (λ apart. pass_others config m u apart (moves_told (moves d w.setup.topology) refl (renews (checked w.setup) d none) apart))

pub edits_told : (d : Edit) (w : MachineState) → Holds Placed w → AllHaveTold w → AllHaveTold (edits (moves d w.setup.topology) (edited w.setup d) w)
edits_told d w p h m =
    elim (edit_fault (checked w.setup) d) as (λ o. edit_fault (checked w.setup) d ≡ o → NodeHasTold (edits (moves d w.setup.topology) (edited_without o w.setup d) w) m) [
      | None ↦ λ none. edit_told d w p h m none
      | Some f ↦ λ _. h m
    ] refl
