-- Sessions and their numbers stand where the topology of the moment has them.
use Rattle.std.specs.Prelude.{◌≡◌, ℕ, ◌⊎◌, List, [], ◌∷◌, ◌++◌, map, true, false, cond, ◌&&◌}
use Rattle.std.specs.declared.option.Option.{Option}
use Rattle.std.specs.declared.option.Option.TheVariants.{Some, None}
use Rattle.std.specs.List.{AllByRecursion, filter}
use Rattle.std.specs.Cmp.Lexicographic.{bytes_decides}
use Rattle.std.proofs.lemmas.Bool.{true≢false}
use Rattle.std.proofs.lemmas.Option.{same_Some}
use Rattle.std.proofs.Common.{refl, sym, ◌∙◌, ap, subst, inl, inr}
use Rattle.ov_types.specs.First.{same_name}
use Rattle.ov_types.specs.declared.rows.NodeId.{NodeId}
use Rattle.schedule_script.specs.ConfigTypes.Edit.{Edit}
use Rattle.schedule_script.specs.ConfigTypes.Node.{Node}
use Rattle.schedule_script.specs.ConfigTypes.Topology.{Topology}
use Rattle.schedule_script.specs.ConfigCheck.Checked.{Checked}
use Rattle.schedule_script.specs.ConfigCheck.Finding.{node_named}
use Rattle.schedule_script.specs.ConfigCheck.Rules.{controller_names, node_names}
use Rattle.schedule_script.specs.ConfigCheck.Edits.{edit_fault, edited as checked_edited}
use Rattle.transform_model.specs.NodeModel.Members.{Member}
use Rattle.transform_model.proofs.NodeModel.Members.{from_any, from_filter, in_map}
use Rattle.machine_model.specs.Setup.{Name, Move, Numbers, Setup, agents_in, agents_of, came_at, checked, edited, edited_without, first_numbers, id_of, is_listed, listed_by, lists, moves, remade, renumbered, renumbered_at, with_agent, without_agent}
use Rattle.machine_model.specs.Session.{Role, Configuration, Controller, Agent, Message, Session}
use Rattle.machine_model.specs.Network.{MachineState, AreNamed, accesses, asked, between, brought, config, feeds, is_of, peerings, replaced, same_role, start}
use Rattle.machine_model.specs.Events.{MachineEvent, after, edits, moved}
use Rattle.machine_model.specs.Steps.{pass}
use Rattle.machine_model.specs.Moments.{Each, NodePair, nodes}
use Rattle.machine_model.proofs.Distinct.{Apart, apart_of, apart_right}
use Rattle.machine_model.proofs.Replaced.{each_append, each_replaced}
use Rattle.machine_model.proofs.NodesFact.{Holds, after_holds, pass_nodes, passes_nodes, passes_setup}
use Rattle.machine_model.proofs.Changing.{KindsApart, MoverIs, Renews, StaysPut, edit_apart, found_alone, kinds_apart, renews}

-- ---- what is said of the two nodes of each session, and of each number
pub record Stands (t : Topology) (p : NodePair) : Type 0 where
  pub near : (p.0.1 ≡ Configuration) ⊎ ((p.0.1 ≡ Controller) × Member p.0.0 (controller_names t))
  pub fits : p.0.1 ≡ Configuration → same_name p.0.0 config ≡ true
  pub far : ((p.1.1 ≡ Controller) × Member p.1.0 (controller_names t)) ⊎ ((p.1.1 ≡ Agent) × Member p.0.0 (listed_by (node_named t p.1.0)))

abbrev pub ListedAt : Topology → Name → Option NodeId → Type 0
ListedAt t c None = Unit {0}
ListedAt t c (Some a) = Member c (listed_by (node_named t a.name))

pub record Placed (x : Setup) (ps : List NodePair) : Type 0 where
  pub stand : AllByRecursion (Stands x.topology) ps
  pub numbered : (c : Name) → AllByRecursion (ListedAt x.topology c) (agents_of x c)
  pub kinds : KindsApart x.topology

-- ---- lists
abbrev StandsAt : Topology → Session → Type 0
StandsAt t s = Stands t (nodes s)

pub of_nodes : (P : NodePair → Type 0) (ss : List Session) → AllByRecursion P (map nodes ss) → Each (λ s. P (nodes s)) ss
of_nodes P [] a = tt
of_nodes P (s ∷ ss) a = (a.0, of_nodes P ss a.1)

pub to_nodes : (P : NodePair → Type 0) (ss : List Session) → Each (λ s. P (nodes s)) ss → AllByRecursion P (map nodes ss)
to_nodes P [] a = tt
to_nodes P (s ∷ ss) a = (a.0, to_nodes P ss a.1)

each_weaker : (P Q : Session → Type 0) → ((s : Session) → P s → Q s) → (ss : List Session) → Each P ss → Each Q ss
each_weaker P Q h [] a = tt
each_weaker P Q h (s ∷ ss) a = (h s a.0, each_weaker P Q h ss a.1)

pub each_member : {A : Type 0} (P : Session → Type 0) (f : A → Session) (xs : List A) → ((a : A) → Member a xs → P (f a)) → Each P (map f xs)
each_member P f [] h = tt
each_member P f (x ∷ xs) h = (h x (inl refl), each_member P f xs (λ a m. h a (inr m)))

pub listed_member : (c : NodeId) (n : Node) → lists n c ≡ true → Member c.name n.controllers
listed_member c n e =
    let q = from_any (same_name c.name) n.controllers e in
    subst (λ (m : Name). Member m n.controllers) (sym ((bytes_decides c.name q.0).0 q.2)) q.1

-- ---- sessions that an edit keeps, and new ones
abbrev pub resessioned : Option Move → List NodeId → List Session → List Session
resessioned None cs ss = ss
resessioned (Some m) cs ss = replaced m.name (brought cs m.now) ss

pub is_agents : (name : Name) (s : Session) → s.far.role ≡ Agent → name ≡ s.far.name → is_of name s ≡ true
is_agents name s role is =
    ap (λ (r : Role). same_name s.far.name name && same_role Agent r) role ∙ ap (λ b. b && true) ((bytes_decides s.far.name name).1 (sym is))

module _ (t u : Topology) where
  abbrev SameControllers : Type 0
  SameControllers = u.controllers ≡ t.controllers

  still : (o : Option Move) → Renews t u o → (s : Session) → (s.far.role ≡ Agent → StaysPut o s.far.name) → StandsAt t s → StandsAt u s
  still o r s off p = record {
    near = elim p.near as (λ _. (s.near.role ≡ Configuration) ⊎ ((s.near.role ≡ Controller) × Member s.near.name (controller_names u))) [
      | inl e ↦ inl e
      | inr q ↦ inr (q.0, subst (λ (cs : List NodeId). Member s.near.name (map (λ (c : NodeId). c.name) cs)) (sym r.controllers) q.1)
    ];
    fits = p.fits;
    far = elim p.far as (λ _. ((s.far.role ≡ Controller) × Member s.far.name (controller_names u)) ⊎ ((s.far.role ≡ Agent) × Member s.near.name (listed_by (node_named u s.far.name)))) [
      | inl q ↦ inl (q.0, subst (λ (cs : List NodeId). Member s.far.name (map (λ (c : NodeId). c.name) cs)) (sym r.controllers) q.1)
      | inr q ↦ inr (q.0, subst (Member s.near.name) (sym (r.others s.far.name (off q.0))) q.1)
    ];
  }

  new_stand : (m : Move) → Renews t u (Some m) → Each (StandsAt u) (brought u.controllers m.now)
  new_stand m r = by m.now r.mover.1
    where
      by : (o : Option Node) → MoverIs m.name o t u → Each (StandsAt u) (brought u.controllers o)
      by None h = tt
      by (Some n) h = each_member (StandsAt u) (λ (c : NodeId). between c.name Controller n.name Agent) (filter (lists n) u.controllers) (λ c i.
          let f = from_filter (lists n) c u.controllers i in record {
            near = inr (refl, in_map (λ (c : NodeId). c.name) c u.controllers f.0);
            fits = λ e. cc;
            far = inr (refl, subst (λ (o : Option Node). Member c.name (listed_by o)) (sym (subst (λ (k : Name). node_named u k ≡ Some n) (sym h.0) h.1)) (listed_member c n f.1));
          })

  pub stand_still : (o : Option Move) → Renews t u o → (ss : List Session) → Each (StandsAt t) ss → Each (StandsAt u) (resessioned o u.controllers ss)
  stand_still None r ss a = each_weaker (StandsAt t) (StandsAt u) (λ s p. still None r s (λ _. tt) p) ss a
  stand_still (Some m) r ss a =
      each_replaced (StandsAt t) (StandsAt u) m.name (λ s off p. still (Some m) r s (λ role is. true≢false (sym (is_agents m.name s role is) ∙ off)) p)
      (brought u.controllers m.now) ss (new_stand m r) a

  -- ---- numbers that an edit keeps, and new ones
  all_still : (o : Option Move) → Renews t u o → (c : Name) (those : List (Option NodeId)) → AllByRecursion (λ (o' : Option NodeId). (ListedAt t c o') × ((a : NodeId) → o' ≡ Some a → StaysPut o a.name)) those → AllByRecursion (ListedAt u c) those
  all_still o r c [] h = tt
  all_still o r c (None ∷ those) h = (tt, all_still o r c those h.1)
  all_still o r c (Some a ∷ those) h = (subst (Member c) (sym (r.others a.name (h.0.1 a refl))) h.0.0, all_still o r c those h.1)

  none_stays : (c : Name) (those : List (Option NodeId)) → AllByRecursion (ListedAt t c) those → AllByRecursion (λ (o' : Option NodeId). (ListedAt t c o') × ((a : NodeId) → o' ≡ Some a → StaysPut None a.name)) those
  none_stays c [] h = tt
  none_stays c (a ∷ those) h = ((h.0, λ _ _. tt), none_stays c those h.1)

  without_mover : (m : Move) (c : Name) (those : List (Option NodeId)) → AllByRecursion (ListedAt t c) those
      → AllByRecursion (λ (o' : Option NodeId). (ListedAt t c o') × ((a : NodeId) → o' ≡ Some a → StaysPut (Some m) a.name)) (without_agent m.name those)
  without_mover m c [] h = tt
  without_mover m c (None ∷ those) h = ((tt, λ a e. cc), without_mover m c those h.1)
  without_mover m c (Some a ∷ those) h =
      elim (same_name a.name m.name) as (λ b. same_name a.name m.name ≡ b → AllByRecursion (λ (o' : Option NodeId). (ListedAt t c o') × ((a : NodeId) → o' ≡ Some a → StaysPut (Some m) a.name)) (cond b None (Some a) ∷ without_agent m.name those)) [
        | true ↦ λ _. ((tt, λ a e. cc), without_mover m c those h.1)
        | false ↦ λ off. ((h.0, λ b e is. true≢false (sym ((bytes_decides a.name m.name).1 (ap (λ (a : NodeId). a.name) (same_Some a b e) ∙ sym is)) ∙ off)), without_mover m c those h.1)
      ] refl

  with_mover : (c : Name) (a : NodeId) (those : List (Option NodeId)) → ListedAt u c (Some a) → AllByRecursion (ListedAt u c) those → AllByRecursion (ListedAt u c) (with_agent a those)
  with_mover c a [] l h = (l, tt)
  with_mover c a (None ∷ those) l h = (l, h.1)
  with_mover c a (Some b ∷ those) l h = (h.0, with_mover c a those l h.1)

  came_listed : (m : Move) → (o : Option Node) → MoverIs m.name o t u → (c : Name) (those : List (Option NodeId)) → AllByRecursion (ListedAt u c) those → AllByRecursion (ListedAt u c) (came_at o c those)
  came_listed m None i c those h = h
  came_listed m (Some n) i c those h =
      elim (is_listed c n) as (λ b. is_listed c n ≡ b → AllByRecursion (ListedAt u c) (cond b (with_agent (id_of n) those) those)) [
        | true ↦ λ is.
            let q = from_any (same_name c) n.controllers is in
            let there : Member c n.controllers = subst (λ (k : Name). Member k n.controllers) (sym ((bytes_decides c q.0).0 q.2)) q.1 in
            with_mover c (id_of n) those (subst (λ (o : Option Node). Member c (listed_by o)) (sym (subst (λ (k : Name). node_named u k ≡ Some n) (sym i.0) i.1)) there) h
        | false ↦ λ _. h
      ] refl

  pub numbers_still : (o : Option Move) → Renews t u o → (ns : List Numbers) (c : Name) → AllByRecursion (ListedAt t c) (agents_in ns c) → AllByRecursion (ListedAt u c) (agents_in (renumbered o ns) c)
  numbers_still None r ns c h = all_still None r c (agents_in ns c) (none_stays c (agents_in ns c) h)
  numbers_still (Some m) r ns c h = by ns h
    where
      by : (ns : List Numbers) → AllByRecursion (ListedAt t c) (agents_in ns c) → AllByRecursion (ListedAt u c) (agents_in (map (renumbered_at m) ns) c)
      by [] h = tt
      by (n ∷ ns) h =
          elim (same_name n.control c) as (λ b. same_name n.control c ≡ b → AllByRecursion (ListedAt t c) (cond b n.agents (agents_in ns c)) → AllByRecursion (ListedAt u c) (cond b (came_at m.now n.control (without_agent m.name n.agents)) (agents_in (map (renumbered_at m) ns) c))) [
            | true ↦ λ is h.
                let same : n.control ≡ c = (bytes_decides n.control c).0 is in
                subst (λ (k : Name). AllByRecursion (ListedAt u c) (came_at m.now k (without_agent m.name n.agents))) (sym same)
                (came_listed m m.now r.mover.1 c (without_agent m.name n.agents) (all_still (Some m) r c (without_agent m.name n.agents) (without_mover m c n.agents h)))
            | false ↦ λ _ h. by ns h
          ] refl h

-- ---- every event keeps it
pub moved_nodes : (m : Option Move) (w : MachineState) → map nodes (moved m w).sessions ≡ map nodes (resessioned m w.setup.topology.controllers w.sessions)
moved_nodes None w = refl
moved_nodes (Some m) w = passes_nodes m.left (record { setup = w.setup; sessions = replaced m.name (brought w.setup.topology.controllers m.now) w.sessions })

pub moved_setup : (m : Option Move) (w : MachineState) → (moved m w).setup ≡ w.setup
moved_setup None w = refl
moved_setup (Some m) w = passes_setup m.left (record { setup = w.setup; sessions = replaced m.name (brought w.setup.topology.controllers m.now) w.sessions })

pub edits_placed : (d : Edit) (w : MachineState) → Holds Placed w → Holds Placed (edits (moves d w.setup.topology) (edited w.setup d) w)
edits_placed d w p =
    let x = w.setup in
    let m = moves d x.topology in
    elim (edit_fault (checked x) d) as (λ o. edit_fault (checked x) d ≡ o → Holds Placed (edits m (edited_without o x d) w)) [
      | None ↦ λ none.
          let y : Setup = remade (checked_edited d (checked x)) (renumbered m x.numbers) in
          let v : MachineState = record { setup = y; sessions = w.sessions } in
          let r : Renews x.topology y.topology m = renews (checked x) d none in
          let there : Placed y (map nodes (resessioned m y.topology.controllers w.sessions)) = record {
            stand = to_nodes (Stands y.topology) (resessioned m y.topology.controllers w.sessions) (stand_still x.topology y.topology m r w.sessions (of_nodes (Stands x.topology) w.sessions p.stand));
            numbered = λ c. numbers_still x.topology y.topology m r x.numbers c (p.numbered c);
            kinds = edit_apart (checked x) d none;
          } in
          let made : Placed y (map nodes (pass config (moved m v)).sessions) = subst (Placed y) (sym (pass_nodes config (moved m v) ∙ moved_nodes m v)) there in
          subst (λ (z : Setup). Placed z (map nodes (pass config (moved m v)).sessions)) (sym (moved_setup m v)) made
      | Some f ↦ λ _. p
    ] refl

pub after_placed : (size : Name → Message → ℕ) (w : MachineState) (es : List MachineEvent) → Holds Placed w → Holds Placed (after size w es)
after_placed size w es p = after_holds size Placed edits_placed w es p

-- ---- the start
peers_stand : (t : Topology) (cs : List NodeId) → ((c : NodeId) → Member c cs → Member c.name (controller_names t)) → Each (StandsAt t) (peerings cs)
peers_stand t [] h = tt
peers_stand t (c ∷ cs) h =
    each_append (StandsAt t) _ _
    (each_member (StandsAt t) (λ (d : NodeId). between c.name Controller d.name Controller) cs (λ d m. record { near = inr (refl, h c (inl refl)); fits = λ e. cc; far = inl (refl, h d (inr m)) }))
    (peers_stand t cs (λ d m. h d (inr m)))

accesses_stand : (t : Topology) (ns : List Node) → ((n : Node) → Member n ns → node_named t n.name ≡ Some n) → Each (StandsAt t) (accesses t.controllers ns)
accesses_stand t [] h = tt
accesses_stand t (n ∷ ns) h =
    each_append (StandsAt t) _ _
    (each_member (StandsAt t) (λ (c : NodeId). between c.name Controller n.name Agent) (filter (lists n) t.controllers) (λ c m.
    let f = from_filter (lists n) c t.controllers m in record {
      near = inr (refl, in_map (λ (c : NodeId). c.name) c t.controllers f.0);
      fits = λ e. cc;
      far = inr (refl, subst (λ (o : Option Node). Member c.name (listed_by o)) (sym (h n (inl refl))) (listed_member c n f.1));
    }))
    (accesses_stand t ns (λ k m. h k (inr m)))

first_listed : (t : Topology) (c : Name) → ((n : Node) → Member n t.nodes → node_named t n.name ≡ Some n) → (cs : List NodeId) → AllByRecursion (ListedAt t c) (agents_in (first_numbers t.nodes cs) c)
first_listed t c h [] = tt
first_listed t c h (d ∷ cs) =
    elim (same_name d.name c) as (λ b. same_name d.name c ≡ b → AllByRecursion (ListedAt t c) (cond b (map (λ (n : Node). Some (id_of n)) (filter (λ n. lists n d) t.nodes)) (agents_in (first_numbers t.nodes cs) c))) [
      | true ↦ λ is. all (filter (λ n. lists n d) t.nodes) (λ n m.
          let f = from_filter (λ (n : Node). lists n d) n t.nodes m in
          subst (λ (k : Name). Member k (listed_by (node_named t n.name))) ((bytes_decides d.name c).0 is)
          (subst (λ (o : Option Node). Member d.name (listed_by o)) (sym (h n f.0)) (listed_member d n f.1)))
      | false ↦ λ _. first_listed t c h cs
    ] refl
  where
    all : (ns : List Node) → ((n : Node) → Member n ns → Member c (listed_by (node_named t n.name))) → AllByRecursion (ListedAt t c) (map (λ (n : Node). Some (id_of n)) ns)
    all [] g = tt
    all (n ∷ ns) g = (g n (inl refl), all ns (λ k m. g k (inr m)))

pub start_placed : (x : Checked) → AreNamed x.topology → Holds Placed (start x)
start_placed x named =
    let t = x.topology in
    let a : Apart (controller_names t ++ node_names t) = (apart_of (config ∷ controller_names t ++ node_names t) named).1 in
    let found : (n : Node) → Member n t.nodes → node_named t n.name ≡ Some n = λ n m. found_alone n t.nodes (apart_right (controller_names t) (node_names t) a) m in
    record {
      stand = to_nodes (Stands t) (asked t)
          (each_append (StandsAt t) (feeds t.controllers ++ peerings t.controllers) (accesses t.controllers t.nodes)
          (each_append (StandsAt t) (feeds t.controllers) (peerings t.controllers)
          (each_member (StandsAt t) (λ (c : NodeId). between config Configuration c.name Controller) t.controllers (λ c m. record { near = inl refl; fits = λ _. refl; far = inl (refl, in_map (λ (c : NodeId). c.name) c t.controllers m) }))
          (peers_stand t t.controllers (λ c m. in_map (λ (c : NodeId). c.name) c t.controllers m)))
          (accesses_stand t t.nodes found));
      numbered = λ c. first_listed t c found t.controllers;
      kinds = kinds_apart t a;
    }
