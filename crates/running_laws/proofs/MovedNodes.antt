-- A compute node moves: the list of nodes then, and who sits at the seats.
use Rattle.std.specs.Prelude.{◌≡◌, ◌≢◌, ◌⊎◌, List, [], ◌∷◌, ◌++◌, map, Bool, not, true, false, cond, ◌&&◌}
use Rattle.std.specs.List.{filter, slice_set}
use Rattle.std.specs.declared.option.Option.{Option}
use Rattle.std.specs.declared.option.Option.TheVariants.{Some, None}
use Rattle.std.specs.Cmp.Lexicographic.{bytes_decides}
use Rattle.std.proofs.lemmas.List.{map-append, map-set}
use Rattle.std.proofs.lemmas.List.Elements.{All-contains}
use Rattle.std.proofs.lemmas.Option.{none-some, same_Some}
use Rattle.std.proofs.Common.{refl, sym, ◌∙◌, ap, subst, inl, inr}
use Rattle.ov_types.specs.First.{same_name}
use Rattle.ov_types.specs.declared.rows.NodeId.{NodeId}
use Rattle.config_types.specs.declared.edit.Edit.{Edit}
use Rattle.config_types.specs.declared.edit.Edit.TheVariants.{Put, Delete}
use Rattle.config_types.specs.declared.edit.Object.TheVariants as Objects
use Rattle.config_types.specs.declared.edit.ObjectKind.TheVariants as Kinds
use Rattle.config_types.specs.declared.topology.Node.{Node}
use Rattle.config_types.specs.declared.topology.Topology.{Topology}
use Rattle.schedule_script.specs.ConfigCheck.Checked.{Checked}
use Rattle.schedule_script.specs.ConfigCheck.Finding.{node_named}
use Rattle.schedule_script.specs.ConfigCheck.EditLaws.{Appends, Removes, Replaces}
use Rattle.schedule_script.specs.ConfigCheck.Edits.{edit_fault, edited_config, edited_topology, node_name, with_put, without}
use Rattle.schedule_script.specs.ConfigCheck.Rules.{node_names}
use Rattle.schedule_script.proofs.ConfigCheck.EditLaws.{node_deleted, node_put}
use Rattle.node_model.specs.Members.{Member}
use Rattle.machine_laws.specs.MachineModel.Setup.{Move, Name, Numbers, Setup, agents_in, agents_of, came_at, checked, id_of, is_listed, listed_by, moves}
use Rattle.machine_laws.specs.MachineModel.Setup.{renumbered_at, stands, with_agent, without_agent}
use Rattle.machine_laws.specs.MachineModel.Session.{Agent}
use Rattle.machine_laws.specs.MachineModel.Network.{same_role}
use Rattle.machine_laws.specs.MachineModel.Moments.{NumbersFit}
use Rattle.machine_laws.proofs.MachineModel.Asking.{apart_others, contains_of}
use Rattle.machine_laws.proofs.MachineModel.Changing.{not_missing}
use Rattle.machine_laws.proofs.MachineModel.Distinct.{Apart, same_false}
use Rattle.running_nodes.specs.Controls.{Controls}
use Rattle.running_nodes.specs.Seats.{Who, Configuring, Controlling, Forwarding, Seat, agent_plan, control_plan, name_of, role_of, seat, whos}
use Rattle.running_nodes.specs.Moving.{came_to, is_agent_named, is_listed_who, joined_by, reseated, resettled_at, resettled_by, retired_of, seats_of}
use Rattle.running_nodes.specs.Moving.{vacated}
use Rattle.running_laws.proofs.Resettled.{resettled_seats}

-- ---- the nodes of the topology
abbrev pub news : Option Node → List Node
news None = []
news (Some n) = n ∷ []

abbrev pub renoded : Name → List Node → List Node → List Node
renoded name new [] = new
renoded name new (n ∷ ns) = cond (same_name n.name name) (new ++ ns) (n ∷ renoded name new ns)

renoded_there : (name : Name) (new before : List Node) (r : Node) (after : List Node)
    → ((n : Node) → Member n before → n.name ≡ name → ⊥) → r.name ≡ name
    → renoded name new (before ++ r ∷ after) ≡ before ++ (new ++ after)
renoded_there name new [] r after off is = ap (λ b. cond b (new ++ after) (r ∷ renoded name new after)) ((bytes_decides r.name name).1 is)
renoded_there name new (n ∷ before) r after off is =
    ap (λ b. cond b (new ++ (before ++ r ∷ after)) (n ∷ renoded name new (before ++ r ∷ after))) (same_false n.name name (off n (inl refl)))
    ∙ ap (λ (ns : List Node). n ∷ ns) (renoded_there name new before r after (λ m i. off m (inr i)) is)

renoded_behind : (name : Name) (new ns : List Node) → ((n : Node) → Member n ns → n.name ≡ name → ⊥) → renoded name new ns ≡ ns ++ new
renoded_behind name new [] off = refl
renoded_behind name new (n ∷ ns) off =
    ap (λ b. cond b (new ++ ns) (n ∷ renoded name new ns)) (same_false n.name name (off n (inl refl)))
    ∙ ap (λ (ms : List Node). n ∷ ms) (renoded_behind name new ns (λ m i. off m (inr i)))

member_left : (n : Node) (before after : List Node) → Member n before → Member n (before ++ after)
member_left n [] after m = absurd m
member_left n (b ∷ before) after (inl e) = inl e
member_left n (b ∷ before) after (inr m) = inr (member_left n before after m)

put_renoded : (n : Node) (x : Checked) → Apart (node_names x.topology)
    → (edited_topology (Put (Objects.Node n)) x.topology).nodes ≡ renoded n.name (n ∷ []) x.topology.nodes
unfolding edited_topology edited_config
put_renoded n x apart =
    let t = x.topology in
    let new : List Node = with_put node_name n t.nodes in
    let p = node_put n x in
    let is : p.0 ≡ new = sym (ap (λ (v : Checked). v.topology.nodes) p.2) in
    let how : Replaces node_name n t.nodes new ⊎ Appends node_name n t.nodes new =
    subst (λ (ns : List Node). Replaces node_name n t.nodes ns ⊎ Appends node_name n t.nodes ns) is p.1 in
    elim how as (λ _. new ≡ renoded n.name (n ∷ []) t.nodes) [
      | inl r ↦
          let here : Apart (map (λ (n : Node). n.name) (r.before ++ r.replaced ∷ r.after)) =
          subst (λ (ns : List Node). Apart (map (λ (n : Node). n.name) ns)) r.was apart in
          r.is
          ∙ sym (renoded_there n.name (n ∷ []) r.before r.replaced r.after
          (λ k m e. apart_others r.replaced r.before r.after here k (member_left k r.before r.after m) (e ∙ sym r.named)) r.named)
          ∙ ap (renoded n.name (n ∷ [])) (sym r.was)
      | inr a ↦
          a.is
          ∙ sym (renoded_behind n.name (n ∷ []) t.nodes
          (λ k m. All-contains (λ (y : Node). y.name ≢ n.name) t.nodes k a.fresh (contains_of t.nodes k m)))
    ]

delete_renoded : (name : Name) (x : Checked) → edit_fault x (Delete Kinds.Node name) ≡ None → Apart (node_names x.topology)
    → (edited_topology (Delete Kinds.Node name) x.topology).nodes ≡ renoded name [] x.topology.nodes
unfolding edited_topology edited_config
delete_renoded name x none apart =
    let t = x.topology in
    let new : List Node = without node_name name t.nodes in
    let p = node_deleted name x (not_missing x (Delete Kinds.Node name) none) in
    let is : p.0 ≡ new = sym (ap (λ (v : Checked). v.topology.nodes) p.2) in
    let r : Removes node_name name t.nodes new = subst (Removes node_name name t.nodes) is p.1 in
    let here : Apart (map (λ (n : Node). n.name) (r.before ++ r.removed ∷ r.after)) =
    subst (λ (ns : List Node). Apart (map (λ (n : Node). n.name) ns)) r.was apart in
    r.is
    ∙ sym (renoded_there name [] r.before r.removed r.after
    (λ k m e. apart_others r.removed r.before r.after here k (member_left k r.before r.after m) (e ∙ sym r.named)) r.named)
    ∙ ap (renoded name []) (sym r.was)

pub nodes_renoded : (x : Checked) (e : Edit) → edit_fault x e ≡ None → Apart (node_names x.topology) → (m : Move)
    → moves e x.topology ≡ Some m → (edited_topology e x.topology).nodes ≡ renoded m.name (news m.now) x.topology.nodes
nodes_renoded x (Put (Objects.Node n)) none apart m is =
    let mover : Move = record { name = n.name; left = listed_by (node_named x.topology n.name); now = Some n } in
    elim (stands (node_named x.topology n.name) n) as (λ b. cond b None (Some mover) ≡ Some m
    → (edited_topology (Put (Objects.Node n)) x.topology).nodes ≡ renoded m.name (news m.now) x.topology.nodes) [
      | true ↦ λ is. absurd (none-some m is)
      | false ↦ λ is.
          subst (λ (m : Move). (edited_topology (Put (Objects.Node n)) x.topology).nodes ≡ renoded m.name (news m.now) x.topology.nodes)
          (same_Some mover m is) (put_renoded n x apart)
    ] is
nodes_renoded x (Delete Kinds.Node name) none apart m is =
    subst (λ (m : Move). (edited_topology (Delete Kinds.Node name) x.topology).nodes ≡ renoded m.name (news m.now) x.topology.nodes)
    (same_Some (record { name = name; left = listed_by (node_named x.topology name); now = None }) m is)
    (delete_renoded name x none apart)
nodes_renoded x (Put (Objects.Network n)) none apart m is = absurd (none-some m is)
nodes_renoded x (Put (Objects.Port n)) none apart m is = absurd (none-some m is)
nodes_renoded x (Put (Objects.Policy n)) none apart m is = absurd (none-some m is)
nodes_renoded x (Put (Objects.Service n)) none apart m is = absurd (none-some m is)
nodes_renoded x (Put (Objects.Chain n)) none apart m is = absurd (none-some m is)
nodes_renoded x (Delete Kinds.Network name) none apart m is = absurd (none-some m is)
nodes_renoded x (Delete Kinds.Port name) none apart m is = absurd (none-some m is)
nodes_renoded x (Delete Kinds.Policy name) none apart m is = absurd (none-some m is)
nodes_renoded x (Delete Kinds.Service name) none apart m is = absurd (none-some m is)
nodes_renoded x (Delete Kinds.Chain name) none apart m is = absurd (none-some m is)

-- ---- the numbers at a control node
abbrev AreRenumbered : Move → Name → List Numbers → Type 0
AreRenumbered m c ns =
    (agents_in (map (renumbered_at m) ns) c ≡ came_at m.now c (without_agent m.name (agents_in ns c)))
    ⊎ ((agents_in (map (renumbered_at m) ns) c ≡ []) × (agents_in ns c ≡ []))

are_renumbered : (m : Move) (c : Name) (ns : List Numbers) → AreRenumbered m c ns
are_renumbered m c [] = inr (refl, refl)
are_renumbered m c (n ∷ ns) =
    elim (same_name n.control c) as (λ b. same_name n.control c ≡ b
    → (cond b (came_at m.now n.control (without_agent m.name n.agents)) (agents_in (map (renumbered_at m) ns) c)
    ≡ came_at m.now c (without_agent m.name (cond b n.agents (agents_in ns c))))
    ⊎ ((cond b (came_at m.now n.control (without_agent m.name n.agents)) (agents_in (map (renumbered_at m) ns) c) ≡ [])
    × (cond b n.agents (agents_in ns c) ≡ []))) [
      | true ↦ λ is. inl (ap (λ (k : Name). came_at m.now k (without_agent m.name n.agents)) ((bytes_decides n.control c).0 is))
      | false ↦ λ _. are_renumbered m c ns
    ] refl

-- where there are none, none comes, since it would have one
none_comes : (u : Topology) (c : NodeId) (now : Option Node) → NumbersFit u c [] → ((k : Node) → now ≡ Some k → Member k u.nodes)
    → came_at now c.name [] ≡ []
none_comes u c None fit there = refl
none_comes u c (Some k) fit there =
    elim (is_listed c.name k) as (λ b. is_listed c.name k ≡ b → cond b (with_agent (id_of k) []) [] ≡ []) [
      | true ↦ λ e. absurd (fit.all k (there k refl) e)
      | false ↦ λ _. refl
    ] refl

pub agents_come : (m : Move) (u : Topology) (c : NodeId) (ns : List Numbers)
    → NumbersFit u c (agents_in (map (renumbered_at m) ns) c.name) → ((k : Node) → m.now ≡ Some k → Member k u.nodes)
    → agents_in (map (renumbered_at m) ns) c.name ≡ came_at m.now c.name (without_agent m.name (agents_in ns c.name))
agents_come m u c ns fit there =
    elim (are_renumbered m c.name ns) as (λ _. agents_in (map (renumbered_at m) ns) c.name ≡ came_at m.now c.name (without_agent m.name (agents_in ns c.name))) [
      | inl e ↦ e
      | inr q ↦
          q.0 ∙ sym (none_comes u c m.now (subst (NumbersFit u c) q.0 fit) there)
          ∙ ap (λ os. came_at m.now c.name (without_agent m.name os)) (sym q.1)
    ]

-- ---- who sits at the seats
abbrev who_of : Seat → Who
who_of n = n.who

abbrev is_agent_who : Name → Who → Bool
is_agent_who name w = same_role Agent (role_of w) && same_name (name_of w) name

abbrev rewho : Name → List Who → List Who → List Who
rewho name new [] = new
rewho name new (w ∷ ws) = cond (is_agent_who name w) (new ++ ws) (w ∷ rewho name new ws)

reseated_who : (name : Name) (new seats : List Seat) → map who_of (reseated name new seats) ≡ rewho name (map who_of new) (map who_of seats)
reseated_who name new [] = refl
reseated_who name new (n ∷ seats) =
    elim (is_agent_named name n) as (λ b. map who_of (cond b (new ++ seats) (n ∷ reseated name new seats))
    ≡ cond b (map who_of new ++ map who_of seats) (n.who ∷ rewho name (map who_of new) (map who_of seats))) [
      | true ↦ map-append who_of new seats
      | false ↦ ap (λ (ws : List Who). n.who ∷ ws) (reseated_who name new seats)
    ]

-- an agent goes by the list of control nodes alone
abbrev agent_in : List NodeId → Node → Who
agent_in cs n = Forwarding (agent_plan (record { asn = 0; controllers = cs; nodes = [] }) n)

rewho_front : (name : Name) (new : List Who) (f : NodeId → Controls) (cs : List NodeId) (ws : List Who)
    → rewho name new (map (λ c. Controlling (f c)) cs ++ ws) ≡ map (λ c. Controlling (f c)) cs ++ rewho name new ws
rewho_front name new f [] ws = refl
rewho_front name new f (c ∷ cs) ws = ap (λ (vs : List Who). Controlling (f c) ∷ vs) (rewho_front name new f cs ws)

rewho_agents : (name : Name) (cs : List NodeId) (new ns : List Node)
    → rewho name (map (agent_in cs) new) (map (agent_in cs) ns) ≡ map (agent_in cs) (renoded name new ns)
rewho_agents name cs new [] = refl
rewho_agents name cs new (n ∷ ns) =
    elim (same_name n.name name) as (λ b. cond b (map (agent_in cs) new ++ map (agent_in cs) ns) (agent_in cs n ∷ rewho name (map (agent_in cs) new) (map (agent_in cs) ns))
    ≡ map (agent_in cs) (cond b (new ++ ns) (n ∷ renoded name new ns))) [
      | true ↦ sym (map-append (agent_in cs) new ns)
      | false ↦ ap (λ (ws : List Who). agent_in cs n ∷ ws) (rewho_agents name cs new ns)
    ]

-- who goes and comes
abbrev pub resettled_who : Name → Option Node → Who → Who
resettled_who name now (Configuring x) = Configuring x
resettled_who name now (Controlling c) = Controlling (record c { agents = came_at now c.me.name (without_agent name c.agents) })
resettled_who name now (Forwarding plan) = Forwarding plan

come_who : (k : Node) (name : Name) (c : Controls) (v : Seat) → v.who ≡ retired_of name (Controlling c)
    → (cond (is_listed c.me.name k) (joined_by (retired_of name (Controlling c)) (id_of k) v) v).who
    ≡ resettled_who name (Some k) (Controlling c)
come_who k name c v is =
    elim (is_listed c.me.name k) as (λ b.
    (cond b (joined_by (Controlling (record c { agents = without_agent name c.agents })) (id_of k) v) v).who
    ≡ Controlling (record c { agents = cond b (with_agent (id_of k) (without_agent name c.agents)) (without_agent name c.agents) })) [
      | true ↦ refl
      | false ↦ is
    ]

came_who : (now : Option Node) (name : Name) (c : Controls) (v : Seat) → v.who ≡ retired_of name (Controlling c)
    → (came_to now v).who ≡ resettled_who name now (Controlling c)
came_who None name c v is = is
came_who (Some k) name c v is =
    ap (λ w. (cond (is_listed_who k w) (joined_by w (id_of k) v) v).who) is ∙ come_who k name c v is

pub who_resettled : (name : Name) (now : Option Node) (n : Seat) → (resettled_at name now n).who ≡ resettled_who name now n.who
who_resettled name now n = by_who n.who refl
  where
    by_who : (who : Who) → n.who ≡ who → (resettled_by who name now n).who ≡ resettled_who name now who
    by_who (Configuring x) is = is
    by_who (Controlling c) is = came_who now name c (vacated name n) (ap (retired_of name) is)
    by_who (Forwarding plan) is = is

resettled_whos : (name : Name) (now : Option Node) (seats : List Seat) → map who_of (map (resettled_at name now) seats) ≡ map (resettled_who name now) (map who_of seats)
resettled_whos name now [] = refl
resettled_whos name now (n ∷ seats) = λ i. who_resettled name now n i ∷ resettled_whos name now seats i

maps_alike : {A : Type 0} (f g : A → Who) (xs : List A) → ((a : A) → Member a xs → f a ≡ g a) → map f xs ≡ map g xs
maps_alike f g [] h = refl
maps_alike f g (x ∷ xs) h = λ i. h x (inl refl) i ∷ maps_alike f g xs (λ a m. h a (inr m)) i

map_map : {A : Type 0} (g : Who → Who) (f : A → Who) (xs : List A) → map g (map f xs) ≡ map (λ a. g (f a)) xs
map_map g f [] = refl
map_map g f (x ∷ xs) = ap (λ (ws : List Who). g (f x) ∷ ws) (map_map g f xs)

module _ (x y : Setup) (name : Name) (now : Option Node) (asn : y.topology.asn ≡ x.topology.asn)
    (controllers : y.topology.controllers ≡ x.topology.controllers)
    (nodes : y.topology.nodes ≡ renoded name (news now) x.topology.nodes)
    (agents : (c : NodeId) → Member c x.topology.controllers → agents_of y c.name ≡ came_at now c.name (without_agent name (agents_of x c.name))) where
  abbrev cs : List NodeId
  cs = x.topology.controllers

  new_who : (now : Option Node) → map who_of (seats_of y.topology now) ≡ map (agent_in cs) (news now)
  new_who None = refl
  new_who (Some n) = ap (λ ds. agent_in ds n ∷ []) controllers

  control_who : (c : NodeId) → Member c cs → resettled_who name now (Controlling (control_plan x c)) ≡ Controlling (control_plan y c)
  control_who c m =
      λ i. Controlling (record {
        me = c;
        asn = sym asn i;
        peers = filter (λ (d : NodeId). not (same_name d.name c.name)) (sym controllers i);
        agents = sym (agents c m) i;
      })

  -- while it goes the configuration node is as it was, and so are the control nodes
  seated_who : (seats : List Seat) → map who_of seats ≡ whos x
      → map who_of (reseated name (seats_of y.topology now) seats)
      ≡ Configuring (checked x) ∷ (map (λ c. Controlling (control_plan x c)) x.topology.controllers
      ++ map (agent_in x.topology.controllers) y.topology.nodes)
  seated_who seats are =
      reseated_who name (seats_of y.topology now) seats ∙ (λ i. rewho name (new_who now i) (are i))
      ∙ ap (λ (vs : List Who). Configuring (checked x) ∷ vs)
      (rewho_front name (map (agent_in cs) (news now)) (control_plan x) cs (map (agent_in cs) x.topology.nodes)
      ∙ ap (λ (vs : List Who). map (λ c. Controlling (control_plan x c)) cs ++ vs)
      (rewho_agents name cs (news now) x.topology.nodes ∙ ap (map (agent_in cs)) (sym nodes)))

  pub moved_who : (seats : List Seat) → map who_of seats ≡ whos x
      → map who_of (resettled_seats (checked y) name now (reseated name (seats_of y.topology now) seats)) ≡ whos y
  moved_who seats are =
      let new : List Seat = seats_of y.topology now in
      let r : List Seat = reseated name new seats in
      let C : NodeId → Who = λ c. Controlling (control_plan x c) in
      let us : List Who = map C cs ++ map (agent_in cs) y.topology.nodes in
      let seated : map who_of r ≡ Configuring (checked x) ∷ us = seated_who seats are in
      let come : map (resettled_who name now) us ≡ map (λ c. Controlling (control_plan y c)) y.topology.controllers ++ map (agent_in y.topology.controllers) y.topology.nodes =
      map-append (resettled_who name now) (map C cs) (map (agent_in cs) y.topology.nodes)
      ∙ (λ i. (map_map (resettled_who name now) C cs ∙ maps_alike (λ c. resettled_who name now (C c)) (λ c. Controlling (control_plan y c)) cs control_who
      ∙ ap (map (λ c. Controlling (control_plan y c))) (sym controllers)) i
      ++ (map_map (resettled_who name now) (agent_in cs) y.topology.nodes ∙ ap (λ ds. map (agent_in ds) y.topology.nodes) (sym controllers)) i)
      in
      map-set who_of (map (resettled_at name now) r) 0 (record (seat (map (resettled_at name now) r) 0) { who = Configuring (checked y) })
      ∙ ap (λ (vs : List Who). slice_set vs 0 (Configuring (checked y))) (resettled_whos name now r ∙ ap (map (resettled_who name now)) seated)
      ∙ ap (λ (vs : List Who). Configuring (checked y) ∷ vs) come
