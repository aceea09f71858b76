-- The roles of names, by the control nodes, which no edit changes: new sessions have them too.
use Rattle.std.specs.Prelude.{◌≡◌, Bool, List, [], ◌∷◌, ◌++◌, map, cond, true, false}
use Rattle.std.specs.List.{AllByRecursion, filter, list_any}
use Rattle.std.proofs.Common.{ap, inl, inr, refl, sym, ◌∙◌}
use Rattle.ov_types.specs.First.{same_name}
use Rattle.ov_types.specs.declared.rows.NodeId.{NodeId}
use Rattle.schedule_script.specs.ConfigCheck.Rules.{controller_names, node_names}
use Rattle.config_types.specs.declared.topology.Node.{Node}
use Rattle.config_types.specs.declared.topology.Topology.{Topology}
use Rattle.node_model.specs.Members.{Member}
use Rattle.node_model.proofs.Members.{any_in, from_any, from_filter, in_map}
use Rattle.machine_laws.specs.MachineModel.Moments.{IsLaidOut, NodePair, nodes}
use Rattle.machine_laws.specs.MachineModel.Network.{accesses, asked, between, config, feeds, peerings}
use Rattle.machine_laws.specs.MachineModel.Session.{Agent, Configuration, Controller, Role, Session}
use Rattle.machine_laws.specs.MachineModel.Setup.{Name, lists}
use Rattle.machine_laws.proofs.MachineModel.Apart.{NamesApart, apart_of, names_apart, same_false}
use Rattle.machine_laws.proofs.MachineModel.Listed.{each_member, to_nodes}
use Rattle.machine_laws.proofs.MachineModel.Replaced.{each_append}
use Rattle.machine_laws.proofs.MachineModel.Twins.{itself}
use Rattle.std.specs.Cmp.Lexicographic.{bytes_decides}

abbrev pub role_among : List NodeId → Name → Role
role_among cs name =
    cond (same_name name config) Configuration (cond (list_any (λ (c : NodeId). same_name c.name name) cs) Controller Agent)

abbrev pub HaveRoles : List NodeId → NodePair → Type 0
HaveRoles cs p = (p.0.1 ≡ role_among cs p.0.0) × (p.1.1 ≡ role_among cs p.1.0)

-- a name that has a control node's role is the name of one
pub control_named : (cs : List NodeId) (name : Name) → role_among cs name ≡ Controller → (c : NodeId) × Member c cs × (c.name ≡ name)
control_named cs name e = by_config (same_name name config) refl e
  where
    by_any : (b : Bool) → list_any (λ (c : NodeId). same_name c.name name) cs ≡ b → cond b Controller Agent ≡ Controller → (c : NodeId) × Member c cs × (c.name ≡ name)
    by_any true is e = let q = from_any (λ (c : NodeId). same_name c.name name) cs is in (q.0, q.1, (bytes_decides q.0.name name).0 q.2)
    by_any false is e = cc

    by_config : (b : Bool) → same_name name config ≡ b → cond b Configuration (cond (list_any (λ (c : NodeId). same_name c.name name) cs) Controller Agent) ≡ Controller → (c : NodeId) × Member c cs × (c.name ≡ name)
    by_config true is e = cc
    by_config false is e = by_any (list_any (λ (c : NodeId). same_name c.name name) cs) refl e

pub back : (cs : List NodeId) (p : NodePair) → HaveRoles cs p → HaveRoles cs (p.1, p.0)
back cs p h = (h.1, h.0)

config_role : (cs : List NodeId) → Configuration ≡ role_among cs config
config_role cs = sym (ap (λ b. cond b Configuration (cond (list_any (λ (c : NodeId). same_name c.name config) cs) Controller Agent)) (itself config))

module _ (t : Topology) (apart : NamesApart t) where
  control_role : (c : NodeId) → Member c t.controllers → Controller ≡ role_among t.controllers c.name
  control_role c m =
      sym
      (ap (λ b. cond b Configuration (cond (list_any (λ (d : NodeId). same_name d.name c.name) t.controllers) Controller Agent))
      (same_false c.name config (apart.no_site_config c.name (in_map (λ (c : NodeId). c.name) c t.controllers m)))
      ∙ ap (λ b. cond b Controller Agent) (any_in (λ (d : NodeId). same_name d.name c.name) c t.controllers m (itself c.name)))

  not_among : (n : Node) → Member n t.nodes → list_any (λ (d : NodeId). same_name d.name n.name) t.controllers ≡ false
  not_among n m = by_any (list_any (λ (d : NodeId). same_name d.name n.name) t.controllers) refl
    where
      by_any : (b : Bool) → list_any (λ (d : NodeId). same_name d.name n.name) t.controllers ≡ b → b ≡ false
      by_any false e = refl
      by_any true e =
          let q = from_any (λ (d : NodeId). same_name d.name n.name) t.controllers e in
          absurd (apart.kinds_apart q.0.name n.name (in_map (λ (c : NodeId). c.name) q.0 t.controllers q.1) (in_map (λ (n : Node). n.name) n t.nodes m) ((bytes_decides q.0.name n.name).0 q.2))

  agent_role : (n : Node) → Member n t.nodes → Agent ≡ role_among t.controllers n.name
  agent_role n m =
      sym
      (ap (λ b. cond b Configuration (cond (list_any (λ (d : NodeId). same_name d.name n.name) t.controllers) Controller Agent))
      (same_false n.name config (apart.no_computer_config n.name (in_map (λ (n : Node). n.name) n t.nodes m)))
      ∙ ap (λ b. cond b Controller Agent) (not_among n m))

  abbrev RolesOf : Session → Type 0
  RolesOf s = HaveRoles t.controllers (nodes s)

  feeds_have : AllByRecursion RolesOf (feeds t.controllers)
  feeds_have =
      each_member RolesOf (λ (c : NodeId). between config Configuration c.name Controller) t.controllers
      (λ c m. (config_role t.controllers, control_role c m))

  peers_have : (cs : List NodeId) → ((c : NodeId) → Member c cs → Member c t.controllers) → AllByRecursion RolesOf (peerings cs)
  peers_have [] h = tt
  peers_have (c ∷ cs) h =
      each_append RolesOf _ _
      (each_member RolesOf (λ (d : NodeId). between c.name Controller d.name Controller) cs
      (λ d m. (control_role c (h c (inl refl)), control_role d (h d (inr m)))))
      (peers_have cs (λ d m. h d (inr m)))

  accesses_have : (ns : List Node) → ((n : Node) → Member n ns → Member n t.nodes) → AllByRecursion RolesOf (accesses t.controllers ns)
  accesses_have [] h = tt
  accesses_have (n ∷ ns) h =
      each_append RolesOf _ _
      (each_member RolesOf (λ (c : NodeId). between c.name Controller n.name Agent) (filter (lists n) t.controllers)
      (λ c m. (control_role c (from_filter (lists n) c t.controllers m).0, agent_role n (h n (inl refl)))))
      (accesses_have ns (λ k m. h k (inr m)))

apart_names : (t : Topology) → IsLaidOut t → NamesApart t
apart_names t l = names_apart t (apart_of (config ∷ controller_names t ++ node_names t) l.apart)

-- the sessions of a topology are of nodes in these roles
pub asked_roles : (t : Topology) → IsLaidOut t → AllByRecursion (HaveRoles t.controllers) (map nodes (asked t))
asked_roles t l =
    let a = apart_names t l in
    to_nodes (HaveRoles t.controllers) (asked t)
    (each_append (RolesOf t a) (feeds t.controllers ++ peerings t.controllers) (accesses t.controllers t.nodes)
    (each_append (RolesOf t a) (feeds t.controllers) (peerings t.controllers) (feeds_have t a) (peers_have t a t.controllers (λ c m. m)))
    (accesses_have t a t.nodes (λ n m. m)))

pub new_roles : (t : Topology) → IsLaidOut t → (c : NodeId) → Member c t.controllers → (n : Node) → Member n t.nodes
    → HaveRoles t.controllers ((c.name, Controller), (n.name, Agent))
new_roles t l c m n k = let a = apart_names t l in (control_role t a c m, agent_role t a n k)
