-- Which nodes of a topology have a session with which, by names and roles, and that both of the two have it.
use Rattle.std.specs.Cmp.Lexicographic.{bytes_decides}
use Rattle.std.specs.Option.{option_map, unwrap_or}
use Rattle.std.specs.Prelude.{List, cond, false, find, map, not, true, [], ◌++◌, ◌∷◌, ◌≡◌}
use Rattle.std.specs.declared.option.Option.TheVariants.{None, Some}
use Rattle.std.specs.declared.option.Option.{Option}
use Rattle.std.proofs.Common.{ap, inl, inr, refl, subst, sym, ◌∙◌}
use Rattle.std.proofs.lemmas.Bool.{not-true, true≢false}
use Rattle.std.proofs.lemmas.List.{map-append}
use Rattle.std.proofs.lemmas.Option.{same_Some}
use Rattle.ov_types.specs.First.{same_name}
use Rattle.ov_types.specs.declared.rows.NodeId.{NodeId}
use Rattle.config_types.specs.declared.topology.Node.{Node}
use Rattle.config_types.specs.declared.topology.Topology.{Topology}
use Rattle.node_model.specs.Members.{Member}
use Rattle.node_model.proofs.Members.{any_in, from_any, from_filter, from_map, in_either, in_filter, in_left, in_map, in_right, none_some}
use Rattle.machine_laws.specs.MachineModel.Moments.{HasNumbers}
use Rattle.machine_laws.specs.MachineModel.Network.{config, lists}
use Rattle.machine_laws.specs.MachineModel.Session.{Agent, Configuration, Controller}
use Rattle.machine_laws.specs.MachineModel.Setup.{Name, Setup, checked, id_of}
use Rattle.machine_laws.specs.Goal.{Party}
use Rattle.machine_laws.specs.Setups.{IsNamed}
use Rattle.machine_laws.proofs.MachineModel.Distinct.{same_false}
use Rattle.running_nodes.specs.Seats.{Configuring, Controlling, Forwarding, Who, agent_plan, control_plan, controller_named, name_of, name_there, no_node, others_of, role_of, whos}
use Rattle.running_laws.proofs.FirstPlaces.{map_twice}

-- ---- the ends of sessions
abbrev pub root : Party
root = (config, Configuration)

abbrev pub site : NodeId → Party
site c = (c.name, Controller)

abbrev pub computer : Node → Party
computer n = (n.name, Agent)

abbrev pub client : NodeId → Party
client n = (n.name, Agent)

abbrev pub self : Who → Party
self w = (name_of w, role_of w)

abbrev pub with_site : NodeId → Option Party
with_site c = Some (site c)

abbrev pub with_client : Option NodeId → Option Party
with_client o = option_map client o

-- with whom a node has its sessions, by their numbers
abbrev pub parties_of : Who → List (Option Party)
parties_of (Configuring x) = map with_site x.topology.controllers
parties_of (Controlling c) = Some root ∷ (map with_site c.peers ++ map with_client c.agents)
parties_of (Forwarding plan) = map with_site plan.controllers

abbrev pub name_of_party : Option Party → Option Name
name_of_party o = option_map (λ (p : Party). p.0) o

clients_named : (agents : List (Option NodeId)) → map name_of_party (map with_client agents) ≡ map name_there agents
clients_named [] = refl
clients_named (None ∷ agents) = ap (λ (ns : List (Option Name)). None ∷ ns) (clients_named agents)
clients_named (Some a ∷ agents) = ap (λ (ns : List (Option Name)). Some a.name ∷ ns) (clients_named agents)

pub parties_named : (w : Who) → map name_of_party (parties_of w) ≡ others_of w
parties_named (Configuring x) = map_twice name_of_party with_site x.topology.controllers
parties_named (Controlling c) =
    ap (λ (ns : List (Option Name)). Some config ∷ ns)
    (map-append name_of_party (map with_site c.peers) (map with_client c.agents)
    ∙ (λ i. map_twice name_of_party with_site c.peers i ++ clients_named c.agents i))
parties_named (Forwarding plan) = map_twice name_of_party with_site plan.controllers

pub party_of_name : (o : Option Party) (name : Name) → name_of_party o ≡ Some name → (o ≡ Some (unwrap_or o ([], Agent))) × ((unwrap_or o ([], Agent)).0 ≡ name)
party_of_name None name e = absurd (none_some name e)
party_of_name (Some p) name e = (refl, same_Some p.0 name e)

from_clients : (o : Party) (agents : List (Option NodeId)) → Member (Some o) (map with_client agents) → (a : NodeId) × Member (Some a) agents × (client a ≡ o)
from_clients o [] m = absurd m
from_clients o (None ∷ agents) (inl e) = absurd (none_some o e)
from_clients o (None ∷ agents) (inr m) = let q = from_clients o agents m in (q.0, inr q.1, q.2)
from_clients o (Some a ∷ agents) (inl e) = (a, inl refl, same_Some (client a) o e)
from_clients o (Some a ∷ agents) (inr m) = let q = from_clients o agents m in (q.0, inr q.1, q.2)

-- ---- the first has a session with the second
pub data Ties (t : Topology) (a o : Party) : Type 0 where
  Feed : (c : NodeId) → Member c t.controllers → a ≡ root → o ≡ site c → Ties t a o
  Fed : (c : NodeId) → Member c t.controllers → a ≡ site c → o ≡ root → Ties t a o
  Peers : (c d : NodeId) → Member c t.controllers → Member d t.controllers → (c.name ≡ d.name → ⊥) → a ≡ site c → o ≡ site d → Ties t a o
  Serves : (c : NodeId) (n : Node) → Member c t.controllers → Member n t.nodes → lists n c ≡ true → a ≡ site c → o ≡ computer n → Ties t a o
  Served : (c : NodeId) (n : Node) → Member c t.controllers → Member n t.nodes → lists n c ≡ true → a ≡ computer n → o ≡ site c → Ties t a o

pub ties_turned : (t : Topology) (a o : Party) → Ties t a o → Ties t o a
ties_turned t a o (Feed c m e f) = Fed c m f e
ties_turned t a o (Fed c m e f) = Feed c m f e
ties_turned t a o (Peers c d m k h e f) = Peers d c k m (λ s. h (sym s)) f e
ties_turned t a o (Serves c n m k l e f) = Served c n m k l f e
ties_turned t a o (Served c n m k l e f) = Serves c n m k l f e

-- ---- the control node of a name
abbrev IsNamedAs : List NodeId → Name → NodeId → Type 0
IsNamedAs cs name c = Member c cs × (c.name ≡ name)

controller_found : (cs : List NodeId) (name : Name) → Member name (map (λ (c : NodeId). c.name) cs) → IsNamedAs cs name (unwrap_or (find (λ (c : NodeId). same_name c.name name) cs) no_node)
controller_found [] name m = absurd m
controller_found (c ∷ cs) name m =
    elim (same_name c.name name) as (λ b. same_name c.name name ≡ b → IsNamedAs (c ∷ cs) name (unwrap_or (cond b (Some c) (find (λ (c : NodeId). same_name c.name name) cs)) no_node)) [
      | true ↦ λ e. (inl refl, (bytes_decides c.name name).0 e)
      | false ↦ λ e. elim m as (λ _. IsNamedAs (c ∷ cs) name (unwrap_or (find (λ (c : NodeId). same_name c.name name) cs) no_node)) [
        | inl is ↦ absurd (true≢false (sym ((bytes_decides c.name name).1 is) ∙ e))
        | inr m ↦ let q = controller_found cs name m in (inr q.0, q.1)
      ]
    ] refl

module _ (x : Setup) (named : IsNamed x.topology) (numbers : HasNumbers x) where
  abbrev t : Topology
  t = x.topology

  -- what an agent lists is a control node of that name
  pub listed_named : (n : Node) → Member n t.nodes → (name : Name) → Member name n.controllers → IsNamedAs t.controllers name (controller_named t name)
  listed_named n k name m = controller_found t.controllers name (named.listed n name k m)

  pub plan_names : (n : Node) → Member n t.nodes → map (λ (c : NodeId). c.name) (agent_plan t n).controllers ≡ n.controllers
  plan_names n k = map_twice (λ (c : NodeId). c.name) (controller_named t) n.controllers ∙ back n.controllers (λ name m. (listed_named n k name m).1)
    where
      back : (ns : List Name) → ((name : Name) → Member name ns → (controller_named t name).name ≡ name) → map (λ name. (controller_named t name).name) ns ≡ ns
      back [] h = refl
      back (name ∷ ns) h = λ i. h name (inl refl) i ∷ back ns (λ m k. h m (inr k)) i

  -- ---- the nodes
  pub root_in : Member (Configuring (checked x)) (whos x)
  root_in = inl refl

  pub site_in : (c : NodeId) → Member c t.controllers → Member (Controlling (control_plan x c)) (whos x)
  site_in c m = inr (in_left (Controlling (control_plan x c)) (map (λ c. Controlling (control_plan x c)) t.controllers) (map (λ n. Forwarding (agent_plan t n)) t.nodes) (in_map (λ c. Controlling (control_plan x c)) c t.controllers m))

  pub computer_in : (n : Node) → Member n t.nodes → Member (Forwarding (agent_plan t n)) (whos x)
  computer_in n m = inr (in_right (Forwarding (agent_plan t n)) (map (λ c. Controlling (control_plan x c)) t.controllers) (map (λ n. Forwarding (agent_plan t n)) t.nodes) (in_map (λ n. Forwarding (agent_plan t n)) n t.nodes m))

  -- a node is one of three kinds
  abbrev pub others_than_root : List Who
  others_than_root = map (λ c. Controlling (control_plan x c)) t.controllers ++ map (λ n. Forwarding (agent_plan t n)) t.nodes

  pub by_node : (P : Who → Type 0) → ((c : NodeId) → Member c t.controllers → P (Controlling (control_plan x c))) → ((n : Node) → Member n t.nodes → P (Forwarding (agent_plan t n))) → (w : Who) → Member w others_than_root → P w
  by_node P b c w m =
      elim (in_either w (map (λ c. Controlling (control_plan x c)) t.controllers) (map (λ n. Forwarding (agent_plan t n)) t.nodes) m) as (λ _. P w) [
        | inl l ↦ let q = from_map (λ c. Controlling (control_plan x c)) w t.controllers l in subst P q.2 (b q.0 q.1)
        | inr r ↦ let q = from_map (λ n. Forwarding (agent_plan t n)) w t.nodes r in subst P q.2 (c q.0 q.1)
      ]

  pub by_kind : (P : Who → Type 0) → P (Configuring (checked x)) → ((c : NodeId) → Member c t.controllers → P (Controlling (control_plan x c))) → ((n : Node) → Member n t.nodes → P (Forwarding (agent_plan t n))) → (w : Who) → Member w (whos x) → P w
  by_kind P a b c w (inl e) = subst P e a
  by_kind P a b c w (inr m) = by_node P b c w m

  -- ---- the first of two that have a session
  pub record Holder (a o : Party) : Type 0 where
    pub who : Who
    pub member : Member who (whos x)
    pub self_is : self who ≡ a
    pub tied : Member (Some o) (parties_of who)

  pub holder_of : (a o : Party) → Ties t a o → Holder a o
  holder_of a o (Feed c m e f) = record { who = Configuring (checked x); member = root_in; self_is = sym e; tied = subst (λ (o : Party). Member (Some o) (map with_site t.controllers)) (sym f) (in_map with_site c t.controllers m) }
  holder_of a o (Fed c m e f) = record { who = Controlling (control_plan x c); member = site_in c m; self_is = sym e; tied = inl (ap (λ (o : Party). Some o) (sym f)) }
  holder_of a o (Peers c d m k h e f) =
      let plan = control_plan x c in
      record {
        who = Controlling plan;
        member = site_in c m;
        self_is = sym e;
        tied = subst (λ (o : Party). Member (Some o) (parties_of (Controlling plan))) (sym f)
            (inr (in_left (Some (site d)) (map with_site plan.peers) (map with_client plan.agents)
            (in_map with_site d plan.peers (in_filter (λ (d : NodeId). not (same_name d.name c.name)) d t.controllers k (ap not (same_false d.name c.name (λ s. h (sym s))))))));
      }
  holder_of a o (Serves c n m k l e f) =
      let plan = control_plan x c in
      record {
        who = Controlling plan;
        member = site_in c m;
        self_is = sym e;
        tied = subst (λ (o : Party). Member (Some o) (parties_of (Controlling plan))) (sym f)
            (inr (in_right (Some (computer n)) (map with_site plan.peers) (map with_client plan.agents)
            (in_map with_client (Some (id_of n)) plan.agents ((numbers c m).all n k l))));
      }
  holder_of a o (Served c n m k l e f) = record { who = Forwarding (agent_plan t n); member = computer_in n k; self_is = sym e; tied = subst (λ (o : Party). Member (Some o) (map with_site (agent_plan t n).controllers)) (sym f) tied }
    where
      tied : Member (Some (site c)) (map with_site (agent_plan t n).controllers)
      tied =
          let q = from_any (same_name c.name) n.controllers l in
          let is : c.name ≡ q.0 = (bytes_decides c.name q.0).0 q.2 in
          let named : (controller_named t q.0).name ≡ c.name = (listed_named n k q.0 q.1).1 ∙ sym is in
          subst (λ (o : Party). Member (Some o) (map with_site (agent_plan t n).controllers)) (λ i. (named i, Controller))
          (in_map with_site (controller_named t q.0) (agent_plan t n).controllers (in_map (controller_named t) q.0 n.controllers q.1))

  -- and the other way round
  abbrev Tied : Who → Type 0
  Tied w = (o : Party) → Member (Some o) (parties_of w) → Ties t (self w) o

  root_tied : Tied (Configuring (checked x))
  root_tied o m = let q = from_map with_site (Some o) t.controllers m in Feed q.0 q.1 refl (sym (same_Some (site q.0) o q.2))

  site_tied : (c : NodeId) → Member c t.controllers → Tied (Controlling (control_plan x c))
  site_tied c m o (inl e) = Fed c m refl (sym (same_Some root o e))
  site_tied c m o (inr i) =
      let plan = control_plan x c in
      elim (in_either (Some o) (map with_site plan.peers) (map with_client plan.agents) i) as (λ _. Ties t (site c) o) [
        | inl l ↦
            let q = from_map with_site (Some o) plan.peers l in
            let d = from_filter (λ (d : NodeId). not (same_name d.name c.name)) q.0 t.controllers q.1 in
            Peers c q.0 m d.0 (λ e. true≢false (sym ((bytes_decides q.0.name c.name).1 (sym e)) ∙ not-true (same_name q.0.name c.name) d.1)) refl (sym (same_Some (site q.0) o q.2))
        | inr r ↦
            let q = from_clients o plan.agents r in
            let n = (numbers c m).only q.0 q.1 in
            Serves c n.0 m n.1 n.3 refl (sym q.2 ∙ ap client (sym n.2))
      ]

  computer_tied : (n : Node) → Member n t.nodes → Tied (Forwarding (agent_plan t n))
  computer_tied n k o m =
      let q = from_map with_site (Some o) (agent_plan t n).controllers m in
      let p = from_map (controller_named t) q.0 n.controllers q.1 in
      let c = controller_named t p.0 in
      let is = listed_named n k p.0 p.1 in
      Served c n is.0 k (any_in (same_name c.name) p.0 n.controllers p.1 ((bytes_decides c.name p.0).1 is.1)) refl (sym (same_Some (site q.0) o q.2) ∙ ap site (sym p.2))

  pub ties_of : (w : Who) → Member w (whos x) → (o : Party) → Member (Some o) (parties_of w) → Ties t (self w) o
  ties_of w m = by_kind Tied root_tied site_tied computer_tied w m
