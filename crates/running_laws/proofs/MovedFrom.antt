-- What is known of names as a compute node moves: it alone has its name, and control nodes alone have a session with it.
use Rattle.std.specs.Prelude.{◌≡◌, ◌≢◌, ◌⊎◌, ℕ, List, [], ◌∷◌, map, find, is_some, Bool, true, false, cond}
use Rattle.std.specs.declared.option.Option.{Option}
use Rattle.std.specs.declared.option.Option.TheVariants.{Some, None}
use Rattle.std.specs.Option.{unwrap_or}
use Rattle.std.specs.List.{slice_index_or}
use Rattle.std.proofs.lemmas.Bool.{true≢false}
use Rattle.std.proofs.Common.{refl, sym, ◌∙◌, ap, subst, inl, inr}
use Rattle.ov_types.specs.First.{same_name}
use Rattle.ov_types.proofs.FirstLemmas.{same_name_self}
use Rattle.ov_types.specs.declared.rows.NodeId.{NodeId}
use Rattle.config_types.specs.declared.topology.Node.{Node}
use Rattle.config_types.specs.declared.topology.Topology.{Topology}
use Rattle.schedule_script.specs.ConfigCheck.Finding.{node_named}
use Rattle.node_model.specs.Members.{Member}
use Rattle.node_model.proofs.Members.{from_map, in_either}
use Rattle.machine_laws.specs.MachineModel.Setup.{Name, Setup}
use Rattle.machine_laws.specs.MachineModel.Network.{config}
use Rattle.machine_laws.proofs.MachineModel.Changing.{MoverIs, found_member}
use Rattle.running_nodes.specs.Controls.{Controls}
use Rattle.running_nodes.specs.Seats.{Who, Controlling, Forwarding, agent_plan, control_plan, controller_named, names_of, no_node, others_of, whos}
use Rattle.running_laws.proofs.Named.{AreNodes}
use Rattle.running_laws.proofs.VacantNames.{from_named, some_member}

site_found : (ds : List NodeId) (m : Name) → Member m (map (λ (d : NodeId). d.name) ds)
    → Member (unwrap_or (find (λ (d : NodeId). same_name d.name m) ds) no_node) ds
site_found [] m h = absurd h
site_found (d ∷ ds) m h = by_name (site_found ds m) (same_name d.name m) refl h
  where
    by_name : (Member m (map (λ (d : NodeId). d.name) ds)
        → Member (unwrap_or (find (λ (d : NodeId). same_name d.name m) ds) no_node) ds)
        → (t : Bool) → same_name d.name m ≡ t → Member m (map (λ (d : NodeId). d.name) (d ∷ ds))
        → Member (unwrap_or (cond t (Some d) (find (λ (d : NodeId). same_name d.name m) ds)) no_node) (d ∷ ds)
    by_name rest true e h = inl refl
    by_name rest false e (inl f) = absurd (true≢false (sym (ap (λ a. same_name a m) f ∙ same_name_self m) ∙ e))
    by_name rest false e (inr h) = inr (rest h)

-- ---- the name of a compute node that moves, in a setup with a topology after it
module _ (name : Name) (now : Option Node) (x : Setup) (u : Topology) (before : AreNodes x.topology) (then : AreNodes u)
    (same : u.controllers ≡ x.topology.controllers) (mover : MoverIs name now x.topology u) where
  abbrev t : Topology
  t = x.topology

  abbrev IsNamedIn : Topology → Type 0
  IsNamedIn v = (n : Node) × Member n v.nodes × (n.name ≡ name)

  named_there : (v : Topology) (o : Option Node) → node_named v name ≡ o → is_some o ≡ true → IsNamedIn v
  named_there v None h some = absurd (true≢false (sym some))
  named_there v (Some n) h some = let q = found_member name v.nodes n h in (n, q.0, q.1)

  known : (o : Option Node) → MoverIs name o t u → IsNamedIn t ⊎ IsNamedIn u
  known None h = inl (named_there t (node_named t name) refl h)
  known (Some n) h = inr (named_there u (Some n) h.1 refl)

  pub config_off : config ≢ name
  config_off e = elim (known now mover) as (λ _. ⊥) [
    | inl q ↦ before.no_agent_config q.0 q.1 (q.2 ∙ sym e)
    | inr q ↦ then.no_agent_config q.0 q.1 (q.2 ∙ sym e)
  ]

  pub site_off : (d : NodeId) → Member d t.controllers → d.name ≢ name
  site_off d i e = elim (known now mover) as (λ _. ⊥) [
    | inl q ↦ before.apart d q.0 i q.1 (e ∙ sym q.2)
    | inr q ↦ then.apart d q.0 (subst (Member d) (sym same) i) q.1 (e ∙ sym q.2)
  ]

  sites_off : (ds : List NodeId) → ((d : NodeId) → Member d ds → Member d t.controllers) → (i : ℕ)
      → slice_index_or (names_of ds) i None ≢ Some name
  sites_off ds among i e =
      let q = from_named name ds (some_member (names_of ds) i name e) in
      site_off q.0 (among q.0 q.1) q.2

  -- of the nodes that there are, control nodes alone have a session with it
  pub mates : (i : ℕ) (a : Who) → Member a (whos x) → slice_index_or (others_of a) i None ≡ Some name
      → (c : Controls) × (a ≡ Controlling c)
  mates i a (inl front) e =
      absurd (sites_off t.controllers (λ d m. m) i (ap (λ b. slice_index_or (others_of b) i None) front ∙ e))
  mates i a (inr m) e =
      let f : NodeId → Who = λ c. Controlling (control_plan x c) in
      let g : Node → Who = λ n. Forwarding (agent_plan t n) in
      elim (in_either a (map f t.controllers) (map g t.nodes) m) as (λ _. (c : Controls) × (a ≡ Controlling c)) [
        | inl k ↦ let q = from_map f a t.controllers k in (control_plan x q.0, sym q.2)
        | inr k ↦
            let q = from_map g a t.nodes k in
            absurd (sites_off (map (controller_named t) q.0.controllers) (λ d j.
            let c = from_map (controller_named t) d q.0.controllers j in
            subst (λ d. Member d t.controllers) c.2 (site_found t.controllers c.0 (before.listed q.0 q.1 c.0 c.1))) i
            (ap (λ b. slice_index_or (others_of b) i None) q.2 ∙ e))
      ]
