-- What a seat shows is what the machine's node shows, and the agents forward by the same.
use Rattle.std.specs.Cmp.Lexicographic.{bytes_decides}
use Rattle.std.specs.List.{list_any}
use Rattle.std.specs.Prelude.{List, cond, false, find, is_some, length, suc, true, zero, ℕ, [], ◌<◌, ◌∷◌, ◌≡◌}
use Rattle.std.specs.declared.option.Option.TheVariants.{None, Some}
use Rattle.std.proofs.Common.{ap, arith, inl, inr, refl, subst, sym, ◌∙◌}
use Rattle.std.proofs.lemmas.Bool.{or_cases, or_left, or_right, true≢false}
use Rattle.ov_types.specs.First.{same_name}
use Rattle.ov_types.specs.declared.rows.NodeId.{NodeId}
use Rattle.ov_types.specs.declared.rows.NodeRows.TheVariants as Rows
use Rattle.config_types.specs.declared.topology.Node.{Node}
use Rattle.schedule_script.specs.ConfigCheck.Finding.{node_named}
use Rattle.node_model.specs.Agent.{rows as agent_rows}
use Rattle.node_model.specs.Members.{Member}
use Rattle.node_model.specs.Tables.{rows as control_rows}
use Rattle.node_model.proofs.Members.{any_in, from_any, in_map}
use Rattle.machine_laws.specs.MachineModel.Events.{is_node, shown_of}
use Rattle.machine_laws.specs.MachineModel.Moments.{HasNumbers, HasSessions}
use Rattle.machine_laws.specs.MachineModel.Network.{MachineState}
use Rattle.machine_laws.specs.MachineModel.Session.{Configuration, Controller, Agent}
use Rattle.machine_laws.specs.MachineModel.Setup.{Name}
use Rattle.machine_laws.specs.Setups.{IsNamed}
use Rattle.machine_laws.proofs.MachineModel.Apart.{NamesApart}
use Rattle.machine_laws.proofs.MachineModel.Distinct.{same_false}
use Rattle.machine_laws.proofs.KindNames.{apart_names}
use Rattle.running_nodes.specs.Controls as control
use Rattle.running_nodes.specs.AgentNode.Core as agent
use Rattle.running_nodes.specs.Seats.{Controlling, Forwarding, Seat, Who, agent_plan, control_plan, name_of, role_of, seat, seat_named}
use Rattle.running_nodes.specs.Stands.{Seats}
use Rattle.running_nodes.specs.Steps.{shown_by}
use Rattle.running_laws.specs.Wiring.{ShowsAt}
use Rattle.running_laws.proofs.Agents.{computer_holds}
use Rattle.running_laws.proofs.PostEnds.{Ends, seat_ends}
use Rattle.running_laws.proofs.Going.{site_holds}
use Rattle.running_laws.proofs.Hearing.{computer_found}
use Rattle.running_laws.proofs.Parties.{by_node, computer_in, site_in}
use Rattle.running_laws.proofs.Seating.{ListsApart, root_at, seat_found, seat_is, seat_of, who_above}
use Rattle.running_laws.proofs.Sessions.{all_found}

computer_none : (ns : List Node) (name : Name) → ((c : Node) → Member c ns → c.name ≡ name → ⊥) → find (λ (n : Node). same_name n.name name) ns ≡ None
computer_none [] name h = refl
computer_none (c ∷ ns) name h = ap (λ b. cond b (Some c) (find (λ (n : Node). same_name n.name name) ns)) (same_false c.name name (h c (inl refl))) ∙ computer_none ns name (λ d m. h d (inr m))

computer_is : (ns : List Node) (name : Name) → is_some (find (λ (n : Node). same_name n.name name) ns) ≡ true → (c : Node) × Member c ns × (c.name ≡ name)
computer_is [] name e = absurd (true≢false (sym e))
computer_is (d ∷ ns) name e =
    elim (same_name d.name name) as (λ b. same_name d.name name ≡ b → is_some (cond b (Some d) (find (λ (n : Node). same_name n.name name) ns)) ≡ true → (c : Node) × Member c (d ∷ ns) × (c.name ≡ name)) [
      | true ↦ λ is _. (d, inl refl, (bytes_decides d.name name).0 is)
      | false ↦ λ _ e. let q = computer_is ns name e in (q.0, inr q.1, q.2)
    ] refl e

above_zero : (k : ℕ) → (k ≡ 0 → ⊥) → 0 < k
above_zero zero h = absurd (h refl)
above_zero (suc k) h = omega arith

zero_below : (k : ℕ) → (0 < k → ⊥) → k ≡ 0
zero_below zero h = refl
zero_below (suc k) h = absurd (h (omega arith))

-- of the seat of a control node, and of an agent's
shown_control : (n : Seat) (plan : _) → n.who ≡ Controlling plan → shown_by n ≡ Rows.Control (control_rows (control.holdings plan n.posts))
shown_control n plan e = ap (λ (v : Who). shown_by (record n { who = v })) e

shown_agent : (n : Seat) (plan : _) → n.who ≡ Forwarding plan → shown_by n ≡ Rows.Agent (agent_rows (agent.holdings n.posts))
shown_agent n plan e = ap (λ (v : Who). shown_by (record n { who = v })) e

module _ (w : MachineState) (named : IsNamed w.setup.topology) (numbers : HasNumbers w.setup) (listed : ListsApart w.setup) (seats : List Seat) (stands : Seats seats w) (has : HasSessions w) where
  names : NamesApart w.setup.topology
  names = apart_names w.setup.topology named.apart

  abbrev cs : List NodeId
  cs = w.setup.topology.controllers

  abbrev ns : List Node
  ns = w.setup.topology.nodes

  -- ---- nodes are found by their names
  site_none : (c : NodeId) → Member c cs → node_named w.setup.topology c.name ≡ None
  site_none c m = computer_none ns c.name (λ n k e. names.kinds_apart c.name n.name (in_map (λ (c : NodeId). c.name) c cs m) (in_map (λ (n : Node). n.name) n ns k) (sym e))

  abbrev IsANode : Who → Type 0
  IsANode v = is_node w (name_of v) ≡ true

  site_node : (c : NodeId) → Member c cs → IsANode (Controlling (control_plan w.setup c))
  site_node c m =
      or_left (list_any (λ (d : NodeId). same_name d.name c.name) cs) (is_some (node_named w.setup.topology c.name))
      (any_in (λ (d : NodeId). same_name d.name c.name) c cs m ((bytes_decides c.name c.name).1 refl))

  computer_node : (n : Node) → Member n ns → IsANode (Forwarding (agent_plan w.setup.topology n))
  computer_node n m =
      or_right (list_any (λ (d : NodeId). same_name d.name n.name) cs) (is_some (node_named w.setup.topology n.name))
      (ap (λ o. is_some o) (computer_found ns n names.computers_apart m))

  -- every seat above the first is of a node
  pub seats_are_nodes : (k : ℕ) → 0 < k → k < length seats → is_node w (name_of (seat seats k).who) ≡ true
  seats_are_nodes k above h = by_node w.setup named numbers IsANode site_node computer_node (seat seats k).who (who_above w.setup named numbers listed seats stands.who k above h)

  -- what is no node has no seat above the first
  pub no_node_above : (name : Name) → is_node w name ≡ false → (k : ℕ) → seat_named seats name ≡ Some k → k ≡ 0
  no_node_above name off k e =
      let q = seat_is w.setup named numbers listed seats stands.who name k e in
      zero_below k (λ above. true≢false (sym (seats_are_nodes k above q.0) ∙ ap (is_node w) q.1 ∙ off))

  -- ---- what each shows
  abbrev ShowsSomewhere : Name → Type 0
  ShowsSomewhere name = (k : ℕ) × ShowsAt seats w name k

  above_root : (k : ℕ) (v : Who) → (seat seats k).who ≡ v → (Configuration ≡ role_of v → ⊥) → 0 < k
  above_root k v e h = above_zero k (λ zero. h (ap role_of (sym (root_at w.setup named numbers listed seats stands.who)) ∙ ap (λ j. role_of (seat seats j).who) (sym zero) ∙ ap role_of e))

  site_shows : (c : NodeId) → Member c cs → ShowsSomewhere c.name
  site_shows c m =
      let plan = control_plan w.setup c in
      let q = seat_of w.setup named numbers listed seats stands.who (Controlling plan) (site_in w.setup named numbers c m) in
      let n = seat seats q.0 in
      let ends : Ends w (Controlling plan) n.posts = subst (λ v. Ends w v n.posts) q.2 (seat_ends w seats stands q.0 q.1) in (
        q.0,
        record {
          seat_is = subst (λ name. seat_named seats name ≡ Some q.0) (ap name_of q.2) (seat_found w.setup named numbers listed seats stands.who q.0 q.1);
          above = above_root q.0 (Controlling plan) q.2 (λ e. apart e);
          within = q.1;
          shows = ap (λ o. shown_of o w c.name) (site_none c m)
              ∙ ap (λ h. Rows.Control (control_rows h)) (site_holds w named numbers has (all_found w named numbers listed seats stands.who has) c m n.posts ends)
              ∙ sym (shown_control n plan q.2);
        },
      )
    where
      apart : Configuration ≡ Controller → ⊥
      apart e = cc

  computer_shows : (n : Node) → Member n ns → ShowsSomewhere n.name
  computer_shows c m =
      let plan = agent_plan w.setup.topology c in
      let q = seat_of w.setup named numbers listed seats stands.who (Forwarding plan) (computer_in w.setup named numbers c m) in
      let n = seat seats q.0 in
      let ends : Ends w (Forwarding plan) n.posts = subst (λ v. Ends w v n.posts) q.2 (seat_ends w seats stands q.0 q.1) in (
        q.0,
        record {
          seat_is = subst (λ name. seat_named seats name ≡ Some q.0) (ap name_of q.2) (seat_found w.setup named numbers listed seats stands.who q.0 q.1);
          above = above_root q.0 (Forwarding plan) q.2 (λ e. apart e);
          within = q.1;
          shows = ap (λ o. shown_of o w c.name) (computer_found ns c names.computers_apart m)
              ∙ ap (λ h. Rows.Agent (agent_rows h)) (computer_holds w named numbers listed seats stands has c m n.posts ends)
              ∙ sym (shown_agent n plan q.2);
        },
      )
    where
      apart : Configuration ≡ Agent → ⊥
      apart e = cc

  pub shows_at : (name : Name) → is_node w name ≡ true → ShowsSomewhere name
  shows_at name e =
      elim (or_cases (list_any (λ (c : NodeId). same_name c.name name) cs) (is_some (node_named w.setup.topology name)) e) as (λ _. ShowsSomewhere name) [
        | inl l ↦ let q = from_any (λ (c : NodeId). same_name c.name name) cs l in subst ShowsSomewhere ((bytes_decides q.0.name name).0 q.2) (site_shows q.0 q.1)
        | inr r ↦ let q = computer_is ns name r in subst ShowsSomewhere q.2 (computer_shows q.0 q.1)
      ]
