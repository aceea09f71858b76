-- What an edit moves at a moment can move.
use Rattle.std.specs.Prelude.{◌≡◌, ◌≢◌, ◌<◌, ◌≤◌, ◌+◌, ◌++◌, ℕ, zero, suc, List, [], ◌∷◌, length, map, find, slice_get, IsTrue}
use Rattle.std.specs.Prelude.{true, false, cond, not}
use Rattle.std.specs.declared.option.Option.{Option}
use Rattle.std.specs.declared.option.Option.TheVariants.{Some, None}
use Rattle.std.specs.Cmp.Lexicographic.{bytes_decides}
use Rattle.std.specs.List.{All, Contains, slice_index_or}
use Rattle.std.specs.Option.{option_map, unwrap_or}
use Rattle.std.proofs.Common.{refl, sym, ◌∙◌, ap, subst, arith, inl, inr, get_or}
use Rattle.std.proofs.lemmas.List.{length-append, length-map}
use Rattle.std.proofs.lemmas.Option.{same_Some}
use Rattle.std.proofs.lemmas.List.Elements.{All-contains}
use Rattle.ov_types.specs.First.{same_name}
use Rattle.ov_types.specs.declared.rows.NodeId.{NodeId}
use Rattle.config_check.specs.Edits.{edit_fault, edited, edited_config, edited_topology}
use Rattle.config_check.specs.Finding.{node_named}
use Rattle.config_check.specs.Rules.{controller_names}
use Rattle.config_check.proofs.Edited.{nodes_form_is_kept}
use Rattle.config_check.proofs.Validity.{form_of}
use Rattle.config_types.specs.Form.{has_edit_form, has_event_form, has_topology_form}
use Rattle.config_types.specs.declared.config.Config.{Config}
use Rattle.config_types.specs.declared.edit.Edit.{Edit}
use Rattle.config_types.specs.declared.event.Event.{Event}
use Rattle.config_types.specs.declared.event.Event.TheVariants as event
use Rattle.config_types.specs.declared.topology.Node.{Node}
use Rattle.config_types.specs.declared.topology.Topology.{Topology}
use Rattle.running_laws.specs.MachineLaws.Setups.{IsNamed}
use Rattle.running_laws.specs.MachineLaws.Headline.{IsWritten}
use Rattle.running_laws.proofs.MachineLaws.Written.{none_broken}
use Rattle.running_nodes.specs.MachineModel.Network.{MachineState, config}
use Rattle.running_nodes.specs.MachineModel.Session.{Agent, Configuration, Controller}
use Rattle.running_nodes.specs.MachineModel.Setup.{Move, Name, Setup, checked, listed_by, moves}
use Rattle.running_nodes.proofs.MachineModel.Changing.{MoverIs, Moves, renews}
use Rattle.node_model.specs.Members.{Member}
use Rattle.node_model.proofs.Members.{contains_of, from_filter, from_map, none_some}
use Rattle.running_nodes.specs.Controls.{Controls, first_agent}
use Rattle.running_nodes.specs.Seats.{Who, Controlling, Forwarding, Seat, agent_plan, control_plan}
use Rattle.running_nodes.specs.Seats.{name_of, name_there, names_of, no_node, nobody, other, others_of, place_at, place_of, role_of, seat}
use Rattle.running_nodes.specs.Seats.{seat_named, session_with, whos}
use Rattle.running_nodes.specs.declared.place.SessionPlace.{SessionPlace}
use Rattle.running_nodes.specs.Stands.{StandsFor}
use Rattle.running_nodes.specs.Fresh.{IsSetUp}
use Rattle.running_nodes.proofs.SetUp.{set_up}
use Rattle.running_laws.proofs.FirstPlaces.{member_of_at}
use Rattle.running_laws.proofs.Lists.{who_at}
use Rattle.running_laws.proofs.MovedFrom.{config_off, site_off}
use Rattle.running_laws.proofs.Named.{AreNodes, are_nodes}
use Rattle.running_laws.proofs.VacantNames.{named_at}
use Rattle.running_laws.specs.Wiring.{HasNumbers, IsPlace, name_at, other_at}
use Rattle.running_laws.proofs.Parties.{site_in}
use Rattle.running_laws.proofs.Seating.{ListsApart, seat_found, seat_of}
use Rattle.running_laws.proofs.Written.{place_found, written_apart, written_named}
use Rattle.running_laws.specs.Moments.{IsMoment}
use Rattle.running_laws.proofs.Moments.{moment_numbers, moment_written}
use Rattle.net_machine.specs.Moving.{AreFound, CanCome, CanHappen, CanLeave, CanMoveIf, HasAgentsBehind, HasControl, HasControls, HasRoom}
use Rattle.net_machine.specs.Moving.{control_at, control_name}
use Rattle.net_machine.proofs.Coming.{control_within, get_past, up_to}
use Rattle.net_machine.proofs.Forms.{edit_form}
use Rattle.net_machine.proofs.Made.{same_controllers}
use Rattle.net_machine.proofs.Room.{few_filtered, moment_few}

-- ---- the nodes of a setup are in order
module _ (x : Setup) where
  abbrev controls : List NodeId → List Who
  controls cs = map (λ c. Controlling (control_plan x c)) cs

  abbrev agents : List Node → List Who
  agents ns = map (λ n. Forwarding (agent_plan x.topology n)) ns

  agents_none : (ns : List Node) (k : ℕ) → control_name (slice_index_or (agents ns) k nobody.who) ≡ None
  agents_none [] k = refl
  agents_none (n ∷ ns) zero = refl
  agents_none (n ∷ ns) (suc k) = agents_none ns k

  controls_at : (cs : List NodeId) (ns : List Node) (k : ℕ)
      → control_name (slice_index_or (controls cs ++ agents ns) k nobody.who)
      ≡ option_map (λ (c : NodeId). c.name) (slice_get cs k)
  controls_at [] ns k = agents_none ns k
  controls_at (c ∷ cs) ns zero = refl
  controls_at (c ∷ cs) ns (suc k) = controls_at cs ns k

  controls_found : (cs : List NodeId) (ns : List Node) (k : ℕ) (name : Name)
      → control_name (slice_index_or (controls cs ++ agents ns) k nobody.who) ≡ Some name
      → (c : NodeId) × Member c cs × (slice_index_or (controls cs ++ agents ns) k nobody.who ≡ Controlling (control_plan x c))
  controls_found [] ns k name is = absurd (none_some name (sym (agents_none ns k) ∙ is))
  controls_found (c ∷ cs) ns zero name is = (c, inl refl, refl)
  controls_found (c ∷ cs) ns (suc k) name is =
      let q = controls_found cs ns k name is in (q.0, inr q.1, q.2)

  role_behind : (cs : List NodeId) (ns : List Node) (j : ℕ)
      → role_of (slice_index_or (controls cs ++ agents ns) j nobody.who) ≡ Agent → length cs ≤ j
  role_behind [] ns j e = omega arith
  role_behind (c ∷ cs) ns zero e = absurd (control_agent e)
    where
      control_agent : Controller ≡ Agent → ⊥
      control_agent e = cc
  role_behind (c ∷ cs) ns (suc j) e = let h = role_behind cs ns j e in omega (arith, h)

  module _ (seats : List Seat) (are : map (λ (n : Seat). n.who) seats ≡ whos x) where
    there : (k : ℕ) → (seat seats k).who ≡ slice_index_or (whos x) k nobody.who
    there k = who_at seats k ∙ ap (λ ws. slice_index_or ws k nobody.who) are

    control_found : (k : ℕ) (name : Name) → control_name (seat seats k).who ≡ Some name
        → (c : NodeId) × Member c x.topology.controllers × ((seat seats k).who ≡ Controlling (control_plan x c))
    control_found zero name is = absurd (none_some name (sym (ap control_name (there 0)) ∙ is))
    control_found (suc k) name is =
        let q = controls_found x.topology.controllers x.topology.nodes k name (sym (ap control_name (there (suc k))) ∙ is) in
        (q.0, q.1, there (suc k) ∙ q.2)

    pub has_controls : HasControls x.topology seats
    has_controls zero = ap control_name (there 0)
    has_controls (suc k) = ap control_name (there (suc k)) ∙ controls_at x.topology.controllers x.topology.nodes k

    pub agents_behind : HasAgentsBehind seats
    agents_behind zero k e below = absurd (not_first (sym (ap role_of (there 0)) ∙ e))
      where
        not_first : Configuration ≡ Agent → ⊥
        not_first e = cc
    agents_behind (suc j) zero e below = absurd (omega (arith, below))
    agents_behind (suc j) (suc k) e below =
        let past = role_behind x.topology.controllers x.topology.nodes j (sym (ap role_of (there (suc j))) ∙ e) in
        has_controls (suc k)
        ∙ ap (option_map (λ (c : NodeId). c.name)) (get_past x.topology.controllers k (omega (arith, past, below)))

-- ---- in lists
found_node : (ns : List Node) (name : Name) (r : Node) → find (λ (n : Node). same_name n.name name) ns ≡ Some r
    → Member r ns × (r.name ≡ name)
found_node [] name r e = cc
found_node (n ∷ ns) name r e =
    elim (same_name n.name name) as (λ b. same_name n.name name ≡ b
    → cond b (Some n) (find (λ (n : Node). same_name n.name name) ns) ≡ Some r → Member r (n ∷ ns) × (r.name ≡ name)) [
      | true ↦ λ is e.
          let same = same_Some n r e in (inl same, ap (λ (m : Node). m.name) (sym same) ∙ (bytes_decides n.name name).0 is)
      | false ↦ λ is e. let q = found_node ns name r e in (inr q.0, q.1)
    ] refl e

index_within : (os : List (Option Name)) (i : ℕ) (name : Name) → slice_index_or os i None ≡ Some name → i < length os
index_within [] i name e = absurd (none_some name e)
index_within (o ∷ os) zero name e = omega arith
index_within (o ∷ os) (suc i) name e = let h = index_within os i name e in omega (arith, h)

abbrev at_session : ℕ → ℕ → SessionPlace
at_session k i = record { node = k; session = i }

session_there : (k : ℕ) (o : Option ℕ) (i : ℕ) → option_map (at_session k) o ≡ Some (at_session k i) → o ≡ Some i
session_there k None i e = cc
session_there k (Some j) i e = ap (λ (p : SessionPlace). Some p.session) (same_Some (at_session k j) (at_session k i) e)

-- ---- the ends of a control node
abbrev controls_in : Controls → Who → Controls
controls_in other (Controlling c) = c
controls_in other who = other

-- what is neither with the configuration node nor with another control node is behind those
behind : (c : Controls) (name : Name) (i : ℕ) → slice_index_or (others_of (Controlling c)) i None ≡ Some name → config ≢ name
    → ((d : NodeId) → Member d c.peers → d.name ≢ name) → first_agent c ≤ i
behind c name zero e off peers_off = absurd (off (same_Some config name e))
behind c name (suc j) e off peers_off =
    elim (up_to (length c.peers) j) as (λ _. first_agent c ≤ suc j) [
      | inl h ↦ omega (arith, h)
      | inr h ↦ absurd (peers_off (slice_index_or c.peers j no_node) (member_of_at c.peers j no_node h)
          (same_Some (slice_index_or c.peers j no_node).name name (sym (named_at c.peers (map name_there c.agents) j h) ∙ e)))
    ]

-- ---- at a moment
module _ (w : MachineState) (m : IsMoment w) (seats : List Seat) (stands : StandsFor seats w) where
  written : IsWritten w.setup
  written = moment_written w m

  named : IsNamed w.setup.topology
  named = written_named w.setup written

  numbers : HasNumbers w.setup
  numbers = moment_numbers w m

  listed : ListsApart w.setup
  listed = written_apart w.setup written

  abbrev are : map (λ (n : Seat). n.who) seats ≡ whos w.setup
  are = stands.seats_are.who

  -- a session is found by the name at its other end
  found_here : (k : ℕ) → k < length seats → (i : ℕ) (name : Name) → other (seat seats k) i ≡ Some name
      → session_with (seat seats k) name ≡ Some i
  found_here k less i name e =
      let p : SessionPlace = record { node = k; session = i } in
      let named_there : other_at seats p ≡ name = ap (λ o. unwrap_or o []) e in
      let there : IsPlace seats p = record {
        node = less;
        session = index_within (others_of (seat seats k).who) i name e;
        somebody = e ∙ ap (λ n. Some n) (sym named_there);
      } in
      let is : place_of seats (name_at seats p) name ≡ Some p =
      subst (λ b. place_of seats (name_at seats p) b ≡ Some p) named_there
      (place_found w.setup written numbers seats are p there) in
      let at : seat_named seats (name_at seats p) ≡ Some k = seat_found w.setup named numbers listed seats are k less in
      session_there k (session_with (seat seats k) name) i (sym (ap (place_at seats name) at) ∙ is)

  -- each control node is found by its name
  all_found : AreFound seats
  all_found k c is =
      let q = control_found w.setup seats are k c is in
      let name : name_of (seat seats k).who ≡ c = ap name_of q.2 ∙ same_Some q.0.name c (sym (ap control_name q.2) ∙ is) in
      ap (seat_named seats) (sym name) ∙ seat_found w.setup named numbers listed seats are k (control_within seats k c is)

  -- the control nodes that a compute node lists are there
  listed_control : (r : Node) → Member r w.setup.topology.nodes → (c : Name) → Member c r.controllers → HasControl seats c
  listed_control r i c j =
      let q = from_map (λ (k : NodeId). k.name) c w.setup.topology.controllers (named.listed r c i j) in
      let at = seat_of w.setup named numbers listed seats are (Controlling (control_plan w.setup q.0))
      (site_in w.setup named numbers q.0 q.1) in
      (at.0, ap control_name at.2 ∙ ap Some q.2)

  all_listed : (name : Name) (o : Option Node) → node_named w.setup.topology name ≡ o → All (HasControl seats) (listed_by o)
  all_listed name None is = λ k d below. absurd (omega (arith, below))
  all_listed name (Some r) is = λ k d below.
      listed_control r (found_node w.setup.topology.nodes name r is).0 (get_or r.controllers k d)
      (member_of_at r.controllers k d below)

  -- ---- the nodes are few
  made_up : IsSetUp w.setup.topology
  made_up = set_up w.setup.topology w.setup.config written.topology written.valid

  count : length seats ≡ suc (length w.setup.topology.controllers + length w.setup.topology.nodes)
  count =
      sym (length-map seats (λ (n : Seat). n.who)) ∙ ap (λ ws. length ws) are
      ∙ ap suc (length-append (controls w.setup w.setup.topology.controllers) (agents w.setup w.setup.topology.nodes)
      ∙ (λ i. length-map w.setup.topology.controllers (λ c. Controlling (control_plan w.setup c)) i
      + length-map w.setup.topology.nodes (λ n. Forwarding (agent_plan w.setup.topology n)) i))

  -- a control node's seat is within, and its node is one of the topology
  has_room : HasRoom seats
  has_room k name is =
      let q = control_found w.setup seats are k name is in
      let plan : Controls = control_plan w.setup q.0 in
      let posts = (stands.seats_are.long k (control_within seats k name is)).posts in
      let others : length (others_of (seat seats k).who)
      ≡ suc (length (names_of plan.peers ++ map name_there plan.agents)) = ap (λ v. length (others_of v)) q.2 in
      let parts = length-append (names_of plan.peers) (map name_there plan.agents) in
      let peers : length (names_of plan.peers) ≡ length plan.peers =
      length-map plan.peers (λ (n : NodeId). Some n.name) in
      let agents = length-map plan.agents name_there in
      let few_peers : length plan.peers ≤ length w.setup.topology.controllers =
      few_filtered (λ (d : NodeId). not (same_name d.name q.0.name)) w.setup.topology.controllers in
      let few_controls = made_up.controllers in
      let few_agents : length plan.agents ≤ 64 = moment_few w m q.0 q.1 in
      omega (arith, posts, others, parts, peers, agents, few_peers, few_controls, few_agents)

  same_control : (d : Edit) (k : ℕ) → control_at w.setup.topology k ≡ control_at (edited_topology d w.setup.topology) k
  same_control d zero = refl
  same_control d (suc i) =
      ap (λ (cs : List NodeId). option_map (λ (c : NodeId). c.name) (slice_get cs i)) (sym (same_controllers d w.setup.topology))

  module _ (d : Edit) (form : IsTrue (has_edit_form d)) (none : edit_fault (checked w.setup) d ≡ None) where
    abbrev then : Topology
    then = edited_topology d w.setup.topology

    abbrev config_then : Config
    config_then = edited_config d w.setup.config

    form_then : IsTrue (has_topology_form then)
    form_then =
        form_of then config_then (nodes_form_is_kept d w.setup.topology form written.topology) (none_broken w.setup d none)

    made_up_then : IsSetUp then
    made_up_then = set_up then config_then form_then (none_broken w.setup d none)

    nodes_then : AreNodes then
    nodes_then = are_nodes (record w.setup { topology = then; config = config_then }) form_then (none_broken w.setup d none)

    module _ (move : Move) (is : moves d w.setup.topology ≡ Some move) where
      mover : Moves (Some move) w.setup.topology then
      mover = subst (λ (o : Option Move). Moves o w.setup.topology then) is (renews (checked w.setup) d none).mover

      left_there : All (HasControl seats) move.left
      left_there =
          subst (All (HasControl seats)) (sym mover.0)
          (all_listed move.name (node_named w.setup.topology move.name) refl)

      -- no control node, nor the configuration node, has its name
      nodes_before : AreNodes w.setup.topology
      nodes_before = are_nodes w.setup written.topology written.valid

      same_sites : then.controllers ≡ w.setup.topology.controllers
      same_sites = same_controllers d w.setup.topology

      leaves_there : (k : ℕ) → CanLeave move.name (seat seats k)
      leaves_there k c who i e =
          let at : control_name (seat seats k).who ≡ Some c.me.name = ap control_name who in
          let q = control_found w.setup seats are k c.me.name at in
          let within = control_within seats k c.me.name at in
          let same : c ≡ control_plan w.setup q.0 = ap (controls_in c) (sym who ∙ q.2) in (
            behind c move.name i (ap (λ v. slice_index_or (others_of v) i None) (sym who) ∙ e)
                (config_off move.name move.now w.setup then nodes_before nodes_then same_sites mover.1)
                (λ p m. site_off move.name move.now w.setup then nodes_before nodes_then same_sites mover.1 p
                (from_filter (λ (d : NodeId). not (same_name d.name q.0.name)) p w.setup.topology.controllers
                (subst (λ (c : Controls). Member p c.peers) same m)).0),
            λ j f. same_Some j i (sym (found_here k within j move.name f) ∙ found_here k within i move.name e),
          )

      comes_there : (n : Node) → move.now ≡ Some n → CanCome then n
      comes_there n at =
          let here = subst (λ (o : Option Node). MoverIs move.name o w.setup.topology then) at mover.1 in
          let into = contains_of then.nodes n (found_node then.nodes move.name n here.1).0 in
          record {
            few = All-contains (λ (n : Node). length n.controllers ≤ 2) then.nodes n made_up_then.few into;
            listed = All-contains (λ (n : Node). All (Contains (controller_names then)) n.controllers) then.nodes n
                made_up_then.listed into;
          }

    can_move : (o : Option Move) → moves d w.setup.topology ≡ o
        → CanMoveIf (edited d (checked w.setup)).topology o seats
    can_move None is = tt
    can_move (Some move) is = record {
      left = left_there move is;
      leaves = leaves_there move is;
      found = all_found;
      controls = λ k. has_controls w.setup seats are k ∙ same_control d k;
      agents = agents_behind w.setup seats are;
      few = made_up_then.controllers;
      seats_few = (let c = count in let a = made_up.controllers in let b = made_up.nodes in omega (arith, c, a, b));
      room = has_room;
      comes = comes_there move is;
    }

pub can_happen : (w : MachineState) → IsMoment w → (seats : List Seat) → StandsFor seats w → (e : Event)
    → IsTrue (has_event_form e) → CanHappen (checked w.setup) e seats
can_happen w m seats stands (event.Edit d) form = λ none.
    can_move w m seats stands d (edit_form d form) none (moves d w.setup.topology) refl
can_happen w m seats stands (event.Deliver from to n) form = tt
can_happen w m seats stands (event.DeliverOctets from to n) form = tt
can_happen w m seats stands (event.Lose a b) form = tt
can_happen w m seats stands (event.Connect a b) form = tt
can_happen w m seats stands (event.Restart name) form = tt
can_happen w m seats stands event.Round form = tt
can_happen w m seats stands event.Settle form = tt
can_happen w m seats stands (event.Show name) form = tt
can_happen w m seats stands (event.Trace p) form = tt
can_happen w m seats stands (event.Break from to n) form = tt
