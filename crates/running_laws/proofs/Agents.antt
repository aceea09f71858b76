-- What an agent goes by, and each node at its place.
use Rattle.std.specs.Prelude.{List, false, length, slice_index_or, [], ◌<◌, ◌≡◌}
use Rattle.std.specs.declared.option.Option.TheVariants.{None, Some}
use Rattle.std.specs.declared.option.Option.{Option}
use Rattle.std.proofs.Common.{ap, refl, subst, sym, ◌∙◌}
use Rattle.std.proofs.lemmas.List.{append-nil}
use Rattle.ov_types.specs.declared.rows.NodeId.{NodeId}
use Rattle.config_types.specs.declared.topology.Node.{Node}
use Rattle.node_model.specs.Agent.{wanted as wanted_by}
use Rattle.node_model.specs.Members.{Member}
use Rattle.node_model.specs.Step.{Post, nothing, post}
use Rattle.machine_laws.specs.MachineModel.Moments.{HasNumbers, HasSessions}
use Rattle.machine_laws.specs.MachineModel.Network.{MachineState, agent_holdings, views_of}
use Rattle.machine_laws.specs.MachineModel.Session.{Carries, Session, are_peers, is_peering, is_up_phase}
use Rattle.machine_laws.specs.MachineModel.Setup.{Name}
use Rattle.machine_laws.specs.MachineModel.Steps.{session_of}
use Rattle.machine_laws.specs.Setups.{IsNamed}
use Rattle.machine_laws.proofs.KindNames.{apart_names}
use Rattle.running_nodes.specs.AgentNode.Core as agent
use Rattle.running_nodes.specs.Seats.{Forwarding, Seat, agent_plan, controller_named, names_of, no_node, seat}
use Rattle.running_nodes.specs.Stands.{Seats, octets_of}
use Rattle.running_nodes.specs.declared.place.SessionPlace.{SessionPlace}
use Rattle.running_laws.specs.Wiring.{GoesBy, IsPlace, name_at, other_at}
use Rattle.running_laws.proofs.PostEnds.{Ends, IsAt, end_at, seat_ends}
use Rattle.running_laws.proofs.Going.{GoesWell, agent_sends, near_role, root_goes, sends, site_goes, wanted_near}
use Rattle.running_laws.proofs.Hearing.{HearsAt, agent_holds, heard_of, up_same}
use Rattle.running_laws.proofs.FirstPlaces.{at_map, mapped_length, zip_from}
use Rattle.running_laws.proofs.Parties.{by_kind, plan_names}
use Rattle.running_laws.proofs.Seating.{ListsApart, party_at, party_there, who_in}
use Rattle.running_laws.proofs.Sessions.{all_found, names_differ, nodes_at}
use Rattle.running_laws.proofs.VacantNames.{named_at}

module _ (w : MachineState) (named : IsNamed w.setup.topology) (numbers : HasNumbers w.setup) (listed : ListsApart w.setup) (seats : List Seat) (stands : Seats seats w) (has : HasSessions w) where
  -- ---- agents
  pub computer_holds : (n : Node) → Member n w.setup.topology.nodes → (posts : List Post) → Ends w (Forwarding (agent_plan w.setup.topology n)) posts → agent_holdings w.setup n.name (views_of n.name w.sessions) ≡ agent.holdings posts
  computer_holds n m posts h =
      let v = Forwarding (agent_plan w.setup.topology n) in
      let vs = views_of n.name w.sessions in
      let heads = (agent_plan w.setup.topology n).controllers in
      let long : length heads ≡ length posts = mapped_length (λ (c : NodeId). Some c.name) heads (names_of heads) refl ∙ sym h.long in
      let many : length n.controllers ≡ length posts = mapped_length (controller_named w.setup.topology) n.controllers heads refl ∙ long in
      agent_holds w.setup n vs posts (apart_names w.setup.topology named.apart).computers_apart m
      (zip_from (HearsAt vs) n.controllers posts [] nothing many (λ j less.
      let b = (slice_index_or heads j no_node).name in
      let there : slice_index_or (names_of heads) j None ≡ Some b =
      ap (λ (os : List (Option Name)). slice_index_or os j None) (sym (append-nil (names_of heads))) ∙ named_at heads [] j (subst (λ k. j < k) (sym long) less) in
      let q = end_at w v posts h j b there in
      let hears : HearsAt vs b (post posts j) =
      heard_of n.name b (names_differ w named numbers listed seats stands.who has n.name b q.0 q.1) w.sessions q.0 q.1
      ∙ (λ k. record { is_up = (ap is_up_phase q.2.0 ∙ up_same (post posts j).phase) k; map = q.2.1 k }) in
      let name : b ≡ slice_index_or n.controllers j [] =
      sym (at_map (λ (c : NodeId). c.name) heads j no_node) ∙ ap (λ (ns : List Name). slice_index_or ns j []) (plan_names w.setup named numbers n m) in
      subst (λ (b : Name). HearsAt vs b (post posts j)) name hears))

  computer_goes : (n : Node) → Member n w.setup.topology.nodes → GoesWell w (Forwarding (agent_plan w.setup.topology n))
  computer_goes n m posts h i s at =
      let v = Forwarding (agent_plan w.setup.topology n) in
      let vs = views_of n.name w.sessions in
      let name : s.near.name ≡ n.name = ap (λ p. p.0.0) at.nodes_are in
      let apart : is_peering s ≡ false = ap (λ r. are_peers r s.far.role) (near_role w v posts h i s at) in
      record {
        wanted = wanted_near w v posts h i s at ∙ ap (λ name. wanted_by (agent_holdings w.setup name vs)) name ∙ ap wanted_by (computer_holds n m posts h);
        may_send = sends w v posts h i s at false apart ∙ agent_sends (post posts i).phase;
        told = λ c. ap (λ b. octets_of v b (Carries c)) apart;
      }

  -- ---- each place
  pub goes_by : (p : SessionPlace) → IsPlace seats p → (s : Session) → session_of w (name_at seats p) (other_at seats p) ≡ Some s → GoesBy seats w p s
  goes_by p h s e =
      let n = seat seats p.node in
      let party = party_there w.setup named numbers listed seats stands.who p h in
      let at : IsAt w n.who p.session s = record {
        far = party_at w.setup named numbers listed seats stands.who p;
        party = party.0;
        there = h.somebody ∙ ap (λ (b : Name). Some b) (sym party.1);
        found = subst (λ (b : Name). session_of w (name_at seats p) b ≡ Some s) (sym party.1) e;
        nodes_are = nodes_at w named numbers listed seats stands.who has p h s e;
      } in
      let found = all_found w named numbers listed seats stands.who has in
      let g = by_kind w.setup named numbers (GoesWell w) (root_goes w) (site_goes w named numbers has found) computer_goes n.who (who_in w.setup named numbers listed seats stands.who p.node h.node) n.posts (seat_ends w seats stands p.node h.node) p.session s at in
      record { wanted = g.wanted; may_send = g.may_send; told = g.told }
