-- The agents' seats forward by what the machine's agents forward by, in the order of the topology.
use Rattle.std.specs.List.{AllByRecursion, cons_option}
use Rattle.std.specs.Prelude.{List, map, [], ◌++◌, ◌∷◌, ◌≡◌}
use Rattle.std.specs.declared.option.Option.TheVariants.{Some}
use Rattle.std.specs.declared.option.Option.{Option}
use Rattle.std.proofs.Common.{ap, inl, inr, refl, subst, sym, ◌∙◌}
use Rattle.ov_types.specs.declared.rows.NodeId.{NodeId}
use Rattle.route_targets.specs.Forwarding.{Forwarder}
use Rattle.config_types.specs.declared.topology.Node.{Node}
use Rattle.node_model.specs.Agent.{rows as agent_rows}
use Rattle.node_model.specs.Members.{Member}
use Rattle.machine_laws.specs.MachineModel.Events as events
use Rattle.machine_laws.specs.MachineModel.Events.{forwarders}
use Rattle.machine_laws.specs.MachineModel.Moments.{HasNumbers, HasSessions}
use Rattle.machine_laws.specs.MachineModel.Network.{MachineState}
use Rattle.machine_laws.specs.MachineModel.Setup.{checked}
use Rattle.machine_laws.specs.Setups.{IsNamed}
use Rattle.running_nodes.specs.Seats.{Configuring, Controlling, Forwarding, Seat, Who, agent_plan, control_plan, nobody}
use Rattle.running_nodes.specs.Stands.{Seats}
use Rattle.running_nodes.specs.Steps.{forwarder_of, forwarders_of}
use Rattle.running_laws.proofs.Agents.{computer_holds}
use Rattle.running_laws.proofs.PostEnds.{Ends, seat_ends}
use Rattle.running_laws.proofs.FirstPlaces.{all_of, at_of_member, first_is, rest_is, some_nothing}
use Rattle.running_laws.proofs.Seating.{ListsApart}

forwards_as : (n : Seat) (v : Who) → n.who ≡ v → forwarder_of n ≡ forwarder_of (record n { who = v })
forwards_as n v e = ap (λ (v : Who). forwarder_of (record n { who = v })) e

module _ (w : MachineState) (named : IsNamed w.setup.topology) (numbers : HasNumbers w.setup) (listed : ListsApart w.setup) (seats : List Seat) (stands : Seats seats w) (has : HasSessions w) where
  abbrev machine_forwarder : Node → Forwarder
  machine_forwarder n = record { address = n.address; rows = agent_rows (events.agent_rows w n.name) }

  abbrev computer_who : Node → Who
  computer_who n = Forwarding (agent_plan w.setup.topology n)

  abbrev site_who : NodeId → Who
  site_who c = Controlling (control_plan w.setup c)

  abbrev HasEnds : Seat → Type 0
  HasEnds n = Ends w n.who n.posts

  abbrev who_of : Seat → Who
  who_of n = n.who

  computers_forward : (ss : List Seat) (ms : List Node) → map who_of ss ≡ map computer_who ms → ((n : Node) → Member n ms → Member n w.setup.topology.nodes) → AllByRecursion HasEnds ss → forwarders_of ss ≡ map machine_forwarder ms
  computers_forward [] [] e h ends = refl
  computers_forward [] (m ∷ ms) e h ends = absurd (some_nothing (computer_who m) (map computer_who ms) (sym e))
  computers_forward (n ∷ ss) [] e h ends = absurd (some_nothing n.who (map who_of ss) e)
  computers_forward (n ∷ ss) (m ∷ ms) e h ends =
      let is : n.who ≡ computer_who m = first_is n.who (computer_who m) (map who_of ss) (map computer_who ms) e in
      let held = computer_holds w named numbers listed seats stands has m (h m (inl refl)) n.posts (subst (λ v. Ends w v n.posts) is ends.0) in
      let first : forwarder_of n ≡ Some (machine_forwarder m) = forwards_as n (computer_who m) is ∙ (λ i. Some (record { address = m.address; rows = agent_rows (sym held i) })) in
      ap (λ (o : Option Forwarder). cons_option o (forwarders_of ss)) first
      ∙ ap (λ (fs : List Forwarder). machine_forwarder m ∷ fs) (computers_forward ss ms (rest_is n.who (computer_who m) (map who_of ss) (map computer_who ms) e) (λ k i. h k (inr i)) ends.1)

  -- control nodes do not forward
  nodes_forward : (ss : List Seat) (cs : List NodeId) (ms : List Node) → map who_of ss ≡ map site_who cs ++ map computer_who ms → ((n : Node) → Member n ms → Member n w.setup.topology.nodes) → AllByRecursion HasEnds ss → forwarders_of ss ≡ map machine_forwarder ms
  nodes_forward ss [] ms e h ends = computers_forward ss ms e h ends
  nodes_forward [] (c ∷ cs) ms e h ends = absurd (some_nothing (site_who c) (map site_who cs ++ map computer_who ms) (sym e))
  nodes_forward (n ∷ ss) (c ∷ cs) ms e h ends =
      let later = map site_who cs ++ map computer_who ms in
      ap (λ (o : Option Forwarder). cons_option o (forwarders_of ss)) (forwards_as n (site_who c) (first_is n.who (site_who c) (map who_of ss) later e))
      ∙ nodes_forward ss cs ms (rest_is n.who (site_who c) (map who_of ss) later e) h ends.1

  all_forward : (ss : List Seat) → map who_of ss ≡ Configuring (checked w.setup) ∷ (map site_who w.setup.topology.controllers ++ map computer_who w.setup.topology.nodes) → AllByRecursion HasEnds ss → forwarders_of ss ≡ forwarders w
  all_forward [] e ends = absurd (some_nothing (Configuring (checked w.setup)) (map site_who w.setup.topology.controllers ++ map computer_who w.setup.topology.nodes) (sym e))
  all_forward (n ∷ ss) e ends =
      let later = map site_who w.setup.topology.controllers ++ map computer_who w.setup.topology.nodes in
      ap (λ (o : Option Forwarder). cons_option o (forwarders_of ss)) (forwards_as n (Configuring (checked w.setup)) (first_is n.who (Configuring (checked w.setup)) (map who_of ss) later e))
      ∙ nodes_forward ss w.setup.topology.controllers w.setup.topology.nodes (rest_is n.who (Configuring (checked w.setup)) (map who_of ss) later e) (λ n m. m) ends.1

  pub forwarders_are : forwarders w ≡ forwarders_of seats
  forwarders_are = sym (all_forward seats stands.who (all_of HasEnds seats ends))
    where
      ends : (n : Seat) → Member n seats → HasEnds n
      ends n m = let q = at_of_member n seats nobody m in subst HasEnds q.2 (seat_ends w seats stands q.0 q.1)
