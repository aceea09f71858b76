-- The ways of a packet: in the instance of its network, and along a use in either direction.
use Rattle.std.specs.List.{Contains}
use Rattle.std.specs.Prelude.{List, Some, false, length, true, ℕ, [], ◌+◌, ◌++◌, ◌<◌, ◌∷◌, ◌≡◌, ◌≢◌, ◌≤◌}
use Rattle.std.proofs.Common.{ap, arith, inl, inr, refl, subst, sym, ◌∙◌}
use Rattle.std.proofs.lemmas.Bool.{true≢false}
use Rattle.std.proofs.lemmas.Option.{same_Some}
use Rattle.ov_types.specs.Prefix.{Block, contains}
use Rattle.ov_types.proofs.FirstLemmas.{any_of}
use Rattle.ov_types.specs.declared.numbers.InstanceId.{InstanceId}
use Rattle.ov_types.specs.declared.numbers.Label.{Label as LabelNo}
use Rattle.ov_types.specs.declared.numbers.PortNo.{PortNo}
use Rattle.ov_types.specs.declared.numbers.ServiceNo.{ServiceNo}
use Rattle.ov_types.specs.declared.prefix.Addr.{Addr}
use Rattle.ov_types.specs.declared.rows.Attached.TheVariants.{Circuit, Port}
use Rattle.ov_types.specs.declared.rows.Attached.{Attached}
use Rattle.ov_types.specs.declared.rows.Entry.{Entry as RouteEntry}
use Rattle.route_targets.specs.Forwarding.{Forwarder, attached, looked_up}
use Rattle.route_targets.specs.Numbers.{circuit_label_of, hop_instance_of, left_circuit_of, port_label_of, right_circuit_of}
use Rattle.config_types.specs.declared.config.Config.{Config}
use Rattle.config_types.specs.declared.config.Network.{Network}
use Rattle.schedule_script.specs.Ties.{AreNear, Ties}
use Rattle.transform_model.proofs.Blocks.{Holds, not_circuit}
use Rattle.transform_model.proofs.Prefixes.{port_number}
use Rattle.node_laws.specs.NodeModel.Members.{Member}
use Rattle.node_laws.specs.NodeModel.Uses.{is_hop}
use Rattle.node_laws.proofs.NodeModel.Objects.{is_hop-hop}
use Rattle.machine_laws.specs.Compiled.{circuit_prefix}
use Rattle.machine_laws.specs.Relating.{StandsIn}
use Rattle.machine_laws.specs.Stood.{ComeFrom, InSome}
use Rattle.machine_laws.specs.Tied.{IsRowLabel}
use Rattle.machine_laws.proofs.Agents.{IsTiedForwarder}
use Rattle.machine_laws.proofs.Found.{attached_in, never_both, same_circuit, same_port}
use Rattle.machine_moment_laws.specs.Permission.{LayInAlone}
use Rattle.machine_moment_laws.proofs.AgentsStood.{ForwardsBySoFar}
use Rattle.machine_moment_laws.proofs.Context.{lies_in, port_in, port_lies_in, port_stands, use_ends}
use Rattle.machine_moment_laws.proofs.Hops.{HopRow, IsServed, WasUsed, behind_left, behind_right, hop_row, served_left, served_right, short}
use Rattle.machine_moment_laws.proofs.Hops.HopRow.{at_left, at_right, to_left, to_right}
use Rattle.machine_moment_laws.proofs.ImportsStood.{own_port}
use Rattle.machine_moment_laws.proofs.Lookups.{found}
use Rattle.machine_moment_laws.proofs.SoFar.{IsPortOf, IsRowOf, IsServiceAt, IsSoFar}
use Rattle.machine_moment_laws.proofs.SoFar.IsRowOf.{left_end, near, own, right_end}
use Rattle.machine_moment_laws.proofs.Walks.{AreKept, Follows}

module _ (t : Ties) (cs : List Config) (come : ComeFrom t cs) (from to : InstanceId) (d : Addr) (alone : LayInAlone cs from to d) (agents : List Forwarder) (tied : (f : Forwarder) → Member f agents → IsTiedForwarder t f) (so_far : (f : Forwarder) → Member f agents → ForwardsBySoFar t cs f) where
  -- a port stood in the second network
  abbrev pub Stands : PortNo → Type 0
  Stands q = InSome cs (λ c. StandsIn c q to)

  -- ---- the row that a lookup finds
  pub record IsRowFound (i : InstanceId) (label : LabelNo) : Type 0 where
    pub prefix : Block
    pub holds : contains prefix d.0 ≡ true
    pub row : IsRowOf t cs i prefix label
    pub label_tied : IsRowLabel t i label

  row_found : (f : Forwarder) → Member f agents → (i : InstanceId) (hop : RouteEntry) → looked_up f.rows i d.0 ≡ Some hop → IsRowFound i hop.label
  row_found f m i hop e =
      let r = found f.rows i d.0 hop e in
      record {
        prefix = r.route.0.1;
        holds = r.holds;
        row = subst (λ (n : InstanceId). IsRowOf t cs n r.route.0.1 hop.label) r.instance (subst (λ (h : RouteEntry). IsRowOf t cs r.route.0.0 r.route.0.1 h.label) r.hop_is ((so_far f m).routes r.route r.there));
        label_tied = subst (λ (n : InstanceId). IsRowLabel t n hop.label) r.instance (subst (λ (h : RouteEntry). IsRowLabel t r.route.0.0 h.label) r.hop_is ((tied f m).routes r.route r.there));
      }

  -- ---- what is under a label
  port_is : (g : Forwarder) → Member g agents → (label : LabelNo) (q : PortNo) (j : InstanceId) → attached g.rows label ≡ Some (Port q j) → (label ≡ port_label_of q) × (q.0 ≤ 524271)
  port_is g m label q j e = let x = (tied g m).labels label (Port q j) (attached_in g.rows label (Port q j) e) in (x.0, x.1)

  circuit_is : (g : Forwarder) → Member g agents → (label : LabelNo) (c : ℕ) (s : ServiceNo) → attached g.rows label ≡ Some (Circuit c s) → label ≡ circuit_label_of c
  circuit_is g m label c s e = ((tied g m).labels label (Circuit c s) (attached_in g.rows label (Circuit c s) e)).0

  -- ---- in the instance of its own network
  abbrev pub IsInside : List ServiceNo → InstanceId → Type 0
  IsInside ss i = (ss ≡ []) × (i ≡ from)

  abbrev pub EndsInside : PortNo → List ServiceNo → Type 0
  EndsInside q ss = Stands q × (ss ≡ [])

  -- ---- along a use
  -- what is so of the services so far and of the place, at the instance there
  abbrev pub IsAlong : ℕ → (List ServiceNo → ℕ → Type 0) → List ServiceNo → InstanceId → Type 0
  IsAlong number Trail ss i = (j : ℕ) × (j ≤ 15) × (i ≡ hop_instance_of number j) × Trail ss j

  abbrev pub EndsAlong : (List ServiceNo → Type 0) → PortNo → List ServiceNo → Type 0
  EndsAlong Ends q ss = Stands q × Ends ss

  module _ (is_network : is_hop from ≡ false) where
    hop_apart : {A : Type 0} (i : InstanceId) (u j : ℕ) → i ≡ from → i ≡ hop_instance_of u j → A
    hop_apart i u j e f = absurd (true≢false (sym (is_hop-hop u j) ∙ ap is_hop (sym f ∙ e) ∙ is_network))

    port_row : (i : InstanceId) (label : LabelNo) → i ≡ from → (r : IsRowFound i label) → (q : PortNo) → label ≡ port_label_of q → q.0 ≤ 524271 → Stands q
    port_row i label e r q at few = by_row r.row r.label_tied
      where
        net : is_hop i ≡ false
        net = ap is_hop e ∙ is_network

        -- the network of a port whose label leads near is near
        near_of : (n : InstanceId) → IsPortOf t cs n r.prefix label → IsRowLabel t i label → AreNear t from n
        near_of n p (inl hop) = absurd (true≢false (sym hop.0 ∙ net))
        near_of n p (inr leads) =
            let same : leads.1.2.0 ≡ p.port.id = same_port leads.1.2.0 p.port.id (sym leads.1.2.1 ∙ p.label_is) in
            let here : t.port p.port.id ≡ Some n = p.so_far.as_tied.ports p.port.id n (record { port = p.port; home = p.home; has_port = p.has_port; has_home = p.has_home; home_of = p.home_of; number_is = refl; network_is = p.number }) in
            let one : leads.1.0 ≡ n = same_Some leads.1.0 n (sym leads.1.2.3 ∙ ap t.port same ∙ here) in
            subst (λ (a : InstanceId). AreNear t a n) e (subst (AreNear t i) one leads.1.1)

        ends : (n : InstanceId) → IsPortOf t cs n r.prefix label → IsRowLabel t i label → Stands q
        ends n p leads = port_stands t cs come from to d alone n r.prefix label p (near_of n p leads) r.holds q at

        by_row : IsRowOf t cs i r.prefix label → IsRowLabel t i label → Stands q
        by_row (own o) leads = ends i (own_port t cs i r.prefix label net o) leads
        by_row (near n is p) leads = ends n p leads
        by_row (left_end x) leads = hop_apart i x.in_effect.number 0 e x.instance
        by_row (right_end x) leads = hop_apart i x.in_effect.number (length x.in_effect.services) e x.instance

    circuit_row : {A : Type 0} (i : InstanceId) (label : LabelNo) → i ≡ from → IsRowLabel t i label → (c : ℕ) → label ≡ circuit_label_of c → A
    circuit_row i label e (inl hop) c at = absurd (true≢false (sym hop.0 ∙ (ap is_hop e ∙ is_network)))
    circuit_row i label e (inr leads) c at = absurd (never_both leads.1.2.0 c leads.1.2.2 (sym leads.1.2.1 ∙ at))

    pub inside_kept : AreKept agents d.0 IsInside EndsInside
    inside_kept f g mf mg ss i h hop e (Port q j) at =
        let p = port_is g mg hop.label q j at in
        (port_row i hop.label h.1 (row_found f mf i hop e) q p.0 p.1, h.0)
    inside_kept f g mf mg ss i h hop e (Circuit c s) at =
        circuit_row i hop.label h.1 (row_found f mf i hop e).label_tied c (circuit_is g mg hop.label c s at)

  module _ (number : ℕ) (apart : from ≢ to) (config : Config) (is_so_far : IsSoFar t cs config) (network : Network) (has_network : Contains config.networks network) (holds_it : Holds network d.0) where
    no_circuit : (circuit : ℕ) → circuit ≤ 131070 → contains (circuit_prefix circuit) d.0 ≡ true → ⊥
    no_circuit circuit few hit = not_circuit is_so_far.topology config is_so_far.form is_so_far.valid network d.0 circuit has_network holds_it few hit

    row_at : (i : InstanceId) (j : ℕ) → j ≤ 15 → i ≡ hop_instance_of number j → (label : LabelNo) → (r : IsRowFound i label) → HopRow t cs number j r.prefix label
    row_at i j few at label r = hop_row t cs number j few i at r.prefix label d.0 no_circuit r.holds r.row

    -- a subnet or a port of the first network does not hold the address
    not_first : (n : Network) → n.id ≡ from → (c : Config) → IsSoFar t cs c → Contains c.networks n → Holds n d.0 → ⊥
    not_first n e c s in_n held = apart (sym e ∙ lies_in t cs come from to d alone c s n in_n (inl (sym e)) held)

    no_port_label : {A : Type 0} (q : PortNo) (c : ℕ) (label : LabelNo) → label ≡ port_label_of q → q.0 ≤ 524271 → label ≡ circuit_label_of c → A
    no_port_label q c label a few b = absurd (never_both q c few (sym a ∙ b))

    no_circuit_label : {A : Type 0} (n : InstanceId) (prefix : Block) (label : LabelNo) → IsPortOf t cs n prefix label → (c : ℕ) → label ≡ circuit_label_of c → A
    no_circuit_label n prefix label p c e = absurd (never_both p.port.id c (port_number p.config p.port p.so_far.form p.has_port) (sym p.label_is ∙ e))

    circuit_same : (c k : ℕ) (label : LabelNo) → label ≡ circuit_label_of c → label ≡ circuit_label_of k → c ≡ k
    circuit_same c k label a b = same_circuit c k (sym a ∙ b)

    -- the service that a circuit of an agent is of
    service_of : (g : Forwarder) → Member g agents → (label : LabelNo) (c : ℕ) (s : ServiceNo) → attached g.rows label ≡ Some (Circuit c s) → IsServiceAt t cs c s
    service_of g m label c s e = ((so_far g m).labels label (Circuit c s) (attached_in g.rows label (Circuit c s) e)).1

    upper : (j k : ℕ) → j < k → k ≤ 15 → (j ≤ 14) × (j + 1 ≤ 15)
    upper j k a b = (omega (arith, a, b), omega (arith, a, b))

    lower : (j k : ℕ) → j ≡ k + 1 → j ≤ 15 → (k ≤ 14) × (k ≤ 15)
    lower j k e h = (omega (arith, e, h), omega (arith, e, h))

    ends_of : (u : WasUsed t cs number) (left right : InstanceId) → t.chain_use number ≡ Some (left, right) → (u.in_effect.left.id ≡ left) × (u.in_effect.right.id ≡ right)
    ends_of u left right e = use_ends t cs u.config u.so_far u.in_effect u.is_use number u.number_is left right e

    module _ (Trail : List ServiceNo → ℕ → Type 0) (Ends : List ServiceNo → Type 0) where
      -- ---- from the left network to the right one
      module _ (use_is : t.chain_use number ≡ Some (from, to))
          (goes : (ss : List ServiceNo) (j : ℕ) (s : ServiceNo) → Trail ss j → IsServed t cs number j s → Trail (ss ++ s ∷ []) (j + 1))
          (ends : (ss : List ServiceNo) (j : ℕ) → Trail ss j → (u : WasUsed t cs number) → j ≡ length u.in_effect.services → Ends ss) where
        right_follows : (g : Forwarder) → Member g agents → (ss : List ServiceNo) (j : ℕ) → j ≤ 15 → Trail ss j → (prefix : Block) (label : LabelNo) → contains prefix d.0 ≡ true
            → HopRow t cs number j prefix label → (a : Attached) → attached g.rows label ≡ Some a → Follows (IsAlong number Trail) (EndsAlong Ends) ss a
        right_follows g m ss j few trail prefix label hit (to_right u within subnet is) (Port q i) at =
            let p = port_is g m label q i at in
            no_port_label q (left_circuit_of number (j + 1)) label p.0 p.1 is
        right_follows g m ss j few trail prefix label hit (to_right u within subnet is) (Circuit c s) at =
            let same = circuit_same c (left_circuit_of number (j + 1)) label (circuit_is g m label c s at) is in
            let small = upper j (length u.in_effect.services) within (short t cs number u) in
            (j + 1, small.1, behind_left number j c same, goes ss j s trail (served_left t cs c s (service_of g m label c s at) number j small.0 same))
        right_follows g m ss j few trail prefix label hit (to_left u place at_place within subnet is) a at =
            absurd (not_first u.in_effect.left (ends_of u from to use_is).0 u.config u.so_far u.is_use.has_left (any_of (λ s. contains s d.0 ≡ true) u.in_effect.left.subnets prefix subnet hit))
        right_follows g m ss j few trail prefix label hit (at_left u first p) a at =
            absurd (apart (sym (ends_of u from to use_is).0 ∙ port_lies_in t cs come from to d alone u.in_effect.left.id prefix label p (inl (sym (ends_of u from to use_is).0)) hit))
        right_follows g m ss j few trail prefix label hit (at_right u last p) (Port q i) at =
            (port_in t cs to u.in_effect.right.id prefix label p (ends_of u from to use_is).1 q (port_is g m label q i at).0, ends ss j trail u last)
        right_follows g m ss j few trail prefix label hit (at_right u last p) (Circuit c s) at =
            no_circuit_label u.in_effect.right.id prefix label p c (circuit_is g m label c s at)

        pub right_kept : AreKept agents d.0 (IsAlong number Trail) (EndsAlong Ends)
        right_kept f g mf mg ss i h hop e a at =
            let r = row_found f mf i hop e in
            right_follows g mg ss h.0 h.1 h.3 r.prefix hop.label r.holds (row_at i h.0 h.1 h.2 hop.label r) a at

      -- ---- from the right network to the left one
      module _ (use_is : t.chain_use number ≡ Some (to, from))
          (goes : (ss : List ServiceNo) (j : ℕ) (s : ServiceNo) → Trail ss (j + 1) → IsServed t cs number j s → Trail (ss ++ s ∷ []) j)
          (ends : (ss : List ServiceNo) → Trail ss 0 → Ends ss) where
        left_follows : (g : Forwarder) → Member g agents → (ss : List ServiceNo) (j : ℕ) → j ≤ 15 → Trail ss j → (prefix : Block) (label : LabelNo) → contains prefix d.0 ≡ true
            → HopRow t cs number j prefix label → (a : Attached) → attached g.rows label ≡ Some a → Follows (IsAlong number Trail) (EndsAlong Ends) ss a
        left_follows g m ss j few trail prefix label hit (to_left u place at_place within subnet is) (Port q i) at =
            let p = port_is g m label q i at in
            no_port_label q (right_circuit_of number (place + 1)) label p.0 p.1 is
        left_follows g m ss j few trail prefix label hit (to_left u place at_place within subnet is) (Circuit c s) at =
            let same = circuit_same c (right_circuit_of number (place + 1)) label (circuit_is g m label c s at) is in
            let small = lower j place at_place few in
            (place, small.1, behind_right number place c same, goes ss place s (subst (Trail ss) at_place trail) (served_right t cs c s (service_of g m label c s at) number place small.0 same))
        left_follows g m ss j few trail prefix label hit (to_right u within subnet is) a at =
            absurd (not_first u.in_effect.right (ends_of u to from use_is).1 u.config u.so_far u.is_use.has_right (any_of (λ s. contains s d.0 ≡ true) u.in_effect.right.subnets prefix subnet hit))
        left_follows g m ss j few trail prefix label hit (at_right u last p) a at =
            absurd (apart (sym (ends_of u to from use_is).1 ∙ port_lies_in t cs come from to d alone u.in_effect.right.id prefix label p (inl (sym (ends_of u to from use_is).1)) hit))
        left_follows g m ss j few trail prefix label hit (at_left u first p) (Port q i) at =
            (port_in t cs to u.in_effect.left.id prefix label p (ends_of u to from use_is).0 q (port_is g m label q i at).0, ends ss (subst (Trail ss) first trail))
        left_follows g m ss j few trail prefix label hit (at_left u first p) (Circuit c s) at =
            no_circuit_label u.in_effect.left.id prefix label p c (circuit_is g m label c s at)

        pub left_kept : AreKept agents d.0 (IsAlong number Trail) (EndsAlong Ends)
        left_kept f g mf mg ss i h hop e a at =
            let r = row_found f mf i hop e in
            left_follows g mg ss h.0 h.1 h.3 r.prefix hop.label r.holds (row_at i h.0 h.1 h.2 hop.label r) a at
