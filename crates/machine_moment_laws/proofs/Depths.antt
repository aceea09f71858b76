-- A common way from a place of a use takes at least as many services as the place is away from its end.
use Rattle.std.specs.Prelude.{◌≡◌, ◌≤◌, ◌<◌, ◌+◌, ◌-◌, ◌*◌, ◌/◌, ◌%◌, ℕ, zero, suc, Bool, List, [], ◌∷◌, length, true, false, cond}
use Rattle.std.specs.declared.option.Option.TheVariants.{Some}
use Rattle.std.proofs.Common.{ap, arith, inl, inr, refl, subst, sym, ◌∙◌}
use Rattle.std.proofs.lemmas.Bool.{true≢false}
use Rattle.std.proofs.lemmas.Option.{same_Some}
use Rattle.ov_types.specs.Prefix.{Block, contains}
use Rattle.ov_types.specs.declared.numbers.InstanceId.{InstanceId}
use Rattle.ov_types.specs.declared.numbers.Label.{Label as LabelNo}
use Rattle.ov_types.specs.declared.numbers.PortNo.{PortNo}
use Rattle.ov_types.specs.declared.numbers.ServiceNo.{ServiceNo}
use Rattle.ov_types.specs.declared.objects.LowKey.{LowKey}
use Rattle.ov_types.specs.declared.objects.LowKey.TheVariants as key
use Rattle.ov_types.specs.declared.objects.LowValue.{LowValue}
use Rattle.ov_types.specs.declared.objects.LowValue.TheVariants as low
use Rattle.ov_types.specs.declared.prefix.Addr.{Addr}
use Rattle.ov_types.specs.declared.rows.Attached.{Attached}
use Rattle.ov_types.specs.declared.rows.Attached.TheVariants.{Circuit, Port}
use Rattle.ov_types.specs.declared.rows.TableRow.{TableRow}
use Rattle.route_targets.specs.Numbers.{circuit_instance_of, circuit_label_of, hop_instance_of, left_circuit_of, other_side_of, right_circuit_of}
use Rattle.config_types.specs.declared.topology.Node.{Node}
use Rattle.schedule_script.specs.ConfigCheck.Checked.{Checked}
use Rattle.node_laws.specs.NodeModel.Agent.{attached}
use Rattle.node_laws.specs.NodeModel.Maps.{Map, objects}
use Rattle.node_laws.specs.NodeModel.Members.{Member}
use Rattle.node_laws.specs.NodeModel.Reaching.{Side, circuit_at, hop_at, sides, subnets}
use Rattle.node_laws.specs.NodeModel.Uses.{Use, imports}
use Rattle.node_laws.specs.NodeModel.Values.{Object}
use Rattle.node_laws.specs.NodeModel.Wants.{slice}
use Rattle.node_laws.proofs.NodeModel.Members.{from_filter_map}
use Rattle.node_laws.proofs.NodeModel.Objects.{object_of, side_use}
use Rattle.node_laws.proofs.NodeModel.Places.{inside_itself}
use Rattle.node_laws.proofs.NodeModel.Wanted.{slice_is}
use Rattle.machine_model.specs.Setup.{low_in, opening}
use Rattle.machine_laws.specs.Headline.{IsWritten}
use Rattle.machine_laws.specs.Sound.{IsSound}
use Rattle.machine_laws.proofs.TableRows.{SubnetRow}
use Rattle.machine_moment_laws.specs.Arriving.{IsCommonWay, LeadsInCommon}
use Rattle.machine_moment_laws.specs.Common.{common, placed, rows_in_common}
use Rattle.machine_moment_laws.proofs.Arriving.{key_of}
use Rattle.machine_moment_laws.proofs.HopRows.{above, itself, one_number, sound_of}
use Rattle.machine_moment_laws.proofs.InUses.{no_attachment_in, one_of_sides}
use Rattle.machine_moment_laws.proofs.Placed.{objects_too}
use Rattle.machine_moment_laws.proofs.Routes.{IsCompiled, compiled_is, hop_of}
use Rattle.machine_moment_laws.proofs.Sides.{circuit_there, same_hop_at, same_subnets, side_with}
use Rattle.machine_moment_laws.proofs.Static.{attached_in, imported_in}

-- ---- behind a service it goes on one place nearer to the end
abbrev instance_numbered : ℕ → InstanceId
instance_numbered n = record { 0 = n }

half_before : (n : ℕ) → 1 ≤ n → (2 * n - 1) / 2 ≡ n - 1
half_before n h = omega arith

other_of_odd : (n : ℕ) → other_side_of (2 * n + 1) ≡ 2 * n + 1 + 1
other_of_odd n =
    let odd : (2 * n + 1) % 2 ≡ 1 = omega arith in
    rw odd refl

other_of_even : (n : ℕ) → other_side_of (2 * n) ≡ 2 * n - 1
other_of_even n =
    let even : (2 * n) % 2 ≡ 0 = omega arith in
    rw even refl

behind_left : (u place : ℕ) → circuit_instance_of (other_side_of (left_circuit_of u (place + 1))) ≡ hop_instance_of u (place + 1)
behind_left u place =
    let h : ℕ = 16384 + 16 * u + (place + 1 - 1) in
    let half : (2 * h + 1 + 1) / 2 ≡ 16384 + 16 * u + (place + 1) = omega arith in
    let number : other_side_of (2 * h + 1) / 2 ≡ 16384 + 16 * u + (place + 1) = ap (λ (x : ℕ). x / 2) (other_of_odd h) ∙ half in
    ap instance_numbered number

behind_right : (u place : ℕ) → circuit_instance_of (other_side_of (right_circuit_of u (place + 1))) ≡ hop_instance_of u place
behind_right u place =
    let h : ℕ = 16384 + 16 * u + (place + 1) in
    let before : h - 1 ≡ 16384 + 16 * u + place = omega arith in
    let number : other_side_of (2 * h) / 2 ≡ 16384 + 16 * u + place = ap (λ (x : ℕ). x / 2) (other_of_even h) ∙ half_before h (omega arith) ∙ before in
    ap instance_numbered number

behind : (s : Side) (k : ℕ) → k < s.chain.services → circuit_instance_of (other_side_of (circuit_at s (suc k))) ≡ hop_at s k
behind s k within = by s.is_right s.chain.services within
  where
    one_more : (m : ℕ) → k < m → m - suc k + 1 ≡ m - k
    one_more m h = omega (arith, h)

    next : suc k ≡ k + 1
    next = omega arith

    by : (c : Bool) (m : ℕ) → k < m → circuit_instance_of (other_side_of (cond c (left_circuit_of s.chain.number (m - suc k + 1)) (right_circuit_of s.chain.number (suc k)))) ≡ hop_instance_of s.chain.number (cond c (m - k) k)
    by true m h = behind_left s.chain.number (m - suc k) ∙ ap (hop_instance_of s.chain.number) (one_more m h)
    by false m h = ap (λ (j : ℕ). circuit_instance_of (other_side_of (right_circuit_of s.chain.number j))) next ∙ behind_right s.chain.number k

-- the circuit of a side is told by its instance and its direction
abbrev circuit_by : Bool → InstanceId → ℕ
circuit_by c i = cond c (2 * i.0 + 1) (2 * i.0)

circuit_is : (s : Side) (d : ℕ) → circuit_at s d ≡ circuit_by s.is_right (hop_at s d)
circuit_is s d = by s.is_right
  where
    left : (u j : ℕ) → 2 * (16384 + 16 * u + (j + 1 - 1)) + 1 ≡ 2 * (16384 + 16 * u + j) + 1
    left u j = omega arith

    by : (c : Bool) → cond c (left_circuit_of s.chain.number (s.chain.services - d + 1)) (right_circuit_of s.chain.number d) ≡ cond c (2 * (16384 + 16 * s.chain.number + cond c (s.chain.services - d) d) + 1) (2 * (16384 + 16 * s.chain.number + cond c (s.chain.services - d) d))
    by true = left s.chain.number (s.chain.services - d)
    by false = refl

-- two sides of one use that have one subnet have one direction
one_direction : (m : Map) → IsSound m → (s t : Side) (p : Block) → Member s (sides m) → s.chain ≡ t.chain → Member p (subnets s) → Member p (subnets t) → s.is_right ≡ t.is_right
one_direction m sound s t p of_use same i j = by s.is_right t.is_right i (subst (λ (u : Use). Member p (cond t.is_right u.right_subnets u.left_subnets)) (sym same) j)
  where
    by : (a c : Bool) → Member p (cond a s.chain.right_subnets s.chain.left_subnets) → Member p (cond c s.chain.right_subnets s.chain.left_subnets) → a ≡ c
    by true true i j = refl
    by false false i j = refl
    by true false i j = absurd (true≢false (sym (inside_itself p) ∙ sound.ordered.right_in_left s.chain p p (side_use m s of_use) j i))
    by false true i j = absurd (true≢false (sym (inside_itself p) ∙ sound.ordered.right_in_left s.chain p p (side_use m s of_use) i j))

-- ---- what is attached
abbrev IsCircuit : ℕ → Attached → Type 0
IsCircuit circuit what = (service : ServiceNo) × (what ≡ Circuit circuit service)

port_is_none : (q : PortNo) (home : InstanceId) (circuit : ℕ) → IsCircuit circuit (Port q home) → ⊥
port_is_none q home circuit h = never h.0 h.1
  where
    never : (s : ServiceNo) → Port q home ≡ Circuit circuit s → ⊥
    never s e = cc

circuit_is_it : (c circuit : ℕ) (s : ServiceNo) → IsCircuit circuit (Circuit c s) → c ≡ circuit
circuit_is_it c circuit s h = by h.0 h.1
  where
    by : (t : ServiceNo) → Circuit c s ≡ Circuit circuit t → c ≡ circuit
    by t e = cc

attached_circuit : (k : LowKey) (v : LowValue) (n circuit : ℕ) (s : ServiceNo) (d : Addr) (l : LabelNo) (what : Attached) → k ≡ key.Attach n → v ≡ low.AttachCircuit circuit s d → attached k v ≡ Some (l, what) → what ≡ Circuit circuit s
attached_circuit k v n circuit s d l what is same e =
    let both : Some (record { 0 = n }, Circuit circuit s) ≡ Some (l, what) = (λ i. attached (sym is i) (sym same i)) ∙ e in
    ap (λ (o : LabelNo × Attached). o.1) (sym (same_Some (record { 0 = n }, Circuit circuit s) (l, what) both))

one_value : (m : Map) (k : LowKey) (v w : LowValue) → Member (k, v) (objects m) → Member (k, w) (objects m) → v ≡ w
one_value m k v w in_v in_w =
    let same : Object v ≡ Object w = same_Some (Object v) (Object w) (sym (object_of m k v in_v) ∙ object_of m k w in_w) in
    cc

module _ (b : Checked) (ds : List Checked) (written : (c : Checked) → Member c (b ∷ ds) → IsWritten (opening c)) where
  abbrev cs : List Checked
  cs = b ∷ ds

  abbrev M : Map
  M = common cs

  abbrev W : Map
  W = placed cs

  abbrev feed : Map
  feed = low_in b

  sound : IsSound feed
  sound = sound_of b ds written b (inl refl)

  -- under the label of a row that leads a subnet on stands its circuit
  what_there : (i : InstanceId) (p : Block) (row : TableRow) (t : SubnetRow M i p row) (address : Addr) (l : LabelNo) (what : Attached) → t.to.label ≡ l → Member (l, what) (rows_in_common cs address).labels → IsCircuit (circuit_at t.side (suc t.d)) what
  what_there i p row t address l what label there =
      let c = circuit_there b ds written t.side t.of_use t.d t.within in
      let own : Member i (imports feed i) = imported_in b ds written i i (itself b ds written i p row t) b (inl refl) in
      let one : c.0 ≡ t.to =
      sound.one_host i c.0 t.to (attached_in b ds written c.0 c.1 b (inl refl)) (attached_in b ds written t.to t.attached b (inl refl))
      (subst (λ (n : InstanceId). Member n (imports feed i)) (sym (c.2.0 ∙ t.at)) own) (subst (λ (n : InstanceId). Member n (imports feed i)) (sym (t.circuit.0 ∙ t.at)) own) (c.2.1 ∙ sym t.circuit.1) in
      let m = from_filter_map (λ (e : LowKey × LowValue). attached e.0 e.1) (l, what) (slice W address) there in
      let number : l ≡ circuit_label_of (circuit_at t.side (suc t.d)) = sym label ∙ ap (λ a. a.label) (sym one) ∙ c.3.label in
      let k_is : m.0.0 ≡ key.Attach (circuit_label_of (circuit_at t.side (suc t.d))).0 = key_of m.0.0 m.0.1 (l, what) m.2 ∙ ap (λ (l : LabelNo). key.Attach l.0) number in
      let held : Member (key.Attach (circuit_label_of (circuit_at t.side (suc t.d))).0, m.0.1) (objects W) = subst (λ (k : LowKey). Member (k, m.0.1) (objects W)) k_is ((slice_is W address m.0.0 m.0.1).0 m.1).0 in
      let theirs = objects_too b ds (key.Attach (circuit_label_of (circuit_at t.side (suc t.d))).0) (low.AttachCircuit (circuit_at t.side (suc t.d)) c.3.service c.0.node) c.3.there in
      let v_is : m.0.1 ≡ low.AttachCircuit (circuit_at t.side (suc t.d)) c.3.service c.0.node = one_value W (key.Attach (circuit_label_of (circuit_at t.side (suc t.d))).0) m.0.1 (low.AttachCircuit (circuit_at t.side (suc t.d)) c.3.service c.0.node) held theirs in
      (c.3.service, attached_circuit m.0.0 m.0.1 (circuit_label_of (circuit_at t.side (suc t.d))).0 (circuit_at t.side (suc t.d)) c.3.service c.0.node l what k_is v_is m.2)

  -- ---- along one side, for an address of one of its subnets
  module _ (address : ℕ) (s : Side) (of_use : Member s (sides feed)) (p : Block) (subnet : Member p (subnets s)) (holds : contains p address ≡ true) where
    step : (k : ℕ) → k < s.chain.services → (n next : Node) (what : Attached) → LeadsInCommon cs n (hop_at s (suc k)) address next what → IsCircuit (circuit_at s (suc k)) what
    step k within n next what h = by (compiled_is cs n.address h.route.0.0 h.route.0.1 h.route.1 h.is_route)
      where
        of_row : (c : IsCompiled cs n.address h.route.0.0 h.route.0.1 h.route.1) → SubnetRow M h.route.0.0 h.route.0.1 c.row → IsCircuit (circuit_at s (suc k)) what
        of_row c t =
            let v = above b ds written h.route.0.0 h.route.0.1 c.row t b (inl refl) in
            let o = side_with v.chain t.side.is_right in
            let at : hop_at o (suc t.d) ≡ h.route.0.0 = sym (same_hop_at t.side v.chain v.same (suc t.d)) ∙ t.at in
            let chain = one_number feed sound s o (suc k) (suc t.d) of_use v.of_use within (subst (λ (m : ℕ). t.d < m) v.same.services t.within) (sym h.instance ∙ sym at) in
            let theirs = same_subnets t.side v.chain v.same h.route.0.1 t.subnet in
            let one : p ≡ h.route.0.1 = one_of_sides b (written b (inl refl)) s o of_use chain p h.route.0.1 address subnet theirs holds h.holds in
            let way : s.is_right ≡ t.side.is_right = one_direction feed sound s o p of_use chain subnet (subst (λ (x : Block). Member x (subnets o)) (sym one) theirs) in
            let circuits : circuit_at t.side (suc t.d) ≡ circuit_at s (suc k) = circuit_is t.side (suc t.d) ∙ (λ j. circuit_by (sym way j) ((t.at ∙ h.instance) j)) ∙ sym (circuit_is s (suc k)) in
            let w = what_there h.route.0.0 h.route.0.1 c.row t next.address h.route.1.label what (ap (λ e. e.label) (ap hop_of t.row ∙ c.hop_is)) h.label in
            (w.0, w.1 ∙ ap (λ (c : ℕ). Circuit c w.0) circuits)

        by : IsCompiled cs n.address h.route.0.0 h.route.0.1 h.route.1 → IsCircuit (circuit_at s (suc k)) what
        by c = elim c.kind as (λ _. IsCircuit (circuit_at s (suc k)) what) [
          | inl o ↦ absurd (no_attachment_in feed sound s k of_use within o.to (attached_in b ds written o.to o.attached b (inl refl))
              (subst (λ (i : InstanceId). Member o.to.instance (imports feed i)) h.instance (imported_in b ds written h.route.0.0 o.to.instance o.imported b (inl refl)))
              p subnet address (subst (λ (x : Block). contains x address ≡ true) (sym o.prefix) h.holds) holds)
          | inr t ↦ of_row c t
        ]

    lower : (k m : ℕ) → suc k ≤ m → k ≤ m
    lower k m h = omega (arith, h)

    higher : (k m : ℕ) → k ≤ m → suc k ≤ suc m
    higher k m h = omega (arith, h)

    far : (k : ℕ) → k ≤ s.chain.services → (n : Node) (services : List ServiceNo) (q : PortNo) → IsCommonWay cs n (hop_at s k) address services q → k ≤ length services
    far zero within n services q way = omega arith
    far (suc k) within n [] q way = absurd (port_is_none q way.1 (circuit_at s (suc k)) (step k within n way.0 (Port q way.1) way.2))
    far (suc k) within n (service ∷ services) q way =
        let same : way.1 ≡ circuit_at s (suc k) = circuit_is_it way.1 (circuit_at s (suc k)) service (step k within n way.0 (Circuit way.1 service) way.2) in
        let next : circuit_instance_of (other_side_of way.1) ≡ hop_at s k = ap (λ (c : ℕ). circuit_instance_of (other_side_of c)) same ∙ behind s k within in
        higher k (length services) (far k (lower k s.chain.services within) way.0 services q (subst (λ (i : InstanceId). IsCommonWay cs way.0 i address services q) next way.3))

  -- so from an instance into which the common part leads a subnet with the address
  pub within_way : (i : InstanceId) (p : Block) (row : TableRow) (t : SubnetRow M i p row) (address : ℕ) → contains p address ≡ true → (n : Node) (services : List ServiceNo) (q : PortNo) → IsCommonWay cs n i address services q → suc t.d ≤ length services
  within_way i p row t address holds n services q way =
      let v = above b ds written i p row t b (inl refl) in
      let o = side_with v.chain t.side.is_right in
      let at : hop_at o (suc t.d) ≡ i = sym (same_hop_at t.side v.chain v.same (suc t.d)) ∙ t.at in
      far address o v.of_use p (same_subnets t.side v.chain v.same p t.subnet) holds (suc t.d) (subst (λ (m : ℕ). t.d < m) v.same.services t.within) n services q
      (subst (λ (i : InstanceId). IsCommonWay cs n i address services q) (sym at) way)
