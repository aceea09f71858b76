-- What may be held or in flight where a run keeps its ties.
use Rattle.std.specs.Prelude.{◌≡◌, ◌⊎◌, ℕ, ◌≤◌, true, false, [], ◌∷◌, Some}
use Rattle.std.specs.FinMap.{get}
use Rattle.ov_types.specs.declared.numbers.InstanceId.{InstanceId}
use Rattle.ov_types.specs.declared.numbers.Label.{Label as LabelNo}
use Rattle.ov_types.specs.declared.numbers.PortNo.{PortNo}
use Rattle.ov_types.specs.declared.objects.AclAction.TheVariants.{Enter}
use Rattle.ov_types.specs.declared.objects.AclRule.{AclRule}
use Rattle.ov_types.specs.declared.objects.LowKey.{LowKey}
use Rattle.ov_types.specs.declared.objects.LowKey.TheVariants as key
use Rattle.ov_types.specs.declared.objects.LowValue.{LowValue}
use Rattle.ov_types.specs.declared.objects.LowValue.TheVariants as low
use Rattle.schedule_script.specs.Ties.{AreNear, Ties}
use Rattle.route_targets.specs.Numbers.{circuit_instance_of, circuit_label_of, other_side_of, port_label_of, target_of}
use Rattle.node_laws.specs.NodeModel.Keys.{Key, Low, Vpn, Row, Publish}
use Rattle.node_laws.specs.NodeModel.Maps.{Map}
use Rattle.node_laws.specs.NodeModel.Members.{Member}
use Rattle.node_laws.specs.NodeModel.Uses.{is_hop, use_of}
use Rattle.node_laws.specs.NodeModel.Values.{Value, Object, Route, Entry, Label}
use Rattle.machine_model.specs.Session.{Role}
use Rattle.machine_model.specs.Setup.{Name}

-- ---- circuits
-- a circuit lies in an instance of a use
abbrev pub IsInUse : ℕ → ℕ → Type 0
IsInUse number circuit = (is_hop (circuit_instance_of circuit) ≡ true) × (use_of (circuit_instance_of circuit) ≡ number)

-- a label of a use: of a circuit in one of its instances
abbrev pub IsUseLabel : ℕ → LabelNo → Type 0
IsUseLabel number label = (circuit : ℕ) × (label ≡ circuit_label_of circuit) × IsInUse number circuit

module _ (t : Ties) where
  -- a label of a network: of a port that is tied to it
  abbrev pub IsPortLabel : InstanceId → LabelNo → Type 0
  IsPortLabel network label = (p : PortNo) × (label ≡ port_label_of p) × (p.0 ≤ 524271) × (t.port p ≡ Some network)

  -- a use stands between two networks, in the one direction or the other
  abbrev pub StandsBetween : ℕ → InstanceId → InstanceId → Type 0
  StandsBetween number a b = (t.chain_use number ≡ Some (a, b)) ⊎ (t.chain_use number ≡ Some (b, a))

  -- ---- low-level objects
  -- An attached port has its own label and its network's instance. A circuit has its own label, and lies with its other
  -- side in one use. A network imports itself and networks that it was related to. A use has its two networks. An
  -- access list leads from a network to itself or to one that it was related to, and enters only uses that stand between
  -- the two
  abbrev pub IsTiedObject : LowKey → LowValue → Type 0
  IsTiedObject (key.Attach label) (low.AttachPort port instance address node) =
      (label ≡ (port_label_of port).0) × (port.0 ≤ 524271) × (is_hop instance ≡ false) × (t.port port ≡ Some instance)
  IsTiedObject (key.Attach label) (low.AttachCircuit circuit service node) =
      (label ≡ (circuit_label_of circuit).0) × (is_hop (circuit_instance_of circuit) ≡ true)
      × IsInUse (use_of (circuit_instance_of circuit)) (other_side_of circuit)
  IsTiedObject (key.Instance n) (low.Instance imports) =
      (m : InstanceId) → Member m imports → (is_hop m ≡ false) × AreNear t (record { 0 = n }) m
  IsTiedObject (key.ChainUse number) (low.ChainUse left right left_subnets right_subnets hops) =
      (is_hop left ≡ false) × (is_hop right ≡ false) × (t.chain_use number ≡ Some (left, right))
  IsTiedObject (key.Acl from to) (low.Acl subnets rules) =
      AreNear t (record { 0 = from }) (record { 0 = to })
      × ((r : AclRule) (i : InstanceId) → Member r rules → r.action ≡ Enter i
      → (is_hop i ≡ true) × StandsBetween (use_of i) (record { 0 = from }) (record { 0 = to }))
  IsTiedObject _ _ = Unit {0}

  -- ---- labels of instances
  -- what is published in an instance, or has its target: of a hop's instance a label of its use, of a network's one of
  -- that network
  abbrev pub IsOwnLabel : InstanceId → LabelNo → Type 0
  IsOwnLabel i label =
      ((is_hop i ≡ true) × IsUseLabel (use_of i) label) ⊎ ((is_hop i ≡ false) × IsPortLabel i label)

  -- a row of a hop's instance leads to its use, or to one of the two networks of that use
  abbrev pub LeadsOn : ℕ → LabelNo → Type 0
  LeadsOn number label =
      IsUseLabel number label
      ⊎ ((a : InstanceId) × (b : InstanceId) × (t.chain_use number ≡ Some (a, b))
      × (IsPortLabel a label ⊎ IsPortLabel b label))

  -- a row of a network's instance leads to that network, or to one that it was related to
  abbrev pub LeadsNear : InstanceId → LabelNo → Type 0
  LeadsNear a label = (b : InstanceId) × AreNear t a b × IsPortLabel b label

  abbrev pub IsRowLabel : InstanceId → LabelNo → Type 0
  IsRowLabel i label = ((is_hop i ≡ true) × LeadsOn (use_of i) label) ⊎ ((is_hop i ≡ false) × LeadsNear i label)

  -- ---- all that is told
  -- a route has the target of one instance, and a label of it
  abbrev pub IsTied : ℕ → Key → Value → Type 0
  IsTied asn (Low k) (Object v) = IsTiedObject k v
  IsTied asn (Vpn k) (Route r) = (i : InstanceId) × (r.targets ≡ target_of asn i ∷ []) × IsOwnLabel i r.label
  IsTied asn (Publish i prefix) (Label label) = IsOwnLabel i label
  IsTied asn (Row i prefix) (Entry hop) = IsRowLabel i hop.label
  IsTied asn _ _ = Unit {0}

  abbrev pub AreTied : ℕ → Map → Type 0
  AreTied asn m = (k : Key) (v : Value) → get m k ≡ Some v → IsTied asn k v

  -- on each session, in both directions
  abbrev pub tied : ℕ → Name × Role → Name × Role → Key → Value → Type 0
  tied asn from to k v = IsTied asn k v
