-- An agent, as a function of what it holds.
use Rattle.std.specs.Prelude.{◌≡◌, ◌≤◌, ℕ, List, [], ◌∷◌, ◌++◌, map, Bool, ◌==◌, if◌then◌else◌}
use Rattle.std.specs.declared.option.Option.{Option}
use Rattle.std.specs.declared.option.Option.TheVariants.{Some, None}
use Rattle.std.specs.List.{filter, filter_map, flat_map, list_any}
use Rattle.std.specs.FinMap.{entries, get, from_entries}
use Rattle.ov_types.specs.Keys.{row_key_cmp}
use Rattle.ov_types.specs.Prefix.{Block, host_prefix}
use Rattle.ov_types.specs.declared.numbers.InstanceId.{InstanceId}
use Rattle.ov_types.specs.declared.numbers.Label.{Label as LabelNo}
use Rattle.ov_types.specs.declared.objects.AclRule.{AclRule}
use Rattle.ov_types.specs.declared.objects.AclAction.{AclAction}
use Rattle.ov_types.specs.declared.objects.AclAction.TheVariants.{Pass, Deny, Enter}
use Rattle.ov_types.specs.declared.objects.LowKey.{LowKey}
use Rattle.ov_types.specs.declared.objects.LowKey.TheVariants as key
use Rattle.ov_types.specs.declared.objects.LowValue.{LowValue}
use Rattle.ov_types.specs.declared.objects.LowValue.TheVariants as low
use Rattle.ov_types.specs.declared.rows.AgentRows.{AgentRows}
use Rattle.ov_types.specs.declared.rows.Attached.{Attached}
use Rattle.ov_types.specs.declared.rows.Attached.TheVariants.{Port, Circuit}
use Rattle.ov_types.specs.declared.rows.Entry.{Entry as RouteEntry}
use Rattle.route_targets.specs.Numbers.{circuit_instance_of, circuit_address_of}
use Rattle.node_model.specs.Members.{Member}
use Rattle.node_model.specs.Keys.{Key, Row, Publish, Subscribe}
use Rattle.node_model.specs.Values.{Value, Entry, Label}
use Rattle.node_model.specs.Maps.{Map, objects}

-- one of its sessions: whether it is up, and what the control node told
pub record Heard : Type 0 where
  pub is_up : Bool
  pub map : Map

-- what an agent holds: its sessions, in the order in which it lists its control nodes
abbrev pub Holdings : Type 0
Holdings = List Heard

-- the slice in use is that of the first session that is up
abbrev pub slice_in_use : Holdings → List (LowKey × LowValue)
slice_in_use [] = []
slice_in_use (s ∷ h) = if s.is_up then objects s.map else slice_in_use h

-- ---- what it tells its control nodes
-- an attachment is published in its instance, under its host prefix
abbrev pub publication : LowKey → LowValue → List (Key × Value)
publication (key.Attach label) (low.AttachPort port instance address node) =
    (Publish instance (host_prefix address.0), Label (record { 0 = label })) ∷ []
publication (key.Attach label) (low.AttachCircuit circuit service node) =
    (Publish (circuit_instance_of circuit) (host_prefix (circuit_address_of circuit).0), Label (record { 0 = label }))
    ∷ []
publication _ _ = []

abbrev pub entered_by : AclAction → Option InstanceId
entered_by (Enter i) = Some i
entered_by Pass = None
entered_by Deny = None

-- the instances that an object makes it need: of a port or circuit its own, of an access list each that it enters
abbrev pub needed_for : LowValue → List InstanceId
needed_for (low.AttachPort port instance address node) = instance ∷ []
needed_for (low.AttachCircuit circuit service node) = circuit_instance_of circuit ∷ []
needed_for (low.Acl subnets rules) = filter_map (λ r. entered_by r.action) rules
needed_for _ = []

abbrev pub needed_by : List (LowKey × LowValue) → List InstanceId
needed_by slice = flat_map (λ e. needed_for e.1) slice

abbrev pub needed : Holdings → List InstanceId
needed h = needed_by (slice_in_use h)

abbrev pub is_needed : Holdings → InstanceId → Bool
is_needed h i = list_any (λ n. n.0 == i.0) (needed h)

-- the publications and subscriptions of a slice. The slice is in the order of labels, so that of two attachments with
-- one instance and prefix the lower label counts
abbrev pub told_of : List (LowKey × LowValue) → Map
told_of slice =
    from_entries (flat_map (λ e. publication e.0 e.1) slice
    ++ map (λ i. (Subscribe i, Label (record { 0 = 0 }))) (needed_by slice))

-- what it wants each control node to have been told
abbrev pub wanted : Holdings → Map
wanted h = told_of (slice_in_use h)

-- ---- what it forwards by
abbrev pub row_entry : Key → Value → Option ((InstanceId × Block) × RouteEntry)
row_entry (Row i prefix) (Entry hop) = Some ((i, prefix), hop)
row_entry _ _ = None

-- the rows of the sessions that are up, in the order of the sessions
abbrev pub rows_heard : Holdings → List ((InstanceId × Block) × RouteEntry)
rows_heard h = flat_map (λ s. filter_map (λ e. row_entry e.0 e.1) (entries s.map)) (filter (λ s. s.is_up) h)

-- the route of the first session that is up and has it, of each instance that it needs
abbrev pub routes : Holdings → List ((InstanceId × Block) × RouteEntry)
routes h = filter (λ r. is_needed h r.0.0) (entries (from_entries {R = row_key_cmp} (rows_heard h)))

abbrev pub attached : LowKey → LowValue → Option (LabelNo × Attached)
attached (key.Attach label) (low.AttachPort port instance address node) =
    Some (record { 0 = label }, Port port instance)
attached (key.Attach label) (low.AttachCircuit circuit service node) =
    Some (record { 0 = label }, Circuit circuit service)
attached _ _ = None

abbrev pub acl_entry : LowKey → LowValue → Option (LowKey × LowValue)
acl_entry (key.Acl from to) v = Some (key.Acl from to, v)
acl_entry _ v = None

-- the rows that an agent forwards by
abbrev pub rows : Holdings → AgentRows
rows h = record {
  labels = filter_map (λ e. attached e.0 e.1) (slice_in_use h);
  acls = filter_map (λ e. acl_entry e.0 e.1) (slice_in_use h);
  routes = routes h;
}

-- ---- what an agent holds and wants, said as relations
-- what was heard besides rows: which sessions are up, and the objects of each
abbrev pub besides_rows : Holdings → List (Bool × List (LowKey × LowValue))
besides_rows h = map (λ s. (s.is_up, objects s.map)) h

-- the route of the first session that is up and has it
abbrev pub as_hop : Option Value → Option RouteEntry
as_hop (Some (Entry hop)) = Some hop
as_hop _ = None

abbrev pub first_some : {A : Type 0} → Option A → Option A → Option A
first_some (Some a) b = Some a
first_some None b = b

abbrev pub route_from : Holdings → InstanceId → Block → Option RouteEntry
route_from [] i prefix = None
route_from (s ∷ h) i prefix =
    if s.is_up then first_some (as_hop (get s.map (Row i prefix))) (route_from h i prefix) else route_from h i prefix

-- an object makes an agent need an instance: a port its own, a circuit its own, an access list each that a rule enters
abbrev pub IsNeededFor : InstanceId → LowValue → Type 0
IsNeededFor i (low.AttachPort port instance address node) = instance ≡ i
IsNeededFor i (low.AttachCircuit circuit service node) = circuit_instance_of circuit ≡ i
IsNeededFor i (low.Acl subnets rules) = (r : AclRule) × Member r rules × (r.action ≡ Enter i)
IsNeededFor i _ = ⊥

pub record IsNeeded (slice : List (LowKey × LowValue)) (i : InstanceId) : Type 0 where
  pub name : LowKey
  pub object : LowValue
  pub held : Member (name, object) slice
  pub needs : IsNeededFor i object

-- an attachment of a slice is published in this instance under this prefix, and has the lowest label of these
pub record IsPublished (slice : List (LowKey × LowValue)) (i : InstanceId) (prefix : Block) (label : ℕ) : Type 0 where
  pub attachment : LowValue
  pub held : Member (key.Attach label, attachment) slice
  pub publishes : publication (key.Attach label) attachment ≡ (Publish i prefix, Label (record { 0 = label })) ∷ []
  pub lowest : (other : ℕ) (v : LowValue) → Member (key.Attach other, v) slice
      → publication (key.Attach other) v ≡ (Publish i prefix, Label (record { 0 = other })) ∷ [] → label ≤ other
