-- What is said of the written form.
use Rattle.std.specs.Prelude.{◌≡◌, ℕ, ◌∷◌, [], ◌++◌, ◌&&◌, List, Bool, false, IsTrue, ℤ, Float}
use Rattle.std.specs.Prelude.{is_some, nat_eq, codes, Some, None, Ok, Err}
use Rattle.std.specs.List.{list_any, list_all}
use Rattle.std.specs.Cmp.Lexicographic.{pointwise}
use Rattle.serde_json.specs.Data.{unsigned, negative, float, Data, string, Items, Members, no_members, member}
use Rattle.serde_json.specs.Events.{items_len}
use Rattle.serde_json.specs.Find.{get, as_number, as_str, as_array, as_object}
use Rattle.config_types.specs.declared.config.Rule.{Rule}
use Rattle.config_model.specs.declared.fault.DocKind.{DocKind}
use Rattle.config_model.specs.declared.fault.DocKind.TheVariants.{Missing, Kind, Range}
use Rattle.config_model.specs.declared.fields.Count.{Count}
use Rattle.config_model.specs.declared.input.CompileInput.{CompileInput}
use Rattle.config_model.specs.declared.input.ReachInput.{ReachInput}
use Rattle.config_model.specs.Faults.{Fault}
use Rattle.config_types.specs.Form.{is_from_to, has_topology_form, has_config_form, has_packet_form}
use Rattle.config_model.specs.Paths.{member_path}
use Rattle.config_model.specs.Fields.{Reads, whole_at, all_at, allows}
use Rattle.config_model.specs.Topology.{controller_at, node_at, topology_at}
use Rattle.config_model.specs.Rule.{rule_at, action_at, members_with}
use Rattle.config_model.specs.Config.{network_at, port_at, policy_at, service_at, chain_at, config_at}
use Rattle.config_model.specs.Input.{packet_at, compile_at, reach_at}

-- the names of the members, in order
abbrev pub names_of : Members → List (List ℕ)
names_of no_members = []
names_of (member k d ms) = k ∷ names_of ms

abbrev pub is_one_of : List (List ℕ) → List ℕ → Bool
is_one_of names k = list_any (λ x. pointwise nat_eq x k) names

-- an object that has each of the required members, and no member but these and the optional ones
pub record HasJust (required optional : List (List ℕ)) (d : Data) : Type 0 where
  pub members : Members
  pub is_object : as_object d ≡ Some members
  pub has_each : IsTrue (list_all (λ k. is_some (get k d)) required)
  pub has_no_other : IsTrue (list_all (is_one_of (required ++ optional)) (names_of members))

-- what is read so has just these members
abbrev pub ReadHasJust : {A : Type 0} → Reads A → List (List ℕ) → List (List ℕ) → Type 0
ReadHasJust {A} reads required optional = (path : List ℕ) (d : Data) (x : A) → reads path d ≡ Ok x
    → HasJust required optional d

abbrev pub ControllerHasJust : Type 0
ControllerHasJust = ReadHasJust controller_at (codes "name" ∷ codes "address" ∷ []) []

abbrev pub NodeHasJust : Type 0
NodeHasJust = ReadHasJust node_at (codes "name" ∷ codes "address" ∷ codes "controllers" ∷ []) []

abbrev pub TopologyHasJust : Type 0
TopologyHasJust = ReadHasJust topology_at (codes "as" ∷ codes "controllers" ∷ codes "nodes" ∷ []) []

abbrev pub NetworkHasJust : Type 0
NetworkHasJust = ReadHasJust network_at (codes "name" ∷ codes "id" ∷ codes "subnets" ∷ []) (codes "policies" ∷ [])

abbrev pub PortHasJust : Type 0
PortHasJust = ReadHasJust port_at (codes "name" ∷ codes "id" ∷ codes "network" ∷ codes "address" ∷ codes "node" ∷ []) []

abbrev pub PolicyHasJust : Type 0
PolicyHasJust = ReadHasJust policy_at (codes "name" ∷ codes "sequence" ∷ codes "rules" ∷ []) []

-- a rule has `chain` and `use` just where its action is `chain`
abbrev pub RuleHasJust : Type 0
RuleHasJust = (path : List ℕ) (d : Data) (rule : Rule) → rule_at path d ≡ Ok rule
    → HasJust (members_with rule.action) [] d

abbrev pub ServiceHasJust : Type 0
ServiceHasJust = ReadHasJust service_at (codes "name" ∷ codes "id" ∷ codes "node" ∷ []) []

abbrev pub ChainHasJust : Type 0
ChainHasJust = ReadHasJust chain_at (codes "name" ∷ codes "hops" ∷ []) []

abbrev pub ConfigHasJust : Type 0
ConfigHasJust = ReadHasJust config_at []
    (codes "networks" ∷ codes "ports" ∷ codes "policies" ∷ codes "services" ∷ codes "chains" ∷ [])

abbrev pub PacketHasJust : Type 0
PacketHasJust = ReadHasJust packet_at
    (codes "port" ∷ codes "to" ∷ codes "protocol" ∷ codes "sport" ∷ codes "dport" ∷ []) []

abbrev pub CompileHasJust : Type 0
CompileHasJust = ReadHasJust compile_at (codes "topology" ∷ codes "configuration" ∷ []) []

abbrev pub ReachHasJust : Type 0
ReachHasJust = ReadHasJust reach_at (codes "topology" ∷ codes "configuration" ∷ codes "packets" ∷ []) []

-- where this member of an object is absent, the fault is that it is missing, at its path
abbrev pub FirstIsMissed : {A : Type 0} → Reads A → List ℕ → Type 0
FirstIsMissed reads name = (path : List ℕ) (d : Data) (members : Members) → as_object d ≡ Some members
    → get name d ≡ None → reads path d ≡ Err (record { path = member_path path name; kind = Missing })

-- each value of this form has a document, which reads as it wherever it stands
abbrev pub IsRead : {A : Type 0} → Reads A → (A → Bool) → (A → Data) → Type 0
IsRead {A} reads has_form document = (x : A) → IsTrue (has_form x) → (path : List ℕ) → reads path (document x) ≡ Ok x

abbrev pub compile_form : CompileInput → Bool
compile_form i = has_topology_form i.topology && has_config_form i.config

abbrev pub reach_form : ReachInput → Bool
reach_form r = compile_form r.input && list_all has_packet_form r.packets

abbrev pub fault_at : List ℕ → DocKind → Fault
fault_at path what = record { path = path; kind = what }

-- whether a text is one of these
abbrev pub is_among : List (List ℕ) → List ℕ → Bool
is_among texts text = list_any (λ x. pointwise nat_eq text x) texts

-- a text that is none of these is out of range, at its own path
abbrev pub OtherTextIsRange : {A : Type 0} → Reads A → (List ℕ → Bool) → Type 0
OtherTextIsRange reads is_one = (path text : List ℕ) → is_one text ≡ false
    → reads path (string text) ≡ Err (fault_at path Range)

-- what is no text is of another kind, at its own path
abbrev pub OtherValueIsKind : {A : Type 0} → Reads A → Type 0
OtherValueIsKind reads = (path : List ℕ) (d : Data) → as_str d ≡ None → reads path d ≡ Err (fault_at path Kind)

-- an action other than the three is out of range
abbrev pub OtherActionIsRange : Type 0
OtherActionIsRange = (path text : List ℕ) (d : Data) → get (codes "action") d ≡ Some (string text)
    → is_among (codes "pass" ∷ codes "deny" ∷ codes "chain" ∷ []) text ≡ false
    → action_at path d ≡ Err (fault_at (member_path path (codes "action")) Range)

-- a whole number outside its bounds is out of range, as one below 0 is
abbrev pub OtherNumberIsRange : Type 0
OtherNumberIsRange = (low high : ℕ) (path : List ℕ) (d : Data) (n : ℕ) → as_number d ≡ Some (unsigned n)
    → is_from_to low high n ≡ false
    → whole_at low high path d ≡ Err (fault_at path Range)

abbrev pub NegativeIsRange : Type 0
NegativeIsRange = (low high : ℕ) (path : List ℕ) (d : Data) (z : ℤ) → as_number d ≡ Some (negative z)
    → whole_at low high path d ≡ Err (fault_at path Range)

-- a number that is not whole, and what is no number, is of another kind
abbrev pub FractionIsKind : Type 0
FractionIsKind = (low high : ℕ) (path : List ℕ) (d : Data) (x : Float) → as_number d ≡ Some (float x)
    → whole_at low high path d ≡ Err (fault_at path Kind)

abbrev pub NoNumberIsKind : Type 0
NoNumberIsKind = (low high : ℕ) (path : List ℕ) (d : Data) → as_number d ≡ None
    → whole_at low high path d ≡ Err (fault_at path Kind)

-- what is no list is of another kind, and a list of a number of items that is not allowed is out of range, whatever its
-- items are
abbrev pub NoListIsKind : {A : Type 0} → Reads A → Type 0
NoListIsKind {A} reads = (count : Count) (path : List ℕ) (d : Data) → as_array d ≡ None
    → all_at reads count path d ≡ Err (fault_at path Kind)

abbrev pub OtherCountIsRange : {A : Type 0} → Reads A → Type 0
OtherCountIsRange {A} reads = (count : Count) (path : List ℕ) (d : Data) (items : Items) → as_array d ≡ Some items
    → allows count (items_len items) ≡ false → all_at reads count path d ≡ Err (fault_at path Range)
