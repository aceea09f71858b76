-- The written form of a rule.
use Rattle.std.specs.Prelude.{ℕ, ◌∷◌, [], ◌++◌, List, nat_eq, nat_le, codes, Option, Some, None, Result, Ok}
use Rattle.std.specs.Prelude.{if◌then◌else◌}
use Rattle.std.specs.Cmp.Lexicographic.{pointwise}
use Rattle.serde_json.specs.Data.{Data}
use Rattle.serde_json.specs.Find.{as_str}
use Rattle.ov_types.specs.declared.packet.Range16.{Range16}
use Rattle.config_model.specs.declared.fault.DocKind.TheVariants.{Range}
use Rattle.config_model.specs.declared.fields.Count.TheVariants.{Two}
use Rattle.config_types.specs.declared.config.Direction.{Direction}
use Rattle.config_types.specs.declared.config.Direction.TheVariants.{OneWay, BothWays}
use Rattle.config_types.specs.declared.config.End.{End}
use Rattle.config_types.specs.declared.config.End.TheVariants as end
use Rattle.config_types.specs.declared.config.Protocol.{Protocol}
use Rattle.config_types.specs.declared.config.Protocol.TheVariants.{Any, Number}
use Rattle.config_types.specs.declared.config.Action.{Action}
use Rattle.config_types.specs.declared.config.Action.TheVariants.{Pass, Deny, Through}
use Rattle.config_types.specs.declared.config.Rule.{Rule}
use Rattle.config_model.specs.Paths.{member_path}
use Rattle.config_model.specs.Faults.{Fault, ◌>>=◌, refused, wanted, kept}
use Rattle.config_model.specs.Fields.{object_at, in_member, text_at, whole_at, name_at, only_at, all_at}

abbrev pub direction_of : List ℕ → Option Direction
direction_of text = if pointwise nat_eq text (codes ">") then Some OneWay
    else (if pointwise nat_eq text (codes "<>") then Some BothWays else None)

unfoldable pub direction_at : List ℕ → Data → Result Direction Fault
direction_at path d = do
  text ← text_at path d
  wanted path Range (direction_of text)

abbrev pub end_of : List ℕ → End
end_of name = if pointwise nat_eq name (codes "any") then end.Any else end.Named name

-- a name, or `any`
unfoldable pub end_at : List ℕ → Data → Result End Fault
end_at path d = do
  name ← name_at path d
  Ok (end_of name)

abbrev pub protocol_from : List ℕ → Data → Option (List ℕ) → Result Protocol Fault
protocol_from path d (Some text) = kept path (pointwise nat_eq text (codes "any")) Any
protocol_from path d None = whole_at 0 255 path d >>= λ n. Ok (Number n)

-- a number 0 to 255, or `any`
unfoldable pub protocol_at : List ℕ → Data → Result Protocol Fault
protocol_at path d = protocol_from path d (as_str d)

abbrev pub port_number_at : List ℕ → Data → Result ℕ Fault
port_number_at = whole_at 0 65535

abbrev pub range_from : List ℕ → List ℕ → Result Range16 Fault
range_from path (lo ∷ hi ∷ []) = kept path (nat_le lo hi) (record { lo = lo; hi = hi })
range_from path ports = refused path Range

-- a list of two port numbers, the first not above the second
unfoldable pub range_at : List ℕ → Data → Result Range16 Fault
range_at path d = do
  ports ← all_at port_number_at Two path d
  range_from path ports

-- the members `chain` and `use` of a rule
unfoldable pub through_at : List ℕ → Data → Result Action Fault
through_at path d = do
  chain ← in_member name_at path (codes "chain") d
  number ← in_member (whole_at 0 3071) path (codes "use") d
  Ok (Through chain number)

abbrev pub action_from : List ℕ → Data → List ℕ → Result Action Fault
action_from path d text =
    if pointwise nat_eq text (codes "pass") then Ok Pass
    else (if pointwise nat_eq text (codes "deny") then Ok Deny
    else (if pointwise nat_eq text (codes "chain") then through_at path d
    else refused (member_path path (codes "action")) Range))

-- the member `action` of a rule, and with `chain` two more
unfoldable pub action_at : List ℕ → Data → Result Action Fault
action_at path d = do
  text ← in_member text_at path (codes "action") d
  action_from path d text

-- the members of every rule
abbrev pub rule_members : List (List ℕ)
rule_members = codes "direction" ∷ codes "source" ∷ codes "destination" ∷ codes "protocol" ∷ codes "source_ports"
    ∷ codes "destination_ports" ∷ codes "action" ∷ []

-- the members that only a rule with the action `chain` has
abbrev pub chain_members : List (List ℕ)
chain_members = codes "chain" ∷ codes "use" ∷ []

abbrev pub members_with : Action → List (List ℕ)
members_with Pass = rule_members
members_with Deny = rule_members
members_with (Through chain number) = rule_members ++ chain_members

unfoldable pub rule_at : List ℕ → Data → Result Rule Fault
rule_at path d = do
  members ← object_at path d
  direction ← in_member direction_at path (codes "direction") d
  source ← in_member end_at path (codes "source") d
  destination ← in_member end_at path (codes "destination") d
  protocol ← in_member protocol_at path (codes "protocol") d
  source_ports ← in_member range_at path (codes "source_ports") d
  destination_ports ← in_member range_at path (codes "destination_ports") d
  action ← action_at path d
  done ← only_at path (members_with action) members
  Ok (record {
    direction = direction;
    source = source;
    destination = destination;
    protocol = protocol;
    source_ports = source_ports;
    destination_ports = destination_ports;
    action = action;
  })
