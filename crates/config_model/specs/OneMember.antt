-- Objects that have exactly one member.
use Rattle.std.specs.Prelude.{ℕ, List, Option, Some, None, Result}
use Rattle.serde_json.specs.Data.{Data, Members, no_members, member}
use Rattle.config_model.specs.declared.fault.DocKind.TheVariants.{Range}
use Rattle.config_model.specs.Faults.{Fault, ◌>>=◌, wanted}
use Rattle.config_model.specs.Fields.{object_at}

-- the name and the value of the one member, where there is exactly one
abbrev pub only_member : Members → Option (List ℕ × Data)
only_member no_members = None
only_member (member k d no_members) = Some (k, d)
only_member (member k d (member l e ms)) = None

-- an object's one member: none, or more than one, is out of its range
unfoldable pub one_member_at : List ℕ → Data → Result (List ℕ × Data) Fault
one_member_at path d = do
  members ← object_at path d
  wanted path Range (only_member members)
