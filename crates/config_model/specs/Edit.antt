-- The written form of an edit.
use Rattle.std.specs.Prelude.{ℕ, List, Bool, codes, Option, Some, None, Result, Ok, if◌then◌else◌}
use Rattle.serde_json.specs.Data.{Data}
use Rattle.ov_types.specs.First.{same_name}
use Rattle.ov_types.specs.Name.{is_name}
use Rattle.config_model.specs.declared.fault.DocKind.TheVariants.{Unknown}
use Rattle.config_types.specs.declared.edit.Object.{Object}
use Rattle.config_types.specs.declared.edit.Object.TheVariants as Objects
use Rattle.config_types.specs.declared.edit.ObjectKind.{ObjectKind}
use Rattle.config_types.specs.declared.edit.ObjectKind.TheVariants as Kinds
use Rattle.config_types.specs.declared.edit.Edit.{Edit}
use Rattle.config_types.specs.declared.edit.Edit.TheVariants.{Put, Delete}
use Rattle.config_model.specs.Paths.{member_path}
use Rattle.config_model.specs.Faults.{Fault, ◌>>=◌, refused, wanted}
use Rattle.config_model.specs.Fields.{Reads, name_at}
use Rattle.config_types.specs.Form.{has_network_form, has_port_form, has_policy_form, has_service_form, has_chain_form, has_node_form}
use Rattle.config_model.specs.Config.{network_at, port_at, policy_at, service_at, chain_at}
use Rattle.config_model.specs.Topology.{node_at}
use Rattle.config_model.specs.OneMember.{one_member_at}

-- the kind that a word names
abbrev pub kind_named : List ℕ → Option ObjectKind
kind_named word =
    if same_name word (codes "network") then Some Kinds.Network
    else (if same_name word (codes "port") then Some Kinds.Port
    else (if same_name word (codes "policy") then Some Kinds.Policy
    else (if same_name word (codes "service") then Some Kinds.Service
    else (if same_name word (codes "chain") then Some Kinds.Chain
    else (if same_name word (codes "node") then Some Kinds.Node
    else None)))))

-- the kind that the name of a member is
abbrev pub kind_at : List ℕ → List ℕ → Result ObjectKind Fault
kind_at path word = wanted path Unknown (kind_named word)

-- an object of a kind, in its kind's written form
unfoldable pub object_of_kind_at : ObjectKind → Reads Object
object_of_kind_at Kinds.Network path d = network_at path d >>= λ x. Ok (Objects.Network x)
object_of_kind_at Kinds.Port path d = port_at path d >>= λ x. Ok (Objects.Port x)
object_of_kind_at Kinds.Policy path d = policy_at path d >>= λ x. Ok (Objects.Policy x)
object_of_kind_at Kinds.Service path d = service_at path d >>= λ x. Ok (Objects.Service x)
object_of_kind_at Kinds.Chain path d = chain_at path d >>= λ x. Ok (Objects.Chain x)
object_of_kind_at Kinds.Node path d = node_at path d >>= λ x. Ok (Objects.Node x)

-- what is put: an object with one member, whose name is the kind
unfoldable pub put_at : Reads Edit
put_at path d = do
  entry ← one_member_at path d
  kind ← kind_at (member_path path entry.0) entry.0
  put ← object_of_kind_at kind (member_path path entry.0) entry.1
  Ok (Put put)

-- what is deleted: an object with one member, whose name is the kind
unfoldable pub delete_at : Reads Edit
delete_at path d = do
  entry ← one_member_at path d
  kind ← kind_at (member_path path entry.0) entry.0
  name ← name_at (member_path path entry.0) entry.1
  Ok (Delete kind name)

abbrev pub edit_from : List ℕ → List ℕ → Data → Result Edit Fault
edit_from word path d =
    if same_name word (codes "put") then put_at path d
    else (if same_name word (codes "delete") then delete_at path d
    else refused path Unknown)

-- an object with one member: `put` or `delete`
unfoldable pub edit_at : Reads Edit
edit_at path d = do
  entry ← one_member_at path d
  edit_from entry.0 (member_path path entry.0) entry.1
