-- The written form of groups, and of what `scale` takes.
use Rattle.std.specs.Prelude.{ℕ, ◌+◌, ◌∷◌, [], ◌++◌, List, ◌&&◌, Bool, not, codes, Result, Ok}
use Rattle.std.specs.List.{list_any}
use Rattle.serde_json.specs.Data.{Items, no_items, item}
use Rattle.serde_json.specs.Events.{items_len}
use Rattle.ov_types.specs.Bounds.{is_from_to}
use Rattle.ov_types.specs.First.{same_name}
use Rattle.config_types.specs.declared.config.Config.{Config}
use Rattle.config_model.specs.declared.fields.Count.TheVariants.{AnyNumber}
use Rattle.config_model.specs.Paths.{item_path}
use Rattle.config_model.specs.Faults.{Fault, ◌>>=◌, kept}
use Rattle.config_model.specs.Fields.{Reads, object_at, in_member, name_at, whole_at, only_at, list_at, items_at, all_at}
use Rattle.config_model.specs.Topology.{topology_at}
use Rattle.config_model.specs.Config.{config_at}
use Rattle.config_model.specs.Input.{packet_at}
use Rattle.scale_out.specs.declared.document.ScaleInput.{ScaleInput}
use Rattle.scale_out.specs.declared.groups.Group.{Group}
use Rattle.scale_out.specs.Form.{is_ascending}

-- a configuration has a service of a name
abbrev pub has_service : Config → List ℕ → Bool
has_service c name = list_any (λ s. same_name s.name name) c.services

-- one of some groups names a service
abbrev pub is_grouped : List Group → List ℕ → Bool
is_grouped groups name = list_any (λ g. same_name g.service name) groups

-- the name of a service that the configuration has, and that no earlier group names
unfoldable pub service_at : Config → List Group → Reads (List ℕ)
service_at c earlier path d = do
  name ← name_at path d
  kept path (has_service c name && not (is_grouped earlier name)) name

-- the items of a list of 1 to 16
unfoldable pub few_at : Reads Items
few_at path d = do
  items ← list_at AnyNumber path d
  kept path (is_from_to 1 16 (items_len items)) items

-- 1 to 16 numbers 0 to 65535, each below the next
unfoldable pub members_at : Reads (List ℕ)
members_at path d = do
  items ← few_at path d
  members ← items_at (whole_at 0 65535) path 0 items
  kept path (is_ascending members) members

-- a group behind earlier ones
unfoldable pub group_at : Config → List Group → Reads Group
group_at c earlier path d = do
  members ← object_at path d
  service ← in_member (service_at c earlier) path (codes "service") d
  numbers ← in_member members_at path (codes "members") d
  done ← only_at path (codes "service" ∷ codes "members" ∷ []) members
  Ok (record { service = service; members = numbers })

-- groups one after the other behind earlier ones, the first at place i
abbrev pub groups_from : Config → List ℕ → ℕ → List Group → Items → Result (List Group) Fault
groups_from c path i earlier no_items = Ok earlier
groups_from c path i earlier (item d ds) = do
  next ← group_at c earlier (item_path path i) d
  groups_from c path (i + 1) (earlier ++ next ∷ []) ds

-- a list of groups, each of a service of its own
unfoldable pub groups_at : Config → Reads (List Group)
groups_at c path d = do
  items ← list_at AnyNumber path d
  groups_from c path 0 [] items

-- what `scale` takes
unfoldable pub scale_at : Reads ScaleInput
scale_at path d = do
  members ← object_at path d
  topology ← in_member topology_at path (codes "topology") d
  config ← in_member config_at path (codes "configuration") d
  groups ← in_member (groups_at config) path (codes "groups") d
  packets ← in_member (all_at packet_at AnyNumber) path (codes "packets") d
  done ← only_at path (codes "topology" ∷ codes "configuration" ∷ codes "groups" ∷ codes "packets" ∷ []) members
  Ok (record {
    input = record { topology = topology; config = config };
    groups = groups;
    packets = packets;
  })
