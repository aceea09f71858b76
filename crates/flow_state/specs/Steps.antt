-- The written form of steps and of what `flows` takes, and which steps a document can write.
use Rattle.std.specs.Prelude.{ℕ, ◌∷◌, [], List, Bool, codes, Ok, if◌then◌else◌}
use Rattle.ov_types.specs.First.{same_name}
use Rattle.config_model.specs.declared.fault.DocKind.TheVariants.{Unknown}
use Rattle.config_model.specs.declared.fields.Count.TheVariants.{AnyNumber}
use Rattle.config_model.specs.Paths.{member_path}
use Rattle.config_model.specs.Faults.{◌>>=◌, refused}
use Rattle.config_types.specs.Form.{has_packet_form}
use Rattle.config_model.specs.Fields.{Reads, object_at, in_member, whole_at, only_at, all_at}
use Rattle.config_model.specs.Topology.{topology_at}
use Rattle.config_model.specs.Config.{config_at}
use Rattle.config_model.specs.Input.{packet_at}
use Rattle.config_model.specs.OneMember.{one_member_at}
use Rattle.config_model.specs.Edit.{edit_at}
use Rattle.config_types.specs.Form.{has_edit_form}
use Rattle.flow_state.specs.declared.step.FlowsInput.{FlowsInput}
use Rattle.flow_state.specs.declared.step.FlowStep.{FlowStep}
use Rattle.flow_state.specs.declared.step.FlowStep.TheVariants.{Edit, Trace}

-- the step that a member names, by what the member has
unfoldable pub step_from : List ℕ → Reads FlowStep
step_from word path d =
    if same_name word (codes "edit") then (edit_at path d >>= λ x. Ok (Edit x))
    else (if same_name word (codes "trace") then (packet_at path d >>= λ x. Ok (Trace x))
    else refused path Unknown)

-- an object with one member
unfoldable pub step_at : Reads FlowStep
step_at path d = one_member_at path d >>= λ m. step_from m.0 (member_path path m.0) m.1

-- a list of steps
abbrev pub steps_at : Reads (List FlowStep)
steps_at = all_at step_at AnyNumber

-- how many flows a table has room for
unfoldable pub capacity_at : Reads ℕ
capacity_at path d = in_member (whole_at 1 65535) path (codes "capacity") d

-- what `flows` takes
unfoldable pub flows_at : Reads FlowsInput
flows_at path d = do
  members ← object_at path d
  topology ← in_member topology_at path (codes "topology") d
  config ← in_member config_at path (codes "configuration") d
  capacity ← capacity_at path d
  steps ← in_member steps_at path (codes "steps") d
  done ← only_at path (codes "topology" ∷ codes "configuration" ∷ codes "capacity" ∷ codes "steps" ∷ []) members
  Ok (record { input = record { topology = topology; config = config }; capacity = capacity; steps = steps })

-- which steps a document can write
unfoldable pub has_step_form : FlowStep → Bool
has_step_form (Edit x) = has_edit_form x
has_step_form (Trace p) = has_packet_form p
