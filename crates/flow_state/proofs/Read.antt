-- Each step of the written form has a document, which reads as it.
use Rattle.std.proofs.Common.{◌&&◌, refl}
use Rattle.std.specs.List.{list_all}
use Rattle.std.proofs.lemmas.Bool.{and_parts}
use Rattle.ov_types.specs.Bounds.{is_from_to}
use Rattle.config_model.specs.declared.fields.Count.TheVariants.{AnyNumber}
use Rattle.config_types.specs.Form.{has_topology_form, has_config_form}
use Rattle.config_model.specs.Fields.{in_member, member_at, object_at, only_at}
use Rattle.config_model.specs.OneMember.{one_member_at}
use Rattle.config_model.specs.Laws.{IsRead, compile_form}
use Rattle.config_model.proofs.EventsRead.{edit_is_read}
use Rattle.config_model.proofs.Read.{whole_is_read, list_is_read, topology_is_read, config_is_read, packet_is_read}
use Rattle.flow_state.specs.declared.step.FlowStep.TheVariants.{Edit, Trace}
use Rattle.flow_state.specs.Documents.{flows_document, flows_form, step_document, step_form}
use Rattle.flow_state.specs.Steps.{capacity_at, flows_at, step_at, step_from}

pub step_is_read : IsRead step_at step_form step_document
unfolding step_at step_from one_member_at object_at
step_is_read (Edit x) h path = rw (edit_is_read x h) refl
step_is_read (Trace p) h path = rw (packet_is_read p h) refl

pub flows_is_read : IsRead flows_at flows_form flows_document
unfolding flows_at capacity_at in_member member_at object_at only_at
flows_is_read r h path =
    let o = and_parts (compile_form r.input) (is_from_to 1 65535 r.capacity && list_all step_form r.steps) h in
    let p = and_parts (has_topology_form r.input.topology) (has_config_form r.input.config) o.0 in
    let q = and_parts (is_from_to 1 65535 r.capacity) (list_all step_form r.steps) o.1 in
    rw (
      topology_is_read r.input.topology p.0,
      config_is_read r.input.config p.1,
      whole_is_read 1 65535 r.capacity q.0,
      list_is_read step_at step_form step_document step_is_read AnyNumber r.steps q.1 refl,
    ) refl
