-- The documents of steps, and what is said of their written form.
use Rattle.std.specs.Prelude.{◌≡◌, ℕ, ◌&&◌, ◌∷◌, [], List, Bool, codes, None, Ok, Err}
use Rattle.std.specs.List.{list_all}
use Rattle.serde_json.specs.Data.{Data, no_members, member, object}
use Rattle.serde_json.specs.Find.{as_object}
use Rattle.ov_types.specs.Bounds.{is_from_to}
use Rattle.config_model.specs.declared.fault.DocKind.TheVariants.{Kind}
use Rattle.config_model.specs.Documents.{list_document, number_document, topology_document, config_document, packet_document}
use Rattle.config_model.specs.EventDocuments.{one_document, edit_document}
use Rattle.config_model.specs.EventLaws.{edit_form}
use Rattle.config_model.specs.Fields.{Reads}
use Rattle.config_types.specs.Form.{has_packet_form}
use Rattle.config_model.specs.Laws.{HasJust, ReadHasJust, compile_form, fault_at}
use Rattle.flow_state.specs.declared.step.FlowsInput.{FlowsInput}
use Rattle.flow_state.specs.declared.step.FlowStep.{FlowStep}
use Rattle.flow_state.specs.declared.step.FlowStep.TheVariants.{Edit, Trace}
use Rattle.flow_state.specs.Steps.{flows_at, step_at}

abbrev pub step_word : FlowStep → List ℕ
step_word (Edit x) = codes "edit"
step_word (Trace p) = codes "trace"

-- an object with the one member that the step's word names
abbrev pub step_document : FlowStep → Data
step_document (Edit x) = one_document (codes "edit") (edit_document x)
step_document (Trace p) = one_document (codes "trace") (packet_document p)

abbrev pub flows_document : FlowsInput → Data
flows_document r = object (member (codes "capacity") (number_document r.capacity)
    (member (codes "configuration") (config_document r.input.config)
    (member (codes "steps") (list_document step_document r.steps)
    (member (codes "topology") (topology_document r.input.topology) no_members))))

-- which steps, and inputs of `flows`, have documents: those of the written form
abbrev pub step_form : FlowStep → Bool
step_form (Edit x) = edit_form x
step_form (Trace p) = has_packet_form p

abbrev pub flows_form : FlowsInput → Bool
flows_form r = compile_form r.input && (is_from_to 1 65535 r.capacity && list_all step_form r.steps)

-- what reads as a step is an object with just the member of its word
abbrev pub StepHasJust : Type 0
StepHasJust = (path : List ℕ) (d : Data) (x : FlowStep) → step_at path d ≡ Ok x → HasJust (step_word x ∷ []) [] d

abbrev pub FlowsHasJust : Type 0
FlowsHasJust = ReadHasJust flows_at
    (codes "topology" ∷ codes "configuration" ∷ codes "capacity" ∷ codes "steps" ∷ []) []

-- what is no object, as a text is, is of another kind
abbrev pub NotObjectIsKind : {A : Type 0} → Reads A → Type 0
NotObjectIsKind reads = (path : List ℕ) (d : Data) → as_object d ≡ None → reads path d ≡ Err (fault_at path Kind)
