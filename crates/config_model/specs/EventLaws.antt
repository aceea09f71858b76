-- What is said of the written form of edits and events.
use Rattle.std.specs.Prelude.{◌≡◌, ℕ, ◌⊎◌, ◌&&◌, ◌==◌, ◌∷◌, [], List, Bool, false, codes, Some, None, Ok, Err}
use Rattle.std.specs.List.{list_all}
use Rattle.serde_json.specs.Data.{Data, Members, string}
use Rattle.serde_json.specs.Events.{members_len}
use Rattle.serde_json.specs.Find.{as_str, as_object}
use Rattle.ov_types.specs.Name.{is_name}
use Rattle.config_types.specs.declared.edit.Edit.{Edit}
use Rattle.config_types.specs.declared.edit.Edit.TheVariants.{Put, Delete}
use Rattle.config_types.specs.declared.edit.Object.{Object}
use Rattle.config_types.specs.declared.edit.Object.TheVariants as Objects
use Rattle.config_types.specs.declared.event.Event.{Event}
use Rattle.config_types.specs.declared.event.Event.TheVariants as Events
use Rattle.config_model.specs.declared.input.RunInput.{RunInput}
use Rattle.config_model.specs.declared.fault.DocKind.TheVariants.{Kind, Range, Unknown}
use Rattle.config_model.specs.Paths.{member_path}
use Rattle.config_model.specs.Fields.{Reads}
use Rattle.config_types.specs.Form.{has_network_form, has_port_form, has_policy_form, has_service_form, has_chain_form, has_node_form}
use Rattle.config_model.specs.Edit.{edit_at}
use Rattle.config_model.specs.Event.{event_at, run_at}
use Rattle.config_types.specs.Form.{has_event_form}
use Rattle.config_model.specs.EventDocuments.{one_document, edit_word, event_word}
use Rattle.config_model.specs.Laws.{HasJust, ReadHasJust, compile_form, fault_at, is_among}

-- which objects, edits and events have documents: those of the written form
abbrev pub object_form : Object → Bool
object_form (Objects.Network x) = has_network_form x
object_form (Objects.Port x) = has_port_form x
object_form (Objects.Policy x) = has_policy_form x
object_form (Objects.Service x) = has_service_form x
object_form (Objects.Chain x) = has_chain_form x
object_form (Objects.Node x) = has_node_form x

abbrev pub edit_form : Edit → Bool
edit_form (Put x) = object_form x
edit_form (Delete kind name) = is_name name

abbrev pub event_form : Event → Bool
event_form (Events.Edit x) = edit_form x
event_form e = has_event_form e

abbrev pub run_form : RunInput → Bool
run_form r = compile_form r.input && list_all event_form r.events

-- what reads as an edit is an object with just the member of its word
abbrev pub EditHasJust : Type 0
EditHasJust = (path : List ℕ) (d : Data) (e : Edit) → edit_at path d ≡ Ok e → HasJust (edit_word e ∷ []) [] d

-- what reads as an event is the text of its word, or an object with just the member of its word
abbrev pub EventHasJust : Type 0
EventHasJust = (path : List ℕ) (d : Data) (e : Event) → event_at path d ≡ Ok e
    → (d ≡ string (event_word e)) ⊎ HasJust (event_word e ∷ []) [] d

abbrev pub RunHasJust : Type 0
RunHasJust = ReadHasJust run_at (codes "topology" ∷ codes "configuration" ∷ codes "events" ∷ []) []

-- an object with no member, or with more than one, is out of range, whatever its members are
abbrev pub NotOneIsRange : {A : Type 0} → Reads A → Type 0
NotOneIsRange reads = (path : List ℕ) (d : Data) (ms : Members) → as_object d ≡ Some ms
    → (members_len ms == 1) ≡ false → reads path d ≡ Err (fault_at path Range)

-- one member of another name than these is unknown, at its own path
abbrev pub OtherIsUnknown : {A : Type 0} → Reads A → List (List ℕ) → Type 0
OtherIsUnknown reads words = (path word : List ℕ) (d : Data) → is_among words word ≡ false
    → reads path (one_document word d) ≡ Err (fault_at (member_path path word) Unknown)

-- what is no object, and for an event no text either, is of another kind
abbrev pub NoObjectIsKind : {A : Type 0} → Reads A → Type 0
NoObjectIsKind reads = (path : List ℕ) (d : Data) → as_object d ≡ None → as_str d ≡ None
    → reads path d ≡ Err (fault_at path Kind)
