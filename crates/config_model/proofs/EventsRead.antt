-- Each edit and event of the written form has a document, which reads as it.
use Rattle.std.proofs.Common.{◌≡◌, ℕ, ◌&&◌, true, List, [], ◌∷◌, Ok, IsTrue, refl}
use Rattle.std.specs.List.{list_all}
use Rattle.std.proofs.lemmas.Bool.{and_parts}
use Rattle.serde_json.specs.Data.{string}
use Rattle.ov_types.specs.Name.{is_name}
use Rattle.config_types.specs.declared.edit.Edit.TheVariants.{Put, Delete}
use Rattle.config_types.specs.declared.edit.Object.{Object}
use Rattle.config_types.specs.declared.edit.Object.TheVariants as Objects
use Rattle.config_types.specs.declared.edit.ObjectKind.{ObjectKind}
use Rattle.config_types.specs.declared.edit.ObjectKind.TheVariants as Kinds
use Rattle.config_types.specs.declared.event.Event.TheVariants as Events
use Rattle.config_model.specs.declared.fields.Count.TheVariants.{AnyNumber, Two}
use Rattle.config_types.specs.Form.{is_from_to, has_topology_form, has_config_form}
use Rattle.config_model.specs.Fields.{in_member, member_at, object_at, name_at, only_at}
use Rattle.config_model.specs.OneMember.{one_member_at}
use Rattle.config_model.specs.Edit.{object_of_kind_at, put_at, delete_at, edit_at}
use Rattle.config_model.specs.Event.{two_names_at, three_at, names_and_number_at, event_from, event_at, run_at}
use Rattle.config_types.specs.Form.{has_event_form}
use Rattle.config_model.specs.EventDocuments.{object_document, edit_document, two_names_document, names_and_number_document, event_document, run_document}
use Rattle.config_model.specs.EventLaws.{object_form, edit_form, event_form, run_form}
use Rattle.config_model.specs.Laws.{IsRead, compile_form}
use Rattle.config_model.proofs.Read.{name_is_read, whole_is_read, list_is_read, node_is_read, topology_is_read, network_is_read, port_is_read, policy_is_read, service_is_read, chain_is_read, config_is_read, packet_is_read}

put_is_read : (x : Object) → IsTrue (object_form x) → (path : List ℕ) → put_at path (object_document x) ≡ Ok (Put x)
unfolding put_at one_member_at object_at object_of_kind_at
put_is_read (Objects.Network x) h path = rw (network_is_read x h) refl
put_is_read (Objects.Port x) h path = rw (port_is_read x h) refl
put_is_read (Objects.Policy x) h path = rw (policy_is_read x h) refl
put_is_read (Objects.Service x) h path = rw (service_is_read x h) refl
put_is_read (Objects.Chain x) h path = rw (chain_is_read x h) refl
put_is_read (Objects.Node x) h path = rw (node_is_read x h) refl

delete_is_read : (kind : ObjectKind) (name : List ℕ) → is_name name ≡ true → (path : List ℕ) → edit_at path (edit_document (Delete kind name)) ≡ Ok (Delete kind name)
unfolding edit_at delete_at one_member_at object_at
delete_is_read Kinds.Network name h path = rw (name_is_read name h) refl
delete_is_read Kinds.Port name h path = rw (name_is_read name h) refl
delete_is_read Kinds.Policy name h path = rw (name_is_read name h) refl
delete_is_read Kinds.Service name h path = rw (name_is_read name h) refl
delete_is_read Kinds.Chain name h path = rw (name_is_read name h) refl
delete_is_read Kinds.Node name h path = rw (name_is_read name h) refl

pub edit_is_read : IsRead edit_at edit_form edit_document
unfolding edit_at one_member_at object_at
edit_is_read (Put x) h path = rw (put_is_read x h) refl
edit_is_read (Delete kind name) h path = delete_is_read kind name h path

two_are_read : (a b : List ℕ) → (is_name a && is_name b) ≡ true → (path : List ℕ) → two_names_at path (two_names_document a b) ≡ Ok (a, b)
unfolding two_names_at
two_are_read a b h path =
    let p = and_parts (is_name a) (is_name b) h in
    let both : list_all is_name (a ∷ b ∷ []) ≡ true = rw (p.0, p.1) refl in
    rw (list_is_read name_at is_name string name_is_read Two (a ∷ b ∷ []) both refl path) refl

names_and_number_are_read : (from to : List ℕ) (n : ℕ) → (is_name from && is_name to && is_from_to 1 1000000 n) ≡ true → (path : List ℕ) → names_and_number_at path (names_and_number_document from to n) ≡ Ok (from, to, n)
unfolding names_and_number_at three_at
names_and_number_are_read from to n h path =
    let p = and_parts (is_name from && is_name to) (is_from_to 1 1000000 n) h in
    let q = and_parts (is_name from) (is_name to) p.0 in
    rw (name_is_read from q.0, name_is_read to q.1, whole_is_read 1 1000000 n p.1) refl

pub event_is_read : IsRead event_at event_form event_document
unfolding event_at event_from one_member_at object_at has_event_form
event_is_read (Events.Edit x) h path = rw (edit_is_read x h) refl
event_is_read (Events.Deliver from to n) h path = rw (names_and_number_are_read from to n h) refl
event_is_read (Events.DeliverOctets from to n) h path = rw (names_and_number_are_read from to n h) refl
event_is_read (Events.Lose a b) h path = rw (two_are_read a b h) refl
event_is_read (Events.Connect a b) h path = rw (two_are_read a b h) refl
event_is_read (Events.Restart node) h path = rw (name_is_read node h) refl
event_is_read Events.Round h path = refl
event_is_read Events.Settle h path = refl
event_is_read (Events.Show node) h path = rw (name_is_read node h) refl
event_is_read (Events.Trace p) h path = rw (packet_is_read p h) refl
event_is_read (Events.Break from to n) h path = rw (names_and_number_are_read from to n h) refl

pub run_is_read : IsRead run_at run_form run_document
unfolding run_at in_member member_at object_at only_at
run_is_read r h path =
    let o = and_parts (compile_form r.input) (list_all event_form r.events) h in
    let p = and_parts (has_topology_form r.input.topology) (has_config_form r.input.config) o.0 in
    rw (
      topology_is_read r.input.topology p.0,
      config_is_read r.input.config p.1,
      list_is_read event_at event_form event_document event_is_read AnyNumber r.events o.1 refl,
    ) refl
