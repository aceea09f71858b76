-- What the form of an event says of what it holds.
use Rattle.std.specs.Prelude.{◌≡◌, ◌≤◌, ◌&&◌, ℕ, List, Bool, true, nat_le, IsTrue}
use Rattle.std.specs.declared.option.Option.{Option}
use Rattle.std.specs.declared.option.Option.TheVariants.{Some, None}
use Rattle.std.proofs.Common.{arith, refl, subst}
use Rattle.std.proofs.lemmas.Bool.{and_parts}
use Rattle.std.proofs.lemmas.Bool.Decides.{nat_tests}
use Rattle.std.proofs.lemmas.Option.{same_Some}
use Rattle.ov_types.specs.Bounds.{is_from_to}
use Rattle.ov_types.specs.Name.{is_name}
use Rattle.ov_types.specs.declared.packet.Packet.{Packet}
use Rattle.config_types.specs.declared.edit.Edit.{Edit as Change}
use Rattle.config_types.specs.declared.event.Event.TheVariants.{Break, DeliverOctets, Edit, Trace}
use Rattle.config_types.specs.Form.{has_edit_form}
use Rattle.config_types.specs.Form.{has_event_form}
use Rattle.config_types.specs.Form.{has_packet_form}
use Rattle.config_check.specs.Edits as edits
use Rattle.config_check.specs.Edits.{edit_fault}
use Rattle.config_check.specs.declared.edits.EditFault.{EditFault}
use Rattle.config_check.proofs.Edited.{form_is_kept, nodes_form_is_kept}
use Rattle.config_check.proofs.Validity.{form_of}
use Rattle.running_nodes.specs.MachineModel.Setup.{Setup, checked, edited, edited_without, moves, remade, renumbered}
use Rattle.running_laws.specs.MachineLaws.Headline.{IsOfForm, IsWritten}
use Rattle.running_laws.proofs.MachineLaws.Written.{none_broken}

pub edit_form : (e : Change) → IsTrue (has_event_form (Edit e)) → IsTrue (has_edit_form e)
unfolding has_event_form
edit_form e h = h

-- octets, and sends, are counted from 1
counted_from : (b : Bool) (n : ℕ) → (b && is_from_to 1 1000000 n) ≡ true → 1 ≤ n
counted_from b n form =
    let low = (and_parts (nat_le 1 n) (nat_le n 1000000) (and_parts b (is_from_to 1 1000000 n) form).1).0 in
    grind (arith, nat_tests, low)

pub octets_form : (from to : List ℕ) (n : ℕ) → IsTrue (has_event_form (DeliverOctets from to n)) → 1 ≤ n
unfolding has_event_form
octets_form from to n form = counted_from (is_name from && is_name to) n form

pub break_form : (from to : List ℕ) (n : ℕ) → IsTrue (has_event_form (Break from to n)) → 1 ≤ n
unfolding has_event_form
break_form from to n form = counted_from (is_name from && is_name to) n form

within : (n : ℕ) → nat_le n 524271 ≡ true → n ≤ 524271
within n h = grind (arith, nat_tests, h)

pub trace_source : (p : Packet) → IsTrue (has_event_form (Trace p)) → p.source.0 ≤ 524271
unfolding has_event_form has_packet_form
trace_source p h =
    let a = nat_le p.source.0 524271 in
    let b = nat_le p.destination.0 0xffff_ffff in
    let t = p.tuple in
    let four = and_parts (a && b && nat_le t.proto 255 && nat_le t.sport 65535) (nat_le t.dport 65535) h in
    let three = and_parts (a && b && nat_le t.proto 255) (nat_le t.sport 65535) four.0 in
    let two = and_parts (a && b) (nat_le t.proto 255) three.0 in
    within p.source.0 (and_parts a b two.0).0

-- an edit of the written form keeps the form of a configuration, and that of its topology
form_without : (o : Option EditFault) (x y : Setup) (e : Change) → IsTrue (has_edit_form e) → IsWritten x
    → edit_fault (checked x) e ≡ o → edited_without o x e ≡ Some y → IsOfForm y
form_without (Some f) x y e form written found is = cc
form_without None x y e form written found is =
    subst IsOfForm (same_Some (remade (edits.edited e (checked x)) (renumbered (moves e x.topology) x.numbers)) y is) (
      form_of (edits.edited_topology e x.topology) (edits.edited_config e x.config)
          (nodes_form_is_kept e x.topology form written.topology) (none_broken x e found),
      form_is_kept e x.config form written.config,
    )

pub edited_form : (x y : Setup) (e : Change) → IsTrue (has_edit_form e) → IsWritten x → edited x e ≡ Some y → IsOfForm y
edited_form x y e form written is = form_without (edit_fault (checked x) e) x y e form written refl is
