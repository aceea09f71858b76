-- Events, and then traces of packets.
use Rattle.std.proofs.Common.{◌≡◌, ◌++◌, ◌∷◌, [], List, map, refl, ap, sym, ◌∙◌}
use Rattle.std.proofs.lemmas.Bool.{and_from, and_parts}
use Rattle.std.proofs.lemmas.List.{append_assoc}
use Rattle.std.specs.Prelude.{IsTrue, true}
use Rattle.std.specs.List.{list_all}
use Rattle.ov_types.specs.declared.packet.Packet.{Packet}
use Rattle.config_types.specs.Form.{has_event_form}
use Rattle.config_types.specs.Form.{has_packet_form}
use Rattle.config_types.specs.declared.event.Event.{Event}
use Rattle.config_types.specs.declared.event.Event.TheVariants.{Trace}

-- one trace more
pub traces_go_on : (all more whole : List Event) (old : List Packet) (p : Packet) (rest : List Packet)
    → old ≡ p ∷ rest → more ≡ all ++ Trace p ∷ [] → all ++ map Trace old ≡ whole → more ++ map Trace rest ≡ whole
traces_go_on all more whole old p rest is pushed so_far =
    ap (λ es. es ++ map Trace rest) pushed
    ∙ append_assoc all (Trace p ∷ []) (map Trace rest)
    ∙ sym (ap (λ ps. all ++ map Trace ps) is)
    ∙ so_far

forms_more : (es : List Event) (e : Event) → IsTrue (list_all has_event_form es) → IsTrue (has_event_form e)
    → IsTrue (list_all has_event_form (es ++ e ∷ []))
forms_more [] e forms form = and_from (has_event_form e) true form refl
forms_more (d ∷ es) e forms form =
    let parts = and_parts (has_event_form d) (list_all has_event_form es) forms in
    and_from (has_event_form d) (list_all has_event_form (es ++ e ∷ [])) parts.0 (forms_more es e parts.1 form)

-- the forms of what is left, and of what is there
pub left_form : (old : List Packet) (p : Packet) (rest : List Packet) → old ≡ p ∷ rest
    → IsTrue (list_all has_packet_form old) → IsTrue (has_packet_form p) × IsTrue (list_all has_packet_form rest)
left_form old p rest is forms =
    and_parts (has_packet_form p) (list_all has_packet_form rest) (sym (ap (list_all has_packet_form) is) ∙ forms)

pub traced_form : (all more : List Event) (p : Packet) → more ≡ all ++ Trace p ∷ []
    → IsTrue (list_all has_event_form all) → IsTrue (has_packet_form p) → IsTrue (list_all has_event_form more)
unfolding has_event_form
traced_form all more p pushed forms form =
    ap (list_all has_event_form) pushed ∙ forms_more all (Trace p) forms form
