use Rattle.std.proofs.Common.{IsTrue, subst}
use Rattle.config_types.specs.declared.event.Event.{Event}
use Rattle.config_types.specs.Form.{has_event_form}
use Rattle.net_machine.specs.Happenings.{IsNotEdit}
use Rattle.net_machine.proofs.Forms.{break_form, trace_source}
use Rattle.net_machine.proofs.happen.happen.Goals as goal

pub unreachable-requires : goal.unreachable-requires
unreachable-requires c = subst IsNotEdit c.in-Edit.is c.requires.not_edit

pub trace-requires-clause-source : goal.trace-requires-clause-source
trace-requires-clause-source c =
    trace_source c.in-Trace.packet (subst (λ (e : Event). IsTrue (has_event_form e)) c.in-Trace.is c.requires.form)

pub broken-requires-clause-some : goal.broken-requires-clause-some
broken-requires-clause-some c =
    break_form _ _ c.in-Break.n
    (subst (λ (e : Event). IsTrue (has_event_form e)) c.in-Break.is c.requires.form)
