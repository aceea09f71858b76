use Rattle.std.proofs.Common.{◌≡◌, ◌++◌, map, IsTrue}
use Rattle.std.specs.List.{list_all}
use Rattle.config_types.specs.Form.{has_event_form}
use Rattle.config_types.specs.Form.{has_packet_form}
use Rattle.config_types.specs.declared.event.Event.TheVariants.{Trace}
use Rattle.top_call.proofs.traces.with_traces.Given as goal

abbrev pub invariant-loop-packet : goal.invariant-loop-packet
invariant-loop-packet l = record {
  all : l.all.items ++ map Trace l.packet-iterator.rest.items ≡ l.fn.events.items ++ map Trace l.fn.packets.items;
  form : IsTrue (list_all has_event_form l.all.items);
  left : IsTrue (list_all has_packet_form l.packet-iterator.rest.items);
}
