use Rattle.std.proofs.Common.{◌≡◌, ◌++◌, [], false}
use Rattle.schedule_script.specs.Kept.{AreAlike, ties_in}
use Rattle.net_machine.specs.RunningNodes.Stands.{StandsFor}
use Rattle.ov_io.specs.Pieces.{IsOnItsWay}
use Rattle.net_machine.specs.MachineMomentLaws.Runs.{tied_moment}
use Rattle.top_call.specs.Schedules.{run_text}
use Rattle.top_call.proofs.running.write_answers.Given as goal

abbrev pub invariant-loop-event : goal.invariant-loop-event
invariant-loop-event g l = record {
  way : IsOnItsWay (g.K.Sink.taken l.fn.sink) (g.K.Sink.taken l.sink) l.gathered [] (run_text l.fn.net.opening l.yielded);
  rest : l.yielded ++ l.event-iterator.rest.items ≡ l.fn.events.items;
  kept : g.K.Sink.faults l.sink ≡ g.K.Sink.faults l.fn.sink;
  opening : l.net.opening ≡ l.fn.net.opening;
  events : l.net.events ≡ l.yielded;
  works : l.net.failed ≡ false;
  state : StandsFor l.net.seats (tied_moment l.net.opening l.net.events).network;
  ties : AreAlike (ties_in l.net.ties) (tied_moment l.net.opening l.net.events).ties;
}
