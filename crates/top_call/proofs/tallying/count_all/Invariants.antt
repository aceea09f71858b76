use Rattle.std.proofs.Common.{◌≡◌, ◌++◌, length, false}
use Rattle.schedule_script.specs.Kept.{AreAlike, ties_in}
use Rattle.net_machine.specs.RunningNodes.Stands.{StandsFor}
use Rattle.net_machine.specs.MachineMomentLaws.Runs.{tied_moment}
use Rattle.top_call.specs.Tallies.{tally}
use Rattle.top_call.proofs.Counting.{IsFew}
use Rattle.top_call.proofs.tallying.count_all.Given as goal

abbrev pub invariant-loop-event : goal.invariant-loop-event
invariant-loop-event l = record {
  rest : l.yielded ++ l.event-iterator.rest.items ≡ l.fn.events.items;
  tally : l.tally ≡ tally l.fn.net.opening l.yielded;
  few : IsFew l.tally (length l.yielded);
  opening : l.net.opening ≡ l.fn.net.opening;
  events : l.net.events ≡ l.yielded;
  works : l.net.failed ≡ false;
  state : StandsFor l.net.seats (tied_moment l.net.opening l.net.events).network;
  ties : AreAlike (ties_in l.net.ties) (tied_moment l.net.opening l.net.events).ties;
}
