use Rattle.std.proofs.Common.{◌∙◌, ◌++◌, ◌∷◌, [], ap}
use Rattle.machine_model.specs.Events.{event_of}
use Rattle.machine_model.specs.Setup.{checked}
use Rattle.net_machine.specs.MachineMomentLaws.Runs.{answer_tied, tied_moment}
use Rattle.net_machine.proofs.Taking.{one_by_one}
use Rattle.top_call.proofs.Counting.{counted_on, few_on}
use Rattle.top_call.proofs.tallying.count_all.Goals as goal

pub loop-event-preserved : goal.loop-event-preserved
loop-event-preserved c =
    let i = c.loop-event.invariant in
    let event = c.in-Some.event in
    let old = c.loop-event.net in
    let new = c.count_step.new.net in
    let answer = answer_tied (tied_moment old.opening old.events) (event_of event) in
    let takes = c.in_ok-tally.ensures.events ∙ ap (λ es. es ++ event ∷ []) i.events in
    record {
      rest = one_by_one c.loop-event.yielded event _ _ _ c.in-Some.ensures.steps.0 i.rest;
      tally = counted_on c.args.net.now.opening old.opening new.opening c.loop-event.yielded old.events new.events event
          c.loop-event.tally c.in_ok-tally.tally i.opening (c.count_step.ensures.opening ∙ i.opening) i.events takes
          i.tally c.in_ok-tally.ensures.tally;
      few = few_on (checked (tied_moment new.opening new.events).network.setup) event answer c.loop-event.tally c.in_ok-tally.tally
          c.loop-event.yielded c.in_ok-tally.ensures.tally i.few;
      opening = c.count_step.ensures.opening ∙ i.opening;
      events = takes;
      works = c.in_ok-tally.ensures.works;
      state = c.in_ok-tally.ensures.state;
      ties = c.in_ok-tally.ensures.ties;
    }
