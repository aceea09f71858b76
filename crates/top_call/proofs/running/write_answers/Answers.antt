use Rattle.std.proofs.Common.{◌≡◌, ◌∙◌, ◌++◌, ◌∷◌, [], sym, ap, arith, refl}
use Rattle.std.proofs.lemmas.Grind.{common_steps}
use Rattle.ov_io.proofs.PieceLemmas.{ends_cut, ends_whole, on_err}
use Rattle.net_machine.proofs.Taking.{one_by_one}
use Rattle.top_call.proofs.Scheduled.{front_steps, way_of_all, way_steps}
use Rattle.top_call.proofs.running.write_answers.Goals as goal

pub loop-event-preserved : goal.loop-event-preserved
loop-event-preserved g c =
    let i = c.loop-event.invariant in
    record {
      way = way_steps _ _ _ _ _ _ _ _ _ _ i.opening i.events i.way c.in_ok-write_step.ensures.ok;
      rest = one_by_one c.loop-event.yielded c.in-Some.event _ _ _ c.in-Some.ensures.steps.0 i.rest;
      kept = c.in_ok-write_step.ensures.cause ∙ i.kept;
      opening = c.write_step.ensures.opening ∙ i.opening;
      events = c.in_ok-write_step.ensures.events ∙ ap (λ es. es ++ c.in-Some.event ∷ []) i.events;
      works = c.in_ok-write_step.ensures.works;
      state = c.in_ok-write_step.ensures.state;
      ties = c.in_ok-write_step.ensures.ties;
    }

pub returns-in_err-write_step-clause-front : goal.returns-in_err-write_step-clause-front
returns-in_err-write_step-clause-front g c =
    let i = c.loop-event.invariant in
    on_err c.from_residual.result _
    (front_steps _ _ _ _ _ _ _ _ c.in-Some.event _ _ i.opening i.events
    (ap (λ es. c.loop-event.yielded ++ es) (sym c.in-Some.ensures.steps.0) ∙ i.rest) i.way c.in_err-write_step.ensures.front)

pub returns-clause-ok : goal.returns-clause-ok
returns-clause-ok g c =
    let i = c.loop-event.invariant in
    let all : c.loop-event.yielded ≡ c.args.events.items = grind (arith, common_steps) in
    ends_whole c.write_gathered.result _ _ _ _ [] _ (way_of_all _ _ _ c.args.net.now.opening all i.way) refl c.write_gathered.ensures.ok

pub returns-clause-front : goal.returns-clause-front
returns-clause-front g c =
    let i = c.loop-event.invariant in
    let all : c.loop-event.yielded ≡ c.args.events.items = grind (arith, common_steps) in
    ends_cut c.write_gathered.result _ _ _ _ [] _ (way_of_all _ _ _ c.args.net.now.opening all i.way) c.write_gathered.ensures.front
