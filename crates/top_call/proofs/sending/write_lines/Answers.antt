use Rattle.std.proofs.Common.{◌++◌, ℕ, List, [], refl, ap, subst}
use Rattle.std.specs.List.{flat_map}
use Rattle.net_machine.specs.Runs.{tied_moment}
use Rattle.ov_io.specs.Inputs.{TookFront}
use Rattle.ov_io.specs.Pieces.{IsOnItsWay}
use Rattle.ov_io.proofs.PieceLemmas.{ends_cut, ends_whole, on_err}
use Rattle.compile_answers.proofs.Ways.{front_first, front_then, way_then}
use Rattle.top_call.specs.Constraint.{sent_by, text_of}
use Rattle.top_call.proofs.sending.write_lines.Goals as goal

pub returns-in_err-write_askings-clause-front : goal.returns-in_err-write_askings-clause-front
returns-in_err-write_askings-clause-front g c =
    let w = (tied_moment c.args.net.now.opening c.args.net.now.events).network in
    let text = text_of w c.args.controllers.now c.args.askings.now in
    let stop = front_first _ _ _ _ (flat_map (sent_by w c.args.askings.now) c.args.controllers.now) c.in_err-write_askings.ensures.front in
    on_err c.from_residual.result _
    (subst (λ (t : List ℕ). TookFront (g.K.Sink.taken c.args.sink.now) (g.K.Sink.taken c.write_askings.new.sink) t)
    (ap (λ (t : List ℕ). t ++ text) c.new-gathered.ensures) stop)

pub returns-in_err-write_sent-clause-front : goal.returns-in_err-write_sent-clause-front
returns-in_err-write_sent-clause-front g c =
    let text = text_of (tied_moment c.args.net.now.opening c.args.net.now.events).network c.args.controllers.now c.args.askings.now in
    let stop = front_then _ _ _ _ _ _ _ c.in_ok-write_askings.ensures.ok c.in_err-write_sent.ensures.front in
    on_err c.from_residual-in_err-write_sent.result _
    (subst (λ (t : List ℕ). TookFront (g.K.Sink.taken c.args.sink.now) (g.K.Sink.taken c.write_sent.new.sink) t)
    (ap (λ (t : List ℕ). t ++ text) c.new-gathered.ensures) stop)

pub returns-clause-ok : goal.returns-clause-ok
returns-clause-ok g c =
    let text = text_of (tied_moment c.args.net.now.opening c.args.net.now.events).network c.args.controllers.now c.args.askings.now in
    let way = way_then _ _ _ _ _ _ _ _ c.in_ok-write_askings.ensures.ok c.in_ok-write_sent.ensures.ok in
    let whole = subst (λ (t : List ℕ). IsOnItsWay (g.K.Sink.taken c.args.sink.now) (g.K.Sink.taken c.write_sent.new.sink)
    c.write_sent.new.gathered [] t) (ap (λ (t : List ℕ). t ++ text) c.new-gathered.ensures) way in
    ends_whole c.write_gathered.result _ _ _ _ _ _ whole refl c.write_gathered.ensures.ok

pub returns-clause-front : goal.returns-clause-front
returns-clause-front g c =
    let text = text_of (tied_moment c.args.net.now.opening c.args.net.now.events).network c.args.controllers.now c.args.askings.now in
    let way = way_then _ _ _ _ _ _ _ _ c.in_ok-write_askings.ensures.ok c.in_ok-write_sent.ensures.ok in
    let whole = subst (λ (t : List ℕ). IsOnItsWay (g.K.Sink.taken c.args.sink.now) (g.K.Sink.taken c.write_sent.new.sink)
    c.write_sent.new.gathered [] t) (ap (λ (t : List ℕ). t ++ text) c.new-gathered.ensures) way in
    ends_cut c.write_gathered.result _ _ _ _ _ _ whole c.write_gathered.ensures.front
