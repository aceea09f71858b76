use Rattle.std.proofs.Common.{◌++◌, ℕ, List, [], subst}
use Rattle.ov_io.specs.Pieces.{IsOnItsWay}
use Rattle.ov_io.proofs.PieceLemmas.{ends_cut}
use Rattle.inspect_answers.specs.Explained.{packets_from, why_in}
use Rattle.inspect_answers.proofs.explaining.write_over.Goals as goal

pub returns-clause-front : goal.returns-clause-front
unfolding why_in
returns-clause-front g c =
    let text = packets_from c.args.form c.args.valid.now 1 c.args.packets.now in
    let whole = subst (λ (t : List ℕ). IsOnItsWay (g.K.Sink.taken c.args.sink.now) (g.K.Sink.taken c.write_packets.new.sink) c.write_packets.new.gathered [] t)
    (λ i. c.new-gathered.ensures i ++ text) c.in_ok-write_packets.ensures.ok in
    ends_cut c.write_gathered.result _ _ _ _ _ _ whole c.write_gathered.ensures.front
