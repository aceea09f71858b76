use Rattle.std.proofs.Common.{ap, ◌≤◌, ◌≡◌, length, refl, arith}
use Rattle.running_nodes.specs.Halves.{Outer}
use Rattle.running_nodes.proofs.Cleared.{breaks_all, breaks_more}
use Rattle.running_nodes.proofs.edges.Edge.drop_breaks.Goals as goal

pub loop-session-init : goal.loop-session-init
loop-session-init c = refl

pub drop_breaks_at-requires : goal.drop_breaks_at-requires
drop_breaks_at-requires c =
    let same : length c.loop-session.self.others ≡ length c.args.self.now.others = ap (λ (o : Outer). length o.others) c.loop-session.invariant in
    omega (arith, c.sessions-session-end.ensures.sessions)

pub loop-session-preserved : goal.loop-session-preserved
loop-session-preserved c =
    breaks_more c.args.self.now c.loop-session.self c.drop_breaks_at.new.self c.loop-session.session c.loop-session.invariant c.drop_breaks_at.ensures

pub returns : goal.returns
returns c =
    let breaks : length c.args.self.now.breaks ≤ c.loop-session.session = omega (arith, c.sessions-session-end.ensures.sessions, c.sessions-session-end.ensures.even.breaks) in
    breaks_all c.args.self.now c.loop-session.self c.loop-session.session c.loop-session.invariant breaks
