use Rattle.std.proofs.Common.{ap, ◌≤◌, ◌≡◌, length, refl, arith}
use Rattle.running_nodes.specs.Halves.{Outer}
use Rattle.running_nodes.proofs.Cleared.{both_all, both_more}
use Rattle.running_nodes.proofs.edges.Edge.restart.Goals as goal

pub loop-session-init : goal.loop-session-init
loop-session-init c = refl

pub clear-requires : goal.clear-requires
clear-requires c =
    let same : length c.loop-session.self.others ≡ length c.args.self.now.others = ap (λ (o : Outer). length o.others) c.loop-session.invariant in
    omega (arith, c.sessions-session-end.ensures.sessions)

pub set_notice-requires : goal.set_notice-requires
set_notice-requires c =
    let same : length c.loop-session.self.others ≡ length c.args.self.now.others = ap (λ (o : Outer). length o.others) c.loop-session.invariant in
    let after : length c.clear.new.self.others ≡ length c.loop-session.self.others = ap (λ (o : Outer). length o.others) c.clear.ensures in
    omega (arith, c.sessions-session-end.ensures.sessions)

pub loop-session-preserved : goal.loop-session-preserved
loop-session-preserved c =
    both_more c.args.self.now c.loop-session.self c.clear.new.self c.set_notice.new.self c.loop-session.session c.loop-session.invariant c.clear.ensures c.set_notice.ensures

pub returns : goal.returns
returns c =
    let links : length c.args.self.now.links ≤ c.loop-session.session = omega (arith, c.sessions-session-end.ensures.sessions, c.sessions-session-end.ensures.even.links) in
    let notices : length c.args.self.now.notices ≤ c.loop-session.session = omega (arith, c.sessions-session-end.ensures.sessions, c.sessions-session-end.ensures.even.notices) in
    both_all c.args.self.now c.loop-session.self c.loop-session.session c.loop-session.invariant links notices
