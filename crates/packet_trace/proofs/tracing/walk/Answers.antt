use Rattle.std.proofs.Common.{◌≡◌, ◌<◌, ◌≤◌, ◌-◌, ◌++◌, ℕ, map, [], ◌∷◌, ◌∙◌, arith, suc}
use Rattle.packet_trace.specs.declared.step.LookupStep.TheVariants as Does
use Rattle.packet_trace.proofs.Places.{one_more, some_mapped}
use Rattle.packet_trace.proofs.Walks.{all_hops, walk_step, hops_step, walk_on, hops_on, walk_spent, hops_spent}
use Rattle.packet_trace.proofs.tracing.walk.Goals as goal

pub returns-in-Arrives-clause-outcome : goal.returns-in-Arrives-clause-outcome
returns-in-Arrives-clause-outcome g c =
    let l = c.loop-left in
    walk_step (map g.V.Vrouter.forwarder c.args.agents.now) c.args.address.0 l.left l.services l.place (Does.Arrives c.in-Arrives.port) _ c.loop-left-test.true c.in-Arrives.ensures.leading l.invariant.walked

pub returns-in-Arrives-clause-hops : goal.returns-in-Arrives-clause-hops
returns-in-Arrives-clause-hops g c =
    let l = c.loop-left in
    all_hops (l.hops ++ c.hop_at.result ∷ []) _ c.push.ensures
    ∙ hops_step (map g.V.Vrouter.forwarder c.args.agents.now) c.args.address.0 l.left l.hops c.hop_at.result l.place (Does.Arrives c.in-Arrives.port) _ c.loop-left-test.true c.hop_at.ensures c.in-Arrives.ensures.leading l.invariant.hopped

pub returns-in-Stops-clause-outcome : goal.returns-in-Stops-clause-outcome
returns-in-Stops-clause-outcome g c =
    let l = c.loop-left in
    walk_step (map g.V.Vrouter.forwarder c.args.agents.now) c.args.address.0 l.left l.services l.place (Does.Stops c.in-Stops.why) _ c.loop-left-test.true c.in-Stops.ensures.leading l.invariant.walked

pub returns-in-Stops-clause-hops : goal.returns-in-Stops-clause-hops
returns-in-Stops-clause-hops g c =
    let l = c.loop-left in
    all_hops (l.hops ++ c.hop_at.result ∷ []) _ c.push.ensures
    ∙ hops_step (map g.V.Vrouter.forwarder c.args.agents.now) c.args.address.0 l.left l.hops c.hop_at.result l.place (Does.Stops c.in-Stops.why) _ c.loop-left-test.true c.hop_at.ensures c.in-Stops.ensures.leading l.invariant.hopped

pub loop-left-preserved : goal.loop-left-preserved
loop-left-preserved g c =
    let F = map g.V.Vrouter.forwarder c.args.agents.now in
    let i = c.loop-left.invariant in
    let m : ℕ = c.loop-left.left - 1 in
    let test : 0 < c.loop-left.left = c.loop-left-test.true in
    let e : c.loop-left.left ≡ suc m = omega arith in
    let walked =
    walk_step F c.args.address.0 c.loop-left.left c.loop-left.services c.loop-left.place (Does.Passes c.in-Passes.service c.in-Passes.behind) _ test c.in-Passes.ensures.leading i.walked in
    let hopped =
    hops_step F c.args.address.0 c.loop-left.left c.loop-left.hops c.hop_at.result c.loop-left.place (Does.Passes c.in-Passes.service c.in-Passes.behind) _ test c.hop_at.ensures c.in-Passes.ensures.leading i.hopped in
    record {
      within = c.in-Passes.ensures.place;
      walked = walk_on F c.args.address.0 m c.loop-left.services c.push-in-Passes.new.self c.in-Passes.service c.in-Passes.behind _ c.push-in-Passes.ensures walked;
      hopped = hops_on F c.args.address.0 m (c.loop-left.hops ++ c.hop_at.result ∷ []) c.push.new.self c.in-Passes.service c.in-Passes.behind _ c.push.ensures hopped;
      services = one_more c.loop-left.services c.push-in-Passes.new.self c.in-Passes.service c.loop-left.left m c.args.lookups c.push-in-Passes.ensures e i.services;
      hops = one_more c.loop-left.hops c.push.new.self c.hop_at.result c.loop-left.left m c.args.lookups c.push.ensures e i.hops;
    }

pub returns-clause-outcome : goal.returns-clause-outcome
returns-clause-outcome g c =
    let F = map g.V.Vrouter.forwarder c.args.agents.now in
    let i = c.loop-left.invariant in
    let at = some_mapped g.V.Vrouter.forwarder c.args.agents.now c.loop-left.place.agent i.within in
    let test : c.loop-left.left ≤ 0 = c.loop-left-test.false in
    let spent : c.loop-left.left ≡ 0 = omega arith in
    walk_spent F c.args.address.0 c.loop-left.left c.loop-left.services c.loop-left.place at.0 _ spent at.1 i.walked

pub returns-clause-hops : goal.returns-clause-hops
returns-clause-hops g c =
    let F = map g.V.Vrouter.forwarder c.args.agents.now in
    let i = c.loop-left.invariant in
    let at = some_mapped g.V.Vrouter.forwarder c.args.agents.now c.loop-left.place.agent i.within in
    let test : c.loop-left.left ≤ 0 = c.loop-left-test.false in
    let spent : c.loop-left.left ≡ 0 = omega arith in
    hops_spent F c.args.address.0 c.loop-left.left c.loop-left.hops c.loop-left.place at.0 _ spent at.1 i.hopped
