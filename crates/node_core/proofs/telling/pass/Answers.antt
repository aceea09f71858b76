use Rattle.std.proofs.Common.{◌≡◌, ◌<◌, List, ℕ, length, arith, sym, ◌∙◌, subst}
use Rattle.std.proofs.lemmas.List.{get_or_read}
use Rattle.node_core.specs.Passing.{Serves}
use Rattle.node_core.proofs.Passing.{passes_more}
use Rattle.node_core.proofs.telling.pass.Goals as goal

pub loop-session-preserved : goal.loop-session-preserved
loop-session-preserved g c =
    let l = c.loop-session in
    let inv = l.invariant in
    let plan = c.index-plans-session.result in
    let in_links : l.session < length l.links =
    omega (arith, c.loop-session-test.true, c.len-session-end.ensures, inv.passes.links_long) in
    let in_posts : l.session < length (g.E.Ends.posts l.ends) =
    omega (arith, in_links, c.requires.linked, inv.passes.links_long, inv.passes.posts_long) in
    let in_plans : l.session < length c.args.plans.now =
    omega (arith, in_posts, c.requires.planned, inv.passes.posts_long) in
    let read = get_or_read c.args.plans.now l.session plan in_plans c.index-plans-session.is in
    let messages : c.as_slice.result.now ≡ plan.messages = c.as_slice.ensures in
    let serves = subst (λ (ms : List (List ℕ)). Serves g.L.Link.accepted g.L.Link.breaks g.L.Link.faults ms
    c.in_ok-failed.failed l.links c.serve.new.links l.session) messages c.in_ok-failed.ensures.serves in
    record {
      kind = c.in_ok-failed.ensures.kind ∙ inv.kind;
      stays = g.met.E.Ends.stays_on c.args.ends.now l.ends c.serve.new.ends inv.stays c.in_ok-failed.ensures.stays;
      passes = rw c.noted-lowest.ensures (passes_more _ _ _ _ _ _ _ _ _ _ plan c.in_ok-failed.failed _ _ inv.passes
          in_posts in_links (λ d. sym (read d)) serves c.in_ok-failed.ensures.ends);
    }
