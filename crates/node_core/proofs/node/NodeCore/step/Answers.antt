use Rattle.std.proofs.Common.{◌<◌, ◌≤◌, List, ℕ, arith, length, subst, sym}
use Rattle.std.specs.Prelude.{[]}
use Rattle.std.proofs.lemmas.List.{get_or_read}
use Rattle.node_core.proofs.Kept.{set_few, swept_few, swept_live}
use Rattle.node_core.proofs.node.NodeCore.step.Goals as goal

pub returns-clause-few : goal.returns-clause-few
returns-clause-few g c = λ few.
    let kept = c.args.self.now.inboxes.items in
    let at = c.from.result in
    let octets = c.index_mut-inbox.result.now in
    let lt : at < length kept = omega (arith, c.from.ensures, c.session_of.ensures, c.requires.known, c.requires.many) in
    let short : length octets ≤ 65539 =
    subst (λ (o : List ℕ). length o ≤ 65539) (sym (get_or_read kept at octets lt c.index_mut-inbox.ensures.value [])) (few at) in
    swept_few (g.E.Ends.posts c.advance_keeping-stepped.new.ends) _ _ c.sweep.ensures
    (set_few kept at c.advance_keeping-stepped.new.inbox few (c.advance_keeping-stepped.ensures.few short))

pub returns-clause-live : goal.returns-clause-live
returns-clause-live g c = λ _. swept_live (g.E.Ends.posts c.advance_keeping-stepped.new.ends) _ _ c.sweep.ensures
