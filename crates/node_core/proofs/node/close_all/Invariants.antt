use Rattle.std.proofs.Common.{◌≡◌, ◌<◌, ℕ, length}
use Rattle.node_model.specs.Step.{nothing, post}
use Rattle.node_core.proofs.node.close_all.Given as goal

abbrev pub invariant-loop-session : goal.invariant-loop-session
invariant-loop-session g l = record {
  kept : g.E.Ends.kind l.ends ≡ g.E.Ends.kind l.fn.ends;
  stays : g.E.Ends.stays l.fn.ends l.ends;
  long : length (g.E.Ends.posts l.ends) ≡ length (g.E.Ends.posts l.fn.ends);
  closed : (i : ℕ) → i < l.session → post (g.E.Ends.posts l.ends) i ≡ nothing;
}
