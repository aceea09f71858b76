use Rattle.std.proofs.Common.{◌≡◌}
use Rattle.node_core.specs.Passing.{Passes}
use Rattle.node_core.proofs.telling.pass.Given as goal

abbrev pub invariant-loop-session : goal.invariant-loop-session
invariant-loop-session g l = record {
  kind : g.E.Ends.kind l.ends ≡ g.E.Ends.kind l.fn.ends;
  stays : g.E.Ends.stays l.fn.ends l.ends;
  passes : Passes g.L.Link.accepted g.L.Link.breaks g.L.Link.faults l.plans (g.E.Ends.posts l.fn.ends)
      (g.E.Ends.posts l.ends) l.fn.links l.links l.lowest l.session;
}
