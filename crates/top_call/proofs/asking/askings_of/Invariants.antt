use Rattle.std.proofs.Common.{◌≡◌, ◌++◌, drop, map}
use Rattle.net_machine.specs.Runs.{tied_moment}
use Rattle.top_call.specs.Constraint.{AreControlNodes, asking_of}
use Rattle.top_call.specs.ConstraintNetworks.{EachNeedsNoMore}
use Rattle.top_call.proofs.asking.askings_of.Given as goal

abbrev pub invariant-loop-controller : goal.invariant-loop-controller
invariant-loop-controller l = record {
  made : l.all.items ++ map (asking_of (tied_moment l.net.opening l.net.events).network) (drop l.controller-index l.controllers)
      ≡ map (asking_of (tied_moment l.net.opening l.net.events).network) l.controllers;
  enough : EachNeedsNoMore (tied_moment l.net.opening l.net.events).network (drop l.controller-index l.controllers)
      → EachNeedsNoMore (tied_moment l.net.opening l.net.events).network l.controllers;
  there : AreControlNodes (tied_moment l.net.opening l.net.events).network.setup.topology (drop l.controller-index l.controllers);
}
