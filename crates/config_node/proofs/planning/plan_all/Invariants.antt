use Rattle.std.proofs.Common.{◌≡◌, map, take, drop}
use Rattle.std.specs.List.{AllByRecursion}
use Rattle.config_node.specs.Ends.{HasSent}
use Rattle.config_node.specs.Planning.{AreEndsTold, plan_of}
use Rattle.config_node.specs.declared.ends.FeedEnd.{FeedEnd}
use Rattle.config_node.proofs.planning.plan_all.Given as goal

abbrev pub invariant-loop-end : goal.invariant-loop-end
invariant-loop-end l = record {
  sessions : map (λ (e : FeedEnd). e.session) l.ends ≡ map (λ (e : FeedEnd). e.session) l.fn.ends;
  sent : AllByRecursion (HasSent l.wants.entries l.changed) l.ends;
  told : AreEndsTold l.wants.entries (take l.end-index l.fn.ends) (take l.end-index l.ends);
  rest : drop l.end-index l.ends ≡ drop l.end-index l.fn.ends;
  plans : l.plans.items ≡ map (plan_of l.wants.entries) (take l.end-index l.fn.ends);
}
