use Rattle.std.proofs.Common.{◌≡◌, drop}
use Rattle.std.specs.List.{list_any, AllByRecursion}
use Rattle.rt_membership.specs.Asked.{IsAsked}
use Rattle.rt_constrain.specs.Covering.{is_covered_by}
use Rattle.rt_constrain.proofs.covering.covers.Given as goal

abbrev pub invariant-loop-entry : goal.invariant-loop-entry
invariant-loop-entry l = record {
  same : list_any (is_covered_by l.route.targets) (drop l.entry-index l.asked) ≡ list_any (is_covered_by l.route.targets) l.asked;
  form : AllByRecursion IsAsked (drop l.entry-index l.asked);
}
