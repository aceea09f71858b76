use Rattle.std.proofs.Common.{List, map, subst}
use Rattle.std.specs.List.Sorted.{IsStrictlySortedBy}
use Rattle.ov_types.specs.Prefix.{block_cmp}
use Rattle.vrouter_fib.proofs.Tries.{Route, whole_rises}
use Rattle.vrouter_fib.proofs.fib.Fib.routes.Goals as goal

pub returns-in_err-list-clause-ascending : goal.returns-in_err-list-clause-ascending
returns-in_err-list-clause-ascending c =
    subst (λ (xs : List Route). IsStrictlySortedBy block_cmp (map (λ (r : Route). r.0) xs)) c.self.view_is (whole_rises c.self.inside.trie c.self.invariant)

pub returns-clause-ascending : goal.returns-clause-ascending
returns-clause-ascending c =
    subst (λ (xs : List Route). IsStrictlySortedBy block_cmp (map (λ (r : Route). r.0) xs)) c.self.view_is (whole_rises c.self.inside.trie c.self.invariant)
