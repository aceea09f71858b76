use Rattle.std.proofs.Common.{◌≡◌, drop}
use Rattle.std.specs.Fn.{FnReturnsAt}
use Rattle.ov_types.specs.First.{first_of}
use Rattle.config_check.proofs.asking.first_of.Given as goal

abbrev pub invariant-loop-item : goal.invariant-loop-item
invariant-loop-item g l =
    (f : _) → ((x : _) (r : _) → FnReturnsAt g.F.Fn l.answer x r → r ≡ f x) → first_of f (drop l.item-index l.items) ≡ first_of f l.items
