use Rattle.std.proofs.Common.{◌≡◌, ◌++◌, drop, filter, not}
use Rattle.std.specs.List.{list_any}
use Rattle.inspect_changes.specs.Objects.{same_object}
use Rattle.inspect_changes.proofs.objects.without.Given as goal

abbrev pub invariant-loop-object : goal.invariant-loop-object
invariant-loop-object l =
    l.alone.items ++ filter (λ o. not (list_any (same_object o) l.others)) (drop l.object-index l.objects)
    ≡ filter (λ o. not (list_any (same_object o) l.others)) l.objects
