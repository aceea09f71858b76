use Rattle.ov_types.proofs.Places.{IsAscending-with}
use Rattle.ov_types.proofs.targets.Targets.insert.Goals as goal

pub invariant_of-self-in-Before : goal.invariant_of-self-in-Before
invariant_of-self-in-Before c =
    rw (c.in_ok-insert-in-Before.ensures.items, ← c.as_slice.ensures.value, ← c.in-Before.ensures.1)
    (IsAscending-with c.args.target c.as_slice.result.now (rw c.as_slice.ensures.value c.self.invariant))
