-- What the links end as, where one of them is lent.
use Rattle.std.specs.Prelude.{ℕ, List, slice_set}
use Rattle.std.specs.Borrow.{Lends, Fml, RattleType, MutBor}
use Rattle.ov_link.specs.contracts.links.Links.{the_row}

-- once the loan r ends, the link of the session is the last value written through r, and each other is as it was
abbrev pub LendsLink : (L : RattleType) → MutBor (List L.Denot) → ℕ → MutBor L.Denot → Fml
LendsLink L links session r = Lends (the_row L) L links r (slice_set links.now session)
