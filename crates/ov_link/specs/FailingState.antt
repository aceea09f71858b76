-- What a link is that fails where it is told to.
use Rattle.std.specs.Prelude.{ℕ, List, refl}
use Rattle.std.specs.Coded.{Coded, code_by, coded×, coded_list, coded_ℕ}

pub record FailingState : Type 0 where
  -- the messages that it accepted and that were not yet taken out
  pub accepted : List (List ℕ)
  -- the sends from now on that are to fail
  pub breaks : List ℕ
  -- how many sends have failed
  pub faults : ℕ

abbrev pub coded_failing : Coded FailingState
coded_failing =
    code_by (List (List ℕ)
    × (List ℕ × ℕ)) (coded× (coded_list (coded_list coded_ℕ)) (coded× (coded_list coded_ℕ) coded_ℕ))
    (λ s. (s.accepted, (s.breaks, s.faults)))
    (λ c. record { accepted = c.0; breaks = c.1.0; faults = c.1.1 }) (λ _. refl)
