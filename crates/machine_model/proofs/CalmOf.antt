-- A state in which no session is down and no break is pending is calm.
use Rattle.std.specs.Prelude.{◌≡◌, ℕ, ◌<◌, List, [], ◌∷◌, true, not}
use Rattle.std.specs.List.{list_all}
use Rattle.std.proofs.lemmas.Bool.{and_parts, not-true}
use Rattle.std.proofs.Common.{refl}
use Rattle.machine_model.specs.Setup.{Name}
use Rattle.machine_model.specs.Session.{Message, Session}
use Rattle.machine_model.specs.Rounds.{is_empty, has_no_break}
use Rattle.machine_model.specs.Moments.{Each}
use Rattle.machine_model.proofs.SessionFact.{Fact}
use Rattle.machine_model.proofs.RoundFact.{IsCalm, fact_joined}

none_of : (ns : List ℕ) → is_empty ns ≡ true → ns ≡ []
none_of [] e = refl
none_of (n ∷ ns) e = cc

module _ (size : Name → Message → ℕ) (positive : (n : Name) (m : Message) → 0 < size n m) where
  -- where no session is down and no break is pending
  pub calm_of : (ss : List Session) → Each (Fact size) ss → list_all (λ s. not s.is_down) ss ≡ true → list_all has_no_break ss ≡ true → Each (IsCalm size positive) ss
  calm_of [] f w u = tt
  calm_of (s ∷ ss) f w u =
      let p = and_parts (not s.is_down) (list_all (λ s. not s.is_down) ss) w in
      let q = and_parts (has_no_break s) (list_all has_no_break ss) u in
      let b = and_parts (is_empty s.near.breaks) (is_empty s.far.breaks) q.0 in
      ((fact_joined size positive s f.0 (not-true s.is_down p.0), none_of s.near.breaks b.0, none_of s.far.breaks b.1), calm_of ss f.1 p.1 q.1)
