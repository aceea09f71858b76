-- Whether a session is down, by its two ends, and room for all sessions.
use Rattle.std.specs.Prelude.{◌≡◌, ◌≢◌, ◌⊎◌, ◌<◌, ℕ, List, length, true, false, not, ◌&&◌}
use Rattle.std.specs.declared.option.Option.{Option}
use Rattle.std.specs.declared.option.Option.TheVariants.{Some}
use Rattle.std.proofs.lemmas.Bool.{cases_eq}
use Rattle.std.proofs.lemmas.List.{length-set}
use Rattle.std.proofs.Common.{sym, ◌∙◌, ap, subst, inl, inr}
use Rattle.running_nodes.specs.Seats.{Seat, far_of, is_down_at, seat, whole_at, whole_there}
use Rattle.running_nodes.specs.Steps.{with_seat}
use Rattle.running_nodes.specs.Stands.{IsLong}
use Rattle.running_nodes.specs.declared.place.SessionPlace.{SessionPlace}
use Rattle.running_laws.proofs.Lists.{AreAlike, same_far_of, seat_elsewhere, seat_here}

pub down_by_ends : (s s' : List Seat) → AreAlike s s' → (r far : SessionPlace) → far_of s r ≡ Some far
    → whole_at s' r ≡ whole_at s r → whole_at s' far ≡ whole_at s far → is_down_at s' r ≡ is_down_at s r
down_by_ends s s' alike r far is e f =
    ap (λ (o : Option SessionPlace). not (whole_at s' r && whole_there s' o)) (same_far_of s s' alike r ∙ is)
    ∙ (λ i. not (e i && f i))
    ∙ sym (ap (λ (o : Option SessionPlace). not (whole_at s r && whole_there s o)) is)

pub not_down_by_ends : (s s' : List Seat) → AreAlike s s' → (r far : SessionPlace) → far_of s r ≡ Some far
    → whole_at s' r ≡ true → whole_at s' far ≡ true → is_down_at s' r ≡ false
not_down_by_ends s s' alike r far is e f =
    ap (λ (o : Option SessionPlace). not (whole_at s' r && whole_there s' o)) (same_far_of s s' alike r ∙ is)
    ∙ (λ i. not (e i && f i))

-- ---- room for all sessions
pub with_long : (k : ℕ) (n : Seat) (s : List Seat) → k < length s → ((j : ℕ) → j < length s → IsLong (seat s j)) → IsLong n
    → (j : ℕ) → j < length (with_seat k n s) → IsLong (seat (with_seat k n s) j)
with_long k n s lt all long j less = by_node (cases_eq j k) (subst (λ m. j < m) (length-set s k n) less)
  where
    by_node : (j ≡ k) ⊎ (j ≢ k) → j < length s → IsLong (seat (with_seat k n s) j)
    by_node (inl e) less =
        subst (λ j. IsLong (seat (with_seat k n s) j)) (sym e) (subst IsLong (sym (seat_here k n s lt)) long)
    by_node (inr ne) less = subst IsLong (sym (seat_elsewhere k j n s ne)) (all j less)
