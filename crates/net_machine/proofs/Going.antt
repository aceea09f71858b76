-- What is done again and again: one step more, and none.
use Rattle.std.specs.Prelude.{◌≡◌, ◌+◌, ◌-◌, ◌<◌, ◌≤◌, ℕ, zero, suc, List, [], ◌∷◌, length, drop, Bool, true, false, cond, MatchBool}
use Rattle.std.proofs.Common.{refl, sym, ap, subst, arith, get_or}
use Rattle.std.proofs.lemmas.List.{at_drop_more, drop_all}
use Rattle.running_nodes.specs.Seats.{Seat, link_at, live_at, notice_at}
use Rattle.net_machine.specs.declared.ends.SessionEnds.{SessionEnds}
use Rattle.net_machine.specs.declared.round.Due.{Due}
use Rattle.net_machine.specs.Connections.{Connects, ConnectsAll}
use Rattle.net_machine.specs.Deliveries.{Delivers, DeliversIf, DeliversMany, DeliversTo}
use Rattle.running_laws.specs.Losing.{all_told}
use Rattle.running_nodes.specs.Steps.{cleared_from}
use Rattle.net_machine.specs.Rounds.{DeliversAll, DeliversDue, DeliversDues, IsRound}
use Rattle.net_machine.specs.Seating.{waiting}
use Rattle.net_machine.specs.Settling.{RoundsFrom, is_quiet}

one_left : (n i : ℕ) → i < n → n - i ≡ suc (n - (i + 1))
one_left n i h = omega arith

none_left : (n i : ℕ) → n ≤ i → n - i ≡ 0
none_left n i h = omega arith

pub all_left : (n : ℕ) → n - 0 ≡ n
all_left n = omega arith

-- ---- deliveries
pub many_more : (n i : ℕ) (e : SessionEnds) (a b c : List Seat) → i < n → Delivers a e b → DeliversMany (n - (i + 1)) b e c
    → DeliversMany (n - i) a e c
many_more n i e a b c h one rest = subst (λ m. DeliversMany m a e c) (sym (one_left n i h)) (b, one, rest)

pub many_none : (n i : ℕ) (e : SessionEnds) (a : List Seat) → n ≤ i → DeliversMany (n - i) a e a
many_none n i e a h = subst (λ m. DeliversMany m a e a) (sym (none_left n i h)) refl

nothing_comes : (a : List Seat) (e : SessionEnds) (notice : Bool) (messages : List (List ℕ))
    → cond notice 1 (length messages) ≡ 0 → DeliversTo a e notice messages a
nothing_comes a e true messages h = absurd (omega (arith, h))
nothing_comes a e false [] h = refl
nothing_comes a e false (octets ∷ messages) h = absurd (omega (arith, h))

pub none_waits : (a : List Seat) (e : SessionEnds) → waiting a e ≡ 0 → Delivers a e a
none_waits a e h =
    elim (live_at a e.near) as (λ b. DeliversIf b a e a) [
      | true ↦ nothing_comes a e (notice_at a e.near) (link_at a e.far) h
      | false ↦ refl
    ]

pub many_wait : (n : ℕ) (e : SessionEnds) (a : List Seat) → waiting a e ≡ 0 → DeliversMany n a e a
many_wait zero e a h = refl
many_wait (suc n) e a h = (a, none_waits a e h, many_wait n e a h)

-- ---- rounds
pub dues_more : (n i : ℕ) (d : Due) (a b c : List Seat) → i < n → DeliversDue d a b → DeliversDues (n - (i + 1)) d b c
    → DeliversDues (n - i) d a c
dues_more n i d a b c h one rest = subst (λ m. DeliversDues m d a c) (sym (one_left n i h)) (b, one, rest)

pub dues_none : (n i : ℕ) (d : Due) (a : List Seat) → n ≤ i → DeliversDues (n - i) d a a
dues_none n i d a h = subst (λ m. DeliversDues m d a a) (sym (none_left n i h)) refl

pub all_more : (ds : List Due) (i : ℕ) (d : Due) (a b c : List Seat) → i < length ds
    → DeliversDues (get_or ds i d).count (get_or ds i d) a b → DeliversAll (drop (i + 1) ds) b c
    → DeliversAll (drop i ds) a c
all_more ds i d a b c h one rest =
    subst (λ (es : List Due). DeliversAll es a c) (sym (at_drop_more (λ es. es) ds i d h)) (b, one, rest)

pub all_none : (ds : List Due) (i : ℕ) (a : List Seat) → length ds ≤ i → DeliversAll (drop i ds) a a
all_none ds i a h = subst (λ (es : List Due). DeliversAll es a a) (sym (drop_all i ds h)) refl

-- ---- connections
pub connects_more : (es : List SessionEnds) (i : ℕ) (d : SessionEnds) (a b c : List Seat) → i < length es
    → Connects a (get_or es i d) b → ConnectsAll (drop (i + 1) es) b c → ConnectsAll (drop i es) a c
connects_more es i d a b c h one rest =
    subst (λ (ds : List SessionEnds). ConnectsAll ds a c) (sym (at_drop_more (λ ds. ds) es i d h)) (b, one, rest)

pub connects_none : (es : List SessionEnds) (i : ℕ) (a : List Seat) → length es ≤ i → ConnectsAll (drop i es) a a
connects_none es i a h = subst (λ (ds : List SessionEnds). ConnectsAll ds a a) (sym (drop_all i es h)) refl

-- ---- settling
pub rounds_more : (n i done : ℕ) (order : List SessionEnds) (a b c : List Seat) (r : ℕ) → i < n → is_quiet a order ≡ false
    → IsRound order a b → RoundsFrom (n - (i + 1)) (done + 1) order b r c → RoundsFrom (n - i) done order a r c
rounds_more n i done order a b c r h busy one rest =
    subst (λ m. RoundsFrom m done order a r c) (sym (one_left n i h))
    (subst (λ q. MatchBool q ((r ≡ done) × (c ≡ a))
    ((between : List Seat) × IsRound order a between × RoundsFrom (n - (i + 1)) (done + 1) order between r c)) (sym busy)
    (b, one, rest))

pub rounds_quiet : (n i done : ℕ) (order : List SessionEnds) (a : List Seat) → i < n → is_quiet a order ≡ true
    → RoundsFrom (n - i) done order a done a
rounds_quiet n i done order a h quiet =
    subst (λ m. RoundsFrom m done order a done a) (sym (one_left n i h))
    (subst (λ q. MatchBool q ((done ≡ done) × (a ≡ a))
    ((between : List Seat) × IsRound order a between × RoundsFrom (n - (i + 1)) (done + 1) order between done a))
    (sym quiet) (refl, refl))

pub rounds_none : (n i done : ℕ) (order : List SessionEnds) (a : List Seat) → n ≤ i → RoundsFrom (n - i) done order a done a
rounds_none n i done order a h = subst (λ m. RoundsFrom m done order a done a) (sym (none_left n i h)) (refl, refl)

-- ---- the other ends of a node that restarts
pub told_more : (n i k : ℕ) (a : List Seat) → i < n
    → all_told (n - i) k i a ≡ all_told (suc (n - (i + 1))) k i a
told_more n i k a h = ap (λ m. all_told m k i a) (one_left n i h)

pub told_none : (n i k : ℕ) (a : List Seat) → n ≤ i → all_told (n - i) k i a ≡ a
told_none n i k a h = ap (λ m. all_told m k i a) (none_left n i h)

-- ---- the ends of a node after its step
pub cleared_more : (n i k : ℕ) (a : List Seat) → i < n
    → cleared_from (n - i) k i a ≡ cleared_from (suc (n - (i + 1))) k i a
cleared_more n i k a h = ap (λ m. cleared_from m k i a) (one_left n i h)

pub cleared_none : (n i k : ℕ) (a : List Seat) → n ≤ i → cleared_from (n - i) k i a ≡ a
cleared_none n i k a h = ap (λ m. cleared_from m k i a) (none_left n i h)
