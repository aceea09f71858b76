-- What settling makes of a network.
use Rattle.std.specs.Prelude.{◌≡◌, ℕ, zero, suc, ◌+◌, List, map, Bool, ◌&&◌, ◌==◌, MatchBool}
use Rattle.std.specs.List.{list_all}
use Rattle.running_nodes.specs.Seats.{Seat, up_at}
use Rattle.running_nodes.specs.Steps.{unbroken}
use Rattle.net_machine.specs.declared.ends.SessionEnds.{SessionEnds}
use Rattle.net_machine.specs.Connections.{ConnectsAll}
use Rattle.net_machine.specs.Rounds.{IsRound}
use Rattle.net_machine.specs.Seating.{turned, waiting}

-- nothing is in flight
abbrev pub is_still : List Seat → SessionEnds → Bool
is_still seats e = (waiting seats e == 0) && (waiting seats (turned e) == 0)

abbrev pub is_quiet : List Seat → List SessionEnds → Bool
is_quiet seats order = list_all (is_still seats) order

-- a session is at rest: both ends are up, and nothing is in flight
abbrev pub is_rested : List Seat → SessionEnds → Bool
is_rested seats e =
    up_at seats e.near && up_at seats e.far && (waiting seats e == 0) && (waiting seats (turned e) == 0)

abbrev pub is_settled : List Seat → List SessionEnds → Bool
is_settled seats order = list_all (is_rested seats) order

-- rounds until nothing is in flight, at most n more, with their number
abbrev pub RoundsFrom : ℕ → ℕ → List SessionEnds → List Seat → ℕ → List Seat → Type 0
RoundsFrom zero done order seats rounds after = (rounds ≡ done) × (after ≡ seats)
RoundsFrom (suc n) done order seats rounds after =
    MatchBool (is_quiet seats order) ((rounds ≡ done) × (after ≡ seats))
    ((between : List Seat) × IsRound order seats between × RoundsFrom n (done + 1) order between rounds after)

-- no send is to fail any more. Then one round, every session that is down is connected, and then rounds, at most 6 in
-- all more than the number
pub record Settles (most : ℕ) (order : List SessionEnds) (seats : List Seat) (rounds : ℕ) (after : List Seat)
    : Type 0 where
  pub taken : List Seat
  pub first : IsRound order (map unbroken seats) taken
  pub connected : List Seat
  pub connects : ConnectsAll order taken connected
  pub rest : RoundsFrom (most + 5) 1 order connected rounds after
