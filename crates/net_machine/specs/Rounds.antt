-- What a round makes of a network.
use Rattle.std.specs.Prelude.{◌≡◌, ℕ, zero, suc, List, [], ◌∷◌, Bool, true, false}
use mathlib.Core.Bool.{beq}
use Rattle.std.specs.List.{flat_map}
use Rattle.running_nodes.specs.Seats.{Seat, notice_at}
use Rattle.net_machine.specs.declared.ends.SessionEnds.{SessionEnds}
use Rattle.net_machine.specs.declared.round.Due.{Due}
use Rattle.net_machine.specs.Deliveries.{Delivers}
use Rattle.net_machine.specs.Seating.{AreSeated, turned, waiting}

-- ---- what waits as a round begins: in each session from its earlier node to its later one, and then back
abbrev pub due_at : List Seat → SessionEnds → Due
due_at seats e = record { ends = e; is_notice = notice_at seats e.near; count = waiting seats e }

abbrev pub IsDueSeated : List Seat → Due → Type 0
IsDueSeated seats d = AreSeated seats d.ends

abbrev pub dues : List Seat → List SessionEnds → List Due
dues seats order = flat_map (λ e. due_at seats (turned e) ∷ due_at seats e ∷ []) order

-- ---- each of those that waited is delivered, where it is still there
abbrev pub DeliversWhere : Bool → Due → List Seat → List Seat → Type 0
DeliversWhere true d seats after = Delivers seats d.ends after
DeliversWhere false d seats after = after ≡ seats

abbrev pub DeliversDue : Due → List Seat → List Seat → Type 0
DeliversDue d seats after = DeliversWhere (beq (notice_at seats d.ends.near) d.is_notice) d seats after

abbrev pub DeliversDues : ℕ → Due → List Seat → List Seat → Type 0
DeliversDues zero d seats after = after ≡ seats
DeliversDues (suc n) d seats after =
    (between : List Seat) × DeliversDue d seats between × DeliversDues n d between after

abbrev pub DeliversAll : List Due → List Seat → List Seat → Type 0
DeliversAll [] seats after = after ≡ seats
DeliversAll (d ∷ ds) seats after =
    (between : List Seat) × DeliversDues d.count d seats between × DeliversAll ds between after

abbrev pub IsRound : List SessionEnds → List Seat → List Seat → Type 0
IsRound order seats after = DeliversAll (dues seats order) seats after
