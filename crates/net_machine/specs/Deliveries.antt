-- What one delivery, and what several in turn, make of a network.
use Rattle.std.specs.Prelude.{◌≡◌, ◌+◌, ℕ, zero, suc, List, [], ◌∷◌, drop, length, take, Bool, true, false}
use denote.Bor.{Bor}
use Rattle.std.specs.List.{concat}
use Rattle.ov_link.specs.declared.step.Input.{Input}
use Rattle.ov_link.specs.declared.step.Input.TheVariants.{Bytes, Closed}
use Rattle.running_nodes.specs.Seats.{Seat, kept_at, link_at, live_at, notice_at, seat}
use Rattle.running_nodes.specs.Steps.{Takes, cleared, untaken, with_link, with_notice, with_seat}
use Rattle.running_nodes.specs.declared.place.SessionPlace.{SessionPlace}
use Rattle.net_machine.specs.declared.ends.SessionEnds.{SessionEnds}

-- a node takes an input, and the sessions of which it closed its end go down
pub record TakesAt (seats : List Seat) (k : ℕ) (input : Input) (after : List Seat) : Type 0 where
  pub node : Seat
  pub takes : Takes (seat seats k) node input
  pub is : after ≡ cleared (with_seat k node seats) k

-- a node takes some octets on a session
pub record TakesOctets (seats : List Seat) (p : SessionPlace) (octets : List ℕ) (after : List Seat) : Type 0 where
  pub bytes : Bor (List ℕ)
  pub are : bytes.now ≡ octets
  pub takes : TakesAt seats p.node (Bytes p.session bytes) after

-- what the near end takes: a notice that waits there closes it. Else the first message that left the far end comes, as
-- far as its octets were not taken
abbrev pub DeliversTo : List Seat → SessionEnds → Bool → List (List ℕ) → List Seat → Type 0
DeliversTo seats e true messages after =
    TakesAt (with_notice e.near false seats) e.near.node (Closed e.near.session) after
DeliversTo seats e false [] after = after ≡ seats
DeliversTo seats e false (octets ∷ messages) after =
    TakesOctets (with_link e.far messages seats) e.near (drop (length (kept_at seats e.near)) octets) after

-- nothing comes to an end that is not live
abbrev pub DeliversIf : Bool → List Seat → SessionEnds → List Seat → Type 0
DeliversIf false seats e after = after ≡ seats
DeliversIf true seats e after = DeliversTo seats e (notice_at seats e.near) (link_at seats e.far) after

-- one message or notice is taken at the near end, where there is one
abbrev pub Delivers : List Seat → SessionEnds → List Seat → Type 0
Delivers seats e after = DeliversIf (live_at seats e.near) seats e after

-- one by one, as often
abbrev pub DeliversMany : ℕ → List Seat → SessionEnds → List Seat → Type 0
DeliversMany zero seats e after = after ≡ seats
DeliversMany (suc n) seats e after =
    (between : List Seat) × Delivers seats e between × DeliversMany n between e after

-- ---- octets
-- the next n octets that left the far end come, or all where there are fewer. A notice counts as one octet
abbrev pub DeliversOctetsTo : List Seat → SessionEnds → ℕ → Bool → List (List ℕ) → List Seat → Type 0
DeliversOctetsTo seats e n true messages after =
    TakesAt (with_notice e.near false seats) e.near.node (Closed e.near.session) after
DeliversOctetsTo seats e n false [] after = after ≡ seats
DeliversOctetsTo seats e n false messages after =
    TakesOctets (with_link e.far (untaken (length (kept_at seats e.near) + n) messages) seats) e.near
    (take n (drop (length (kept_at seats e.near)) (concat messages))) after

abbrev pub DeliversOctetsIf : Bool → List Seat → SessionEnds → ℕ → List Seat → Type 0
DeliversOctetsIf false seats e n after = after ≡ seats
DeliversOctetsIf true seats e n after = DeliversOctetsTo seats e n (notice_at seats e.near) (link_at seats e.far) after

abbrev pub DeliversOctets : List Seat → SessionEnds → ℕ → List Seat → Type 0
DeliversOctets seats e n after = DeliversOctetsIf (live_at seats e.near) seats e n after
