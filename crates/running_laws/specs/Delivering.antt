-- What the deliveries of single messages and notices make of the state for which seats stand.
use Rattle.std.specs.Prelude.{◌≡◌, ◌≢◌, ◌⊎◌, ◌<◌, ◌+◌, ℕ, List, [], ◌∷◌, drop, length, take, true, false}
use Rattle.std.specs.Borrow.{Bor}
use Rattle.std.specs.List.{concat}
use Rattle.std.specs.declared.option.Option.TheVariants.{None}
use Rattle.ov_link.specs.declared.step.Input.{Input}
use Rattle.ov_link.specs.declared.step.Input.TheVariants.{Bytes, Closed}
use Rattle.machine_laws.specs.MachineModel.Setup.{Name}
use Rattle.machine_laws.specs.MachineModel.Network.{MachineState}
use Rattle.machine_laws.specs.MachineModel.Steps.{deliver, deliver_octets}
use Rattle.running_nodes.specs.Seats.{Seat, kept_at, link_at, notice_at, place_of, seat}
use Rattle.running_nodes.specs.Steps.{Takes, cleared, untaken, with_link, with_notice, with_seat}
use Rattle.running_nodes.specs.Stands.{StandsFor, message_size}
use Rattle.running_nodes.specs.declared.place.SessionPlace.{SessionPlace}
use Rattle.running_laws.specs.Moments.{IsMoment}
use Rattle.running_laws.specs.Asking.{AreAt}

-- the node of a place takes an input, and the sessions of which it closed its end go down
pub record TakesAt (seats : List Seat) (p : SessionPlace) (input : Input) (after : List Seat) : Type 0 where
  pub taken : Seat
  pub takes : Takes (seat seats p.node) taken input
  pub is : after ≡ cleared (with_seat p.node taken seats) p.node

-- what is left of the first message that left the far end is taken
abbrev pub MessagesAreDelivered : Type 0
MessagesAreDelivered =
    (seats : List Seat) (w : MachineState) → IsMoment w → StandsFor seats w → (from to : Name) (p far : SessionPlace)
    → AreAt seats to from p far → notice_at seats p ≡ false
    → (octets : List ℕ) (rest : List (List ℕ)) → link_at seats far ≡ octets ∷ rest
    → (bytes : Bor (List ℕ)) → bytes.now ≡ drop (length (kept_at seats p)) octets
    → (after : List Seat) → TakesAt (with_link far rest seats) p (Bytes p.session bytes) after
    → StandsFor after (deliver from to w) × IsMoment (deliver from to w)

-- the next n octets that left the far end are taken, or all where there are fewer. They may end within a message
abbrev pub OctetsAreDelivered : Type 0
OctetsAreDelivered =
    (seats : List Seat) (w : MachineState) → IsMoment w → StandsFor seats w → (from to : Name) (p far : SessionPlace)
    → AreAt seats to from p far → notice_at seats p ≡ false → link_at seats far ≢ [] → (n : ℕ) → 0 < n
    → (bytes : Bor (List ℕ)) → bytes.now ≡ take n (drop (length (kept_at seats p)) (concat (link_at seats far)))
    → (after : List Seat)
    → TakesAt (with_link far (untaken (length (kept_at seats p) + n) (link_at seats far)) seats) p
    (Bytes p.session bytes) after
    → StandsFor after (deliver_octets message_size from to n w) × IsMoment (deliver_octets message_size from to n w)

-- a notice of loss is taken
abbrev pub NoticesAreDelivered : Type 0
NoticesAreDelivered =
    (seats : List Seat) (w : MachineState) → IsMoment w → StandsFor seats w → (from to : Name) (p far : SessionPlace)
    → AreAt seats to from p far → notice_at seats p ≡ true
    → (after : List Seat) → TakesAt (with_notice p false seats) p (Closed p.session) after
    → StandsFor after (deliver from to w) × IsMoment (deliver from to w)

-- whatever number of octets is asked for
abbrev pub NoticesCountAsOctets : Type 0
NoticesCountAsOctets =
    (seats : List Seat) (w : MachineState) → IsMoment w → StandsFor seats w → (from to : Name) (p far : SessionPlace)
    → AreAt seats to from p far → notice_at seats p ≡ true
    → (n : ℕ) → deliver_octets message_size from to n w ≡ deliver from to w

-- where nothing waits, nothing is done
abbrev pub NothingIsDelivered : Type 0
NothingIsDelivered =
    (seats : List Seat) (w : MachineState) → IsMoment w → StandsFor seats w → (from to : Name)
    → ((place_of seats to from ≡ None)
    ⊎ ((p : SessionPlace) × (far : SessionPlace) × AreAt seats to from p far × (notice_at seats p ≡ false)
    × (link_at seats far ≡ [])))
    → (deliver from to w ≡ w) × ((n : ℕ) → deliver_octets message_size from to n w ≡ w)
