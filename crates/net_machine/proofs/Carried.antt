-- What deliveries, rounds and connections keep.
use Rattle.std.specs.Prelude.{◌≡◌, ◌<◌, ◌+◌, ℕ, zero, suc, List, [], ◌∷◌, length, Bool, true, false}
use mathlib.Core.Bool.{beq}
use Rattle.std.specs.declared.option.Option.{Option}
use Rattle.std.specs.declared.option.Option.TheVariants.{Some, None}
use Rattle.std.proofs.Common.{refl, sym, subst, arith}
use Rattle.ov_link.specs.declared.step.Input.{Input}
use Rattle.running_nodes.specs.MachineModel.Setup.{Name}
use Rattle.running_nodes.specs.Seats.{Seat, far_of, kept_at, link_at, live_at, notice_at, place_of}
use Rattle.running_nodes.specs.Steps.{cleared, untaken, with_link, with_notice, with_seat}
use Rattle.running_nodes.specs.declared.place.SessionPlace.{SessionPlace}
use Rattle.net_machine.specs.declared.ends.SessionEnds.{SessionEnds}
use Rattle.net_machine.specs.declared.round.Due.{Due}
use Rattle.net_machine.specs.Connections.{Connects, ConnectsIf, OpensFar, OpensSecond, goes_on, may_connect}
use Rattle.net_machine.specs.Deliveries.{Delivers, DeliversIf, DeliversOctets, DeliversOctetsIf, DeliversOctetsTo}
use Rattle.net_machine.specs.Deliveries.{DeliversTo, TakesAt}
use Rattle.net_machine.specs.Rounds.{DeliversDue, DeliversDues, DeliversWhere}
use Rattle.net_machine.specs.Seating.{AreLong, AreSeated, Keeps, ends_at, ends_from, ends_of}
use Rattle.net_machine.proofs.Changes.{cleared_keeps, link_keeps, notice_keeps, opens_keeps, takes_keeps}
use Rattle.net_machine.proofs.Kept.{ends_kept, keeps_all, keeps_both, seated_kept}
use Rattle.net_machine.proofs.Seating.{ends_are_seated}

at_seated : (seats : List Seat) (a b : Name) (p : SessionPlace) (o : Option SessionPlace) (e : SessionEnds) → AreLong seats
    → place_of seats a b ≡ Some p → far_of seats p ≡ o → ends_from p o ≡ Some e → AreSeated seats e
at_seated seats a b p None e long is far found = cc
at_seated seats a b p (Some q) e long is far found =
    let same : record { near = p; far = q } ≡ e = cc in
    subst (AreSeated seats) same (ends_are_seated seats a b p q long is far)

pub found_seated : (seats : List Seat) (a b : Name) (e : SessionEnds) → AreLong seats → ends_of seats a b ≡ Some e
    → AreSeated seats e
found_seated seats a b e long found =
    elim (place_of seats a b) as (λ o. place_of seats a b ≡ o → ends_at seats o ≡ Some e → AreSeated seats e) [
      | None ↦ λ is h. cc
      | Some p ↦ λ is h. at_seated seats a b p (far_of seats p) e long is refl h
    ] refl found

-- ---- deliveries
pub taken_keeps : (seats : List Seat) (k : ℕ) (input : Input) (after : List Seat) → AreLong seats → k < length seats
    → TakesAt seats k input after → Keeps seats after
taken_keeps seats k input after long within h =
    let one = takes_keeps seats k h.node input long within h.takes in
    let count = one.count in
    let there : k < length (with_seat k h.node seats) = omega (arith, within, count) in
    keeps_both seats (with_seat k h.node seats) after one
    (subst (Keeps (with_seat k h.node seats)) (sym h.is) (cleared_keeps (with_seat k h.node seats) k one.long there))

to_keeps : (seats : List Seat) (e : SessionEnds) (notice : Bool) (messages : List (List ℕ)) (after : List Seat)
    → AreLong seats → AreSeated seats e → DeliversTo seats e notice messages after → Keeps seats after
to_keeps seats e true messages after long is h =
    let one = notice_keeps seats e.near false long is.near.node in
    keeps_both seats (with_notice e.near false seats) after one
    (taken_keeps (with_notice e.near false seats) e.near.node _ after one.long
    (seated_kept seats (with_notice e.near false seats) e.near one is.near).node h)
to_keeps seats e false [] after long is h = subst (Keeps seats) (sym h) (keeps_all seats long)
to_keeps seats e false (octets ∷ messages) after long is h =
    let one = link_keeps seats e.far messages long is.far.node in
    keeps_both seats (with_link e.far messages seats) after one
    (taken_keeps (with_link e.far messages seats) e.near.node _ after one.long
    (seated_kept seats (with_link e.far messages seats) e.near one is.near).node h.takes)

if_keeps : (b : Bool) (seats : List Seat) (e : SessionEnds) (after : List Seat) → AreLong seats → AreSeated seats e
    → DeliversIf b seats e after → Keeps seats after
if_keeps true seats e after long is h = to_keeps seats e (notice_at seats e.near) (link_at seats e.far) after long is h
if_keeps false seats e after long is h = subst (Keeps seats) (sym h) (keeps_all seats long)

pub delivers_keeps : (seats : List Seat) (e : SessionEnds) (after : List Seat) → AreLong seats → AreSeated seats e
    → Delivers seats e after → Keeps seats after
delivers_keeps seats e after long is h = if_keeps (live_at seats e.near) seats e after long is h

-- ---- octets
octets_to_keep : (seats : List Seat) (e : SessionEnds) (n : ℕ) (notice : Bool) (messages : List (List ℕ)) (after : List Seat)
    → AreLong seats → AreSeated seats e → DeliversOctetsTo seats e n notice messages after → Keeps seats after
octets_to_keep seats e n true messages after long is h = to_keeps seats e true messages after long is h
octets_to_keep seats e n false [] after long is h = subst (Keeps seats) (sym h) (keeps_all seats long)
octets_to_keep seats e n false (octets ∷ messages) after long is h =
    let rest = untaken (length (kept_at seats e.near) + n) (octets ∷ messages) in
    let one = link_keeps seats e.far rest long is.far.node in
    keeps_both seats (with_link e.far rest seats) after one
    (taken_keeps (with_link e.far rest seats) e.near.node _ after one.long
    (seated_kept seats (with_link e.far rest seats) e.near one is.near).node h.takes)

octets_if_keep : (b : Bool) (seats : List Seat) (e : SessionEnds) (n : ℕ) (after : List Seat) → AreLong seats
    → AreSeated seats e → DeliversOctetsIf b seats e n after → Keeps seats after
octets_if_keep true seats e n after long is h =
    octets_to_keep seats e n (notice_at seats e.near) (link_at seats e.far) after long is h
octets_if_keep false seats e n after long is h = subst (Keeps seats) (sym h) (keeps_all seats long)

pub octets_keep : (seats : List Seat) (e : SessionEnds) (n : ℕ) (after : List Seat) → AreLong seats → AreSeated seats e
    → DeliversOctets seats e n after → Keeps seats after
octets_keep seats e n after long is h = octets_if_keep (live_at seats e.near) seats e n after long is h

-- ---- in a round
where_keeps : (b : Bool) (d : Due) (seats after : List Seat) → AreLong seats → AreSeated seats d.ends
    → DeliversWhere b d seats after → Keeps seats after
where_keeps true d seats after long is h = delivers_keeps seats d.ends after long is h
where_keeps false d seats after long is h = subst (Keeps seats) (sym h) (keeps_all seats long)

pub due_keeps : (d : Due) (seats after : List Seat) → AreLong seats → AreSeated seats d.ends → DeliversDue d seats after
    → Keeps seats after
due_keeps d seats after long is h =
    where_keeps (beq (notice_at seats d.ends.near) d.is_notice) d seats after long is h

pub dues_keeps : (n : ℕ) (d : Due) (seats after : List Seat) → AreLong seats → AreSeated seats d.ends
    → DeliversDues n d seats after → Keeps seats after
dues_keeps zero d seats after long is h = subst (Keeps seats) (sym h) (keeps_all seats long)
dues_keeps (suc n) d seats after long is (between, one, rest) =
    let k = due_keeps d seats between long is one in
    keeps_both seats between after k (dues_keeps n d between after k.long (ends_kept seats between d.ends k is) rest)

-- ---- connections
far_keeps : (seats : List Seat) (e : SessionEnds) (after : List Seat) → AreLong seats → AreSeated seats e
    → OpensFar seats e after → Keeps seats after
far_keeps seats e after long is h =
    let one = opens_keeps seats e.far h.opened long is.far.node h.opens in
    let near = seated_kept seats h.opened e.near one is.near in
    let two = cleared_keeps h.opened e.near.node one.long near.node in
    let between = cleared h.opened e.near.node in
    let far = seated_kept seats between e.far (keeps_both seats h.opened between one two) is.far in
    subst (Keeps seats) (sym h.is)
    (keeps_both seats h.opened (cleared between e.far.node) one (keeps_both h.opened between (cleared between e.far.node) two
    (cleared_keeps between e.far.node two.long far.node)))

second_keeps : (b : Bool) (seats : List Seat) (e : SessionEnds) (after : List Seat) → AreLong seats → AreSeated seats e
    → OpensSecond b seats e after → Keeps seats after
second_keeps true seats e after long is h = far_keeps seats e after long is h
second_keeps false seats e after long is h =
    subst (Keeps seats) (sym h) (cleared_keeps seats e.near.node long is.near.node)

connects_if : (b : Bool) (seats : List Seat) (e : SessionEnds) (after : List Seat) → AreLong seats → AreSeated seats e
    → ConnectsIf b seats e after → Keeps seats after
connects_if true seats e after long is h =
    let one = opens_keeps seats e.near h.opened long is.near.node h.first in
    keeps_both seats h.opened after one
    (second_keeps (goes_on h.opened e) h.opened e after one.long (ends_kept seats h.opened e one is) h.second)
connects_if false seats e after long is h = subst (Keeps seats) (sym h) (keeps_all seats long)

pub connects_keeps : (seats : List Seat) (e : SessionEnds) (after : List Seat) → AreLong seats → AreSeated seats e
    → Connects seats e after → Keeps seats after
connects_keeps seats e after long is h = connects_if (may_connect seats e) seats e after long is h
