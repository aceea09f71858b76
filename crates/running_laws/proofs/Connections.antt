-- Connections by the names of their nodes.
use Rattle.std.specs.Prelude.{◌≡◌, List, [], ◌∷◌, map, Bool, true, false, cond, not, ◌&&◌}
use Rattle.std.specs.List.{AllByRecursion}
use Rattle.std.specs.declared.option.Option.{Option}
use Rattle.std.specs.declared.option.Option.TheVariants.{Some}
use Rattle.std.proofs.lemmas.Bool.{and_from, and_parts, not-true, true≢false}
use Rattle.std.proofs.lemmas.Option.{same_Some}
use Rattle.std.proofs.Common.{refl, sym, ◌∙◌, ap, subst, inl, inr}
use Rattle.ov_types.specs.First.{same_name}
use Rattle.machine_laws.specs.MachineModel.Setup.{Name}
use Rattle.machine_laws.specs.MachineModel.Session.{Configuration, Session}
use Rattle.machine_laws.specs.MachineModel.Network.{MachineState, between, is_at}
use Rattle.machine_laws.specs.MachineModel.Steps.{connect, connect_found, connect_if, joins, may_connect, session_of}
use Rattle.machine_laws.specs.MachineModel.Events.{Connect, is_earlier, next}
use Rattle.machine_laws.specs.MachineModel.Moments.{Each, nodes}
use Rattle.machine_laws.proofs.MachineModel.NetworkFact.{connect_all_sound}
use Rattle.machine_laws.proofs.MachineModel.SessionFact.{Down, Fact}
use Rattle.machine_laws.proofs.MachineModel.Twins.{IsOther, NoTwins, itself, same_name_sym, swap_and}
use Rattle.running_nodes.specs.Seats.{Seat, is_down_at, live_at, notice_at}
use Rattle.running_nodes.specs.Steps.{cleared, with_seat}
use Rattle.running_nodes.specs.Stands.{Seats, StandsFor, message_size}
use Rattle.running_nodes.specs.declared.place.SessionPlace.{SessionPlace}
use Rattle.running_laws.specs.Moments.{IsMoment}
use Rattle.running_laws.specs.Wiring.{IsPlaceOf, name_at, other_at}
use Rattle.running_laws.specs.Connecting.{ConnectionsAreMade, EarlierConnectionsAreEvents, NearIsEarlier, NothingIsConnected, OpensBehind, OpensBoth}
use Rattle.running_laws.proofs.Asked.{down_here, places_say}
use Rattle.running_nodes.proofs.Sizes.{positive}
use Rattle.running_laws.proofs.AtMoments.{IsSound, all_down_where, found_sound, moment_right, moment_sound}
use Rattle.running_laws.proofs.Connected.{closed_connects, closed_stands, open_connects, open_stands}
use Rattle.running_laws.proofs.Facts.{Facts, IsRight, right_twins}
use Rattle.running_laws.proofs.Here.{Here, here}

-- a connection keeps what holds of each session
connected_sound : (a b : Name) (w : MachineState) → IsSound w → IsSound (connect_if a b w)
connected_sound a b w sound = connect_all_sound message_size positive (between a Configuration b Configuration ∷ []) w sound

connect_when : (w : MachineState) (a b : Name) (s : Session) (may : Bool) → session_of w a b ≡ Some s → may_connect s ≡ may
    → connect_if a b w ≡ cond may (connect a b w) w
connect_when w a b s may found e =
    ap (λ (o : Option Session). connect_found o a b w) found ∙ ap (λ c. cond c (connect a b w) w) e

pub nothing_is_connected : Facts → NothingIsConnected
nothing_is_connected facts seats w moment stands a b p far are e =
    let said = places_say facts seats w moment stands.seats_are a b p far are in
    connect_when w a b said.0 false said.1 (sym said.2.may_connect ∙ e)

pub connections_are_made : Facts → ConnectionsAreMade
connections_are_made facts seats w moment stands a b p far are may after opens = subst Leaves far_is by_place may after opens
  where
    right : IsRight w
    right = moment_right facts.moments w moment

    place : IsPlaceOf seats a b p
    place = facts.wired.place_is w.setup seats a b p right.written right.numbers stands.seats_are.who are.0

    at : Here seats w p
    at = here facts.wired seats w (moment_right facts.moments w moment) stands.seats_are p place.is_place

    far_is : at.far.far ≡ far
    far_is = same_Some at.far.far far (sym at.far.found ∙ are.1)

    Leaves : SessionPlace → Type 0
    Leaves far = (is_down_at seats p && (not (notice_at seats p) && not (notice_at seats far))) ≡ true
        → (after : List Seat) → OpensBoth seats p far after → StandsFor after (connect_if a b w)

    by_place : Leaves at.far.far
    by_place may after opens =
        let said = places_say facts seats w moment stands.seats_are a b p at.far.far (are.0, at.far.found) in
        let first = and_parts (is_down_at seats p) (not (notice_at seats p) && not (notice_at seats at.far.far)) may in
        let parts = and_parts (not (notice_at seats p)) (not (notice_at seats at.far.far)) first.1 in
        record {
          seats_are = subst (Seats after)
              ((λ i. connect (place.name i) (place.other i) w)
              ∙ sym (connect_when w a b said.0 true said.1 (sym said.2.may_connect ∙ may)))
              (by_live (not-true (notice_at seats p) parts.0) (not-true (notice_at seats at.far.far) parts.1)
              (live_at (with_seat p.node opens.near_node seats) p) refl opens.behind);
          down = all_down_where (connect_if a b w) (connected_sound a b w (moment_sound w moment));
        }
      where
        down : Down at.session
        down = by_fact (found_sound w moment (name_at seats p) (other_at seats p) at.session at.found)
          where
            by_fact : Fact message_size at.session → Down at.session
            by_fact (inl j) =
                absurd (true≢false (sym (and_parts (is_down_at seats p) (not (notice_at seats p) && not (notice_at seats at.far.far)) may).0
                ∙ down_here facts seats w moment stands.seats_are p place.is_place at ∙ j.whole))
            by_fact (inr d) = d

        by_live : notice_at seats p ≡ false → notice_at seats at.far.far ≡ false → (live : Bool)
            → live_at (with_seat p.node opens.near_node seats) p ≡ live
            → OpensBehind live (with_seat p.node opens.near_node seats) p at.far.far after
            → Seats after (connect (name_at seats p) (other_at seats p) w)
        by_live quiet quiet' true live behind =
            subst (λ ss. Seats ss (connect (name_at seats p) (other_at seats p) w)) (sym behind.2)
            (subst (Seats (cleared (cleared (with_seat at.far.far.node behind.0 (with_seat p.node opens.near_node seats)) p.node) at.far.far.node))
            (sym (open_connects facts seats w moment stands.seats_are p place.is_place down quiet quiet' opens.near_node opens.near_takes live))
            (open_stands facts seats w moment stands.seats_are p place.is_place down quiet quiet' opens.near_node opens.near_takes live
            behind.0 behind.1))
        by_live quiet quiet' false dead behind =
            subst (λ ss. Seats ss (connect (name_at seats p) (other_at seats p) w)) (sym behind)
            (subst (Seats (cleared (with_seat p.node opens.near_node seats) p.node))
            (sym (closed_connects facts seats w moment stands.seats_are p place.is_place down quiet quiet' opens.near_node opens.near_takes dead))
            (closed_stands facts seats w moment stands.seats_are p place.is_place down quiet quiet' opens.near_node opens.near_takes dead))

-- ---- events
pub connect_event : (w : MachineState) (a b : Name) → is_earlier w.sessions a b ≡ true → next message_size w (Connect a b) ≡ connect_if a b w
unfolding next
connect_event w a b e = ap (λ c. cond c (connect_if a b w) (connect_if b a w)) e

pub earlier_connections : Facts → EarlierConnectionsAreEvents
earlier_connections facts w moment a b e = subst IsMoment (connect_event w a b e) (facts.moments.after w (Connect a b) moment tt)

-- ---- the near node is the earlier one
earlier_each : (ss : List Session) → NoTwins (map nodes ss) → Each (λ s. is_earlier ss s.near.name s.far.name ≡ true) ss
earlier_each [] t = tt
earlier_each (s ∷ ss) t = (here_is, rest ss t.1 (earlier_each ss t.2))
  where
    here_is : is_earlier (s ∷ ss) s.near.name s.far.name ≡ true
    here_is =
        ap (λ c. cond c true (cond (joins s.far.name s.near.name s) false (is_earlier ss s.near.name s.far.name)))
        (and_from (is_at s.near.name s.near) (is_at s.far.name s.far) (itself s.near.name) (itself s.far.name))

    rest : (us : List Session) → AllByRecursion (IsOther (nodes s)) (map nodes us)
        → Each (λ u. is_earlier ss u.near.name u.far.name ≡ true) us
        → Each (λ u. is_earlier (s ∷ ss) u.near.name u.far.name ≡ true) us
    rest [] o e = tt
    rest (u ∷ us) o e = (
      ap (λ c. cond c true (cond (joins u.far.name u.near.name s) false (is_earlier ss u.near.name u.far.name))) apart
          ∙ ap (λ c. cond c false (is_earlier ss u.near.name u.far.name)) apart_back ∙ e.0,
      rest us o.1 e.1,
    )
      where
        apart : joins u.near.name u.far.name s ≡ false
        apart = (λ i. same_name_sym s.near.name u.near.name i && same_name_sym s.far.name u.far.name i) ∙ o.0.0

        apart_back : joins u.far.name u.near.name s ≡ false
        apart_back =
            (λ i. same_name_sym s.near.name u.far.name i && same_name_sym s.far.name u.near.name i)
            ∙ swap_and (same_name u.near.name s.far.name) (same_name u.far.name s.near.name) false o.0.1

pub near_is_earlier : Facts → NearIsEarlier
near_is_earlier facts w moment = earlier_each w.sessions (right_twins w (moment_right facts.moments w moment))
