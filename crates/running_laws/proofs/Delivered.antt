-- Deliveries of single messages and notices, by the names of their nodes.
use Rattle.std.specs.Prelude.{◌≡◌, ℕ, List, ◌∷◌, length, false, cond, ◌==◌}
use Rattle.std.specs.Option.{option_map, unwrap_or}
use Rattle.std.specs.declared.option.Option.{Option}
use Rattle.std.proofs.lemmas.Option.{same_Some}
use Rattle.std.proofs.Common.{refl, sym, ◌∙◌, ap, subst, inl, inr}
use Rattle.ov_link.specs.declared.step.Input.TheVariants.{Bytes}
use Rattle.machine_laws.specs.MachineModel.Setup.{Name}
use Rattle.machine_laws.specs.MachineModel.Session.{Session, arrived, octets_arrived, waiting}
use Rattle.machine_laws.specs.MachineModel.Network.{MachineState}
use Rattle.machine_laws.specs.MachineModel.Steps.{change_session, deliver, deliver_octets, in_flight, pass}
use Rattle.machine_laws.specs.MachineModel.Events.{Deliver, next}
use Rattle.running_nodes.specs.Seats.{Seat, link_at}
use Rattle.running_nodes.specs.Steps.{cleared, with_link, with_notice, with_seat}
use Rattle.running_nodes.specs.Stands.{Seats, StandsFor, message_size}
use Rattle.running_nodes.specs.declared.place.SessionPlace.{SessionPlace}
use Rattle.running_laws.specs.Moments.{IsMoment}
use Rattle.running_laws.specs.Wiring.{HasFar, IsPlaceOf}
use Rattle.running_laws.specs.Delivering.{MessagesAreDelivered, NoticesAreDelivered, NothingIsDelivered, TakesAt}
use Rattle.running_laws.proofs.Asked.{places_say}
use Rattle.running_laws.proofs.AtMoments.{moment_right, stands_at}
use Rattle.running_laws.proofs.Facts.{Facts, IsRight}
use Rattle.running_laws.proofs.Here.{here}
use Rattle.running_laws.proofs.Message.{message_delivered, message_stands}
use Rattle.running_laws.proofs.Notice.{notice_delivered, notice_stands}

pub one_delivery : (w : MachineState) (from to : Name) → next message_size w (Deliver from to 1) ≡ deliver from to w
unfolding next
one_delivery w from to = refl

-- where nothing is in flight
idle_delivery : (w : MachineState) (from to : Name) → in_flight w from to ≡ 0
    → (deliver from to w ≡ w) × ((n : ℕ) → deliver_octets message_size from to n w ≡ w)
idle_delivery w from to e = (
  ap (λ n. cond (n == 0) w (pass to (change_session to from arrived w))) e,
  (λ n. ap (λ k. cond (k == 0) w (pass to (change_session to from (octets_arrived message_size n) w))) e),
)

module _ (facts : Facts) where
  pub deliver_moment : (w : MachineState) (from to : Name) → IsMoment w → IsMoment (deliver from to w)
  deliver_moment w from to m = subst IsMoment (one_delivery w from to) (facts.moments.after w (Deliver from to 1) m tt)

  pub messages_are_delivered : MessagesAreDelivered
  messages_are_delivered seats w moment stands from to p far are quiet octets rest waits bytes bytes_are after takes =
      (subst Leaves far_is by_place waits after takes, deliver_moment w from to moment)
    where
      right : IsRight w
      right = moment_right facts.moments w moment

      place : IsPlaceOf seats to from p
      place = facts.wired.place_is w.setup seats to from p right.written right.numbers stands.seats_are.who are.0

      at : HasFar seats p
      at = (here facts.wired seats w (moment_right facts.moments w moment) stands.seats_are p place.is_place).far

      far_is : at.far ≡ far
      far_is = same_Some at.far far (sym at.found ∙ are.1)

      Leaves : SessionPlace → Type 0
      Leaves far = (link_at seats far ≡ octets ∷ rest) → (after : List Seat)
          → TakesAt (with_link far rest seats) p (Bytes p.session bytes) after → StandsFor after (deliver from to w)

      by_place : Leaves at.far
      by_place waits after takes =
          let begun = with_link at.far rest seats in
          let left = cleared (with_seat p.node takes.taken begun) p.node in
          subst (λ ss. StandsFor ss (deliver from to w)) (sym takes.is)
          (stands_at left (deliver from to w) (deliver_moment w from to moment)
          (subst (Seats left)
          (sym (message_delivered facts seats w moment stands.seats_are p place.is_place quiet octets rest waits)
          ∙ (λ i. deliver (place.other i) (place.name i) w))
          (message_stands facts seats w moment stands.seats_are p place.is_place quiet octets rest waits bytes bytes_are takes.taken takes.takes)))

  pub notices_are_delivered : NoticesAreDelivered
  notices_are_delivered seats w moment stands from to p far are waits after takes =
      let right = moment_right facts.moments w moment in
      let place = facts.wired.place_is w.setup seats to from p right.written right.numbers stands.seats_are.who are.0 in
      let left = cleared (with_seat p.node takes.taken (with_notice p false seats)) p.node in (
        subst (λ ss. StandsFor ss (deliver from to w)) (sym takes.is)
            (stands_at left (deliver from to w) (deliver_moment w from to moment)
            (subst (Seats left)
            (sym (notice_delivered facts seats w moment stands.seats_are p place.is_place waits)
            ∙ (λ i. deliver (place.other i) (place.name i) w))
            (notice_stands facts seats w moment stands.seats_are p place.is_place waits takes.taken takes.takes))),
        deliver_moment w from to moment,
      )

  pub nothing_is_delivered : NothingIsDelivered
  nothing_is_delivered seats w moment stands from to (inl none) =
      let right = moment_right facts.moments w moment in
      idle_delivery w from to
      (ap (λ (o : Option Session). unwrap_or (option_map waiting o) 0)
      (facts.wired.none w seats to from right.written right.numbers right.sessions stands.seats_are.who none))
  nothing_is_delivered seats w moment stands from to (inr q) =
      let said = places_say facts seats w moment stands.seats_are to from q.0 q.1 q.2 in
      idle_delivery w from to
      (ap (λ (o : Option Session). unwrap_or (option_map waiting o) 0) said.1
      ∙ sym said.2.waiting ∙ (λ i. cond (q.3 i) 1 (length (q.4 i))))
