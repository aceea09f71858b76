-- What several deliveries, and those of a round, make of the state for which seats stand.
use Rattle.std.specs.Prelude.{◌≡◌, ◌<◌, ℕ, zero, suc, List, [], ◌∷◌, Bool, true, false, cond}
use mathlib.Core.Bool.{beq}
use Rattle.std.specs.declared.option.Option.TheVariants.{Some}
use Rattle.std.specs.Option.{option_map, unwrap_or}
use Rattle.std.proofs.Common.{refl, sym, ◌∙◌, ap, subst}
use Rattle.running_nodes.specs.MachineModel.Setup.{Name}
use Rattle.running_nodes.specs.MachineModel.Session.{Session}
use Rattle.running_nodes.specs.MachineModel.Network.{MachineState}
use Rattle.running_nodes.specs.MachineModel.Steps.{Due as Waiting, deliver, deliver_all, deliver_due, notice_stands, repeat}
use Rattle.running_nodes.specs.MachineModel.Events.{Deliver, DeliverOctets, next}
use Rattle.running_nodes.specs.Seats.{Seat, notice_at}
use Rattle.running_nodes.specs.Stands.{message_size}
use Rattle.net_machine.specs.declared.ends.SessionEnds.{SessionEnds}
use Rattle.net_machine.specs.declared.round.Due.{Due}
use Rattle.net_machine.specs.Deliveries.{Delivers, DeliversMany, DeliversOctets}
use Rattle.net_machine.specs.Rounds.{DeliversAll, DeliversDue, DeliversDues, DeliversWhere}
use Rattle.net_machine.specs.Seating.{AreSeated, Keeps, ends_of}
use Rattle.net_machine.proofs.Carried.{delivers_keeps, due_keeps, dues_keeps, found_seated}
use Rattle.net_machine.proofs.Facts.{At, Facts}
use Rattle.net_machine.proofs.Kept.{ends_of_kept, keeps_all, keeps_both}

one_delivery : (w : MachineState) (from to : Name) → next message_size w (Deliver from to 1) ≡ deliver from to w
unfolding next
one_delivery w from to = refl

-- what waits on one side as on the other
pub record IsDue (seats : List Seat) (d : Due) (m : Waiting) : Type 0 where
  pub ends : ends_of seats m.to m.from ≡ Some d.ends
  pub notice : d.is_notice ≡ m.is_notice
  pub count : d.count ≡ m.count

abbrev pub AreDue : List Seat → List Due → List Waiting → Type 0
AreDue seats [] [] = Unit {0}
AreDue seats (d ∷ ds) (m ∷ ms) = IsDue seats d m × AreDue seats ds ms
AreDue seats _ _ = ⊥

due_kept : (seats after : List Seat) (d : Due) (m : Waiting) → Keeps seats after → IsDue seats d m → IsDue after d m
due_kept seats after d m k h = record {
  ends = ends_of_kept seats after m.to m.from k ∙ h.ends;
  notice = h.notice;
  count = h.count;
}

are_due_kept : (seats after : List Seat) (ds : List Due) (ms : List Waiting) → Keeps seats after → AreDue seats ds ms
    → AreDue after ds ms
are_due_kept seats after [] [] k h = tt
are_due_kept seats after [] (m ∷ ms) k h = h
are_due_kept seats after (d ∷ ds) [] k h = h
are_due_kept seats after (d ∷ ds) (m ∷ ms) k h =
    (due_kept seats after d m k h.0, are_due_kept seats after ds ms k h.1)

module _ (M : MachineState → Type 0) (f : Facts M) where
  pub stays : (seats after : List Seat) (w : MachineState) → after ≡ seats → At M seats w → At M after w
  stays seats after w e h = subst (λ s. At M s w) (sym e) h

  pub ends_here : (seats : List Seat) (w : MachineState) (a b : Name) (e : SessionEnds) → At M seats w
      → ends_of seats a b ≡ Some e → AreSeated seats e
  ends_here seats w a b e h is = found_seated seats a b e h.stands.seats_are.long is

  -- ---- up to so many
  one_delivered : (seats after : List Seat) (w : MachineState) (from to : Name) (e : SessionEnds) → At M seats w
      → ends_of seats to from ≡ Some e → Delivers seats e after → At M after (deliver from to w)
  one_delivered seats after w from to e h is d = record {
    moment = subst M (one_delivery w from to) (f.next w (Deliver from to 1) tt h.moment);
    stands = f.delivers seats after w from to e h.moment h.stands is d;
  }

  pub many_delivered : (n : ℕ) (seats after : List Seat) (w : MachineState) (from to : Name) (e : SessionEnds) → At M seats w
      → ends_of seats to from ≡ Some e → DeliversMany n seats e after → At M after (repeat n (deliver from to) w)
  many_delivered zero seats after w from to e h is d = stays seats after w d h
  many_delivered (suc n) seats after w from to e h is (between, one, rest) =
      let k = delivers_keeps seats e between h.stands.seats_are.long (ends_here seats w to from e h is) one in
      many_delivered n between after (deliver from to w) from to e (one_delivered seats between w from to e h is one)
      (ends_of_kept seats between to from k ∙ is) rest

  -- ---- octets
  pub octets_delivered : (seats after : List Seat) (w : MachineState) (from to : Name) (e : SessionEnds) (n : ℕ) → At M seats w
      → ends_of seats to from ≡ Some e → 0 < n → DeliversOctets seats e n after
      → At M after (next message_size w (DeliverOctets from to n))
  unfolding next
  octets_delivered seats after w from to e n h is some d = record {
    moment = f.next w (DeliverOctets from to n) some h.moment;
    stands = f.delivers_octets seats after w from to e n h.moment h.stands is some d;
  }

  -- ---- in a round
  notice_there : (seats : List Seat) (w : MachineState) (d : Due) (m : Waiting) → At M seats w → IsDue seats d m
      → notice_stands w m ≡ notice_at seats d.ends.near
  notice_there seats w d m h is =
      let s = f.says seats w m.to m.from d.ends h.moment h.stands is.ends in
      ap (λ o. unwrap_or (option_map (λ (s : Session). s.near.notice) o) false) s.found ∙ sym s.says.has_notice

  where_delivered : (b : Bool) (seats after : List Seat) (w : MachineState) (d : Due) (m : Waiting) → At M seats w
      → IsDue seats d m → DeliversWhere b d seats after → At M after (cond b (deliver m.from m.to w) w)
  where_delivered true seats after w d m h is one = one_delivered seats after w m.from m.to d.ends h is.ends one
  where_delivered false seats after w d m h is one = stays seats after w one h

  due_delivered : (seats after : List Seat) (w : MachineState) (d : Due) (m : Waiting) → At M seats w → IsDue seats d m
      → DeliversDue d seats after → At M after (deliver_due m w)
  due_delivered seats after w d m h is one =
      let same : beq (notice_stands w m) m.is_notice ≡ beq (notice_at seats d.ends.near) d.is_notice =
      (λ i. beq (notice_there seats w d m h is i) (sym is.notice i)) in
      subst (λ b. At M after (cond b (deliver m.from m.to w) w)) (sym same)
      (where_delivered (beq (notice_at seats d.ends.near) d.is_notice) seats after w d m h is one)

  dues_delivered : (n : ℕ) (seats after : List Seat) (w : MachineState) (d : Due) (m : Waiting) → At M seats w → IsDue seats d m
      → DeliversDues n d seats after → At M after (repeat n (deliver_due m) w)
  dues_delivered zero seats after w d m h is all = stays seats after w all h
  dues_delivered (suc n) seats after w d m h is (between, one, rest) =
      let k = due_keeps d seats between h.stands.seats_are.long (ends_here seats w m.to m.from d.ends h is.ends) one in
      dues_delivered n between after (deliver_due m w) d m (due_delivered seats between w d m h is one)
      (due_kept seats between d m k is) rest

  pub all_delivered : (ds : List Due) (ms : List Waiting) (seats after : List Seat) (w : MachineState) → At M seats w
      → AreDue seats ds ms → DeliversAll ds seats after → Keeps seats after × At M after (deliver_all ms w)
  all_delivered [] [] seats after w h is all =
      (subst (Keeps seats) (sym all) (keeps_all seats h.stands.seats_are.long), stays seats after w all h)
  all_delivered [] (m ∷ ms) seats after w h is all = absurd is
  all_delivered (d ∷ ds) [] seats after w h is all = absurd is
  all_delivered (d ∷ ds) (m ∷ ms) seats after w h is (between, one, rest) =
      let k = dues_keeps d.count d seats between h.stands.seats_are.long
      (ends_here seats w m.to m.from d.ends h is.0.ends) one in
      let there = subst (λ n. At M between (repeat n (deliver_due m) w)) is.0.count
      (dues_delivered d.count seats between w d m h is.0 one) in
      let more = all_delivered ds ms between after (repeat m.count (deliver_due m) w) there
      (are_due_kept seats between ds ms k is.1) rest in
      (keeps_both seats between after k more.0, more.1)
