-- What settling makes of the state for which seats stand.
use Rattle.std.specs.Prelude.{◌≡◌, ◌+◌, ℕ, zero, suc, List, [], ◌∷◌, map, true, false, cond, MatchBool}
use Rattle.std.proofs.Common.{refl, sym, ◌∙◌, ap, subst}
use Rattle.running_nodes.specs.MachineModel.Setup.{longest}
use Rattle.running_nodes.specs.MachineModel.Session.{Session}
use Rattle.running_nodes.specs.MachineModel.Network.{MachineState}
use Rattle.running_nodes.specs.MachineModel.Steps as steps
use Rattle.running_nodes.specs.MachineModel.Steps.{connect_all, round, rounds_from, settle, without_breaks}
use Rattle.running_nodes.specs.MachineModel.Moments.{nodes}
use Rattle.running_nodes.proofs.MachineModel.NodesFact.{connect_all_nodes, round_nodes}
use Rattle.running_nodes.specs.Seats.{Seat}
use Rattle.running_nodes.specs.Steps.{unbroken as unbroken_seat}
use Rattle.running_laws.specs.Moments.{unbroken}
use Rattle.net_machine.specs.declared.ends.SessionEnds.{SessionEnds}
use Rattle.net_machine.specs.Rounds.{IsRound}
use Rattle.net_machine.specs.Seating.{Keeps, order_among}
use Rattle.net_machine.specs.Settling.{RoundsFrom, Settles}
use Rattle.net_machine.proofs.Changes.{unbroken_keeps}
use Rattle.net_machine.proofs.Connecting.{all_connected, are_next}
use Rattle.net_machine.proofs.Facts.{At, Facts}
use Rattle.net_machine.proofs.Kept.{among_kept}
use Rattle.net_machine.proofs.Delivering.{stays}
use Rattle.net_machine.proofs.Resting.{quiet_is}
use Rattle.net_machine.proofs.Rounding.{round_stands, same_order}

-- a session that loses its breaks keeps its nodes
unbroken_nodes : (ss : List Session) → map nodes (map without_breaks ss) ≡ map nodes ss
unbroken_nodes [] = refl
unbroken_nodes (s ∷ ss) = ap (λ ns. nodes s ∷ ns) (unbroken_nodes ss)

-- the order stays
pub order_stays : (seats after : List Seat) (w v : MachineState) (order : List SessionEnds) → Keeps seats after
    → map nodes v.sessions ≡ map nodes w.sessions → order ≡ order_among seats w.sessions
    → order ≡ order_among after v.sessions
order_stays seats after w v order k e is =
    is ∙ sym (among_kept seats after w.sessions k) ∙ same_order after w.sessions v.sessions (sym e)

module _ (M : MachineState → Type 0) (f : Facts M) where
  -- the number of rounds, and where they lead
  pub record Leads (done : ℕ × MachineState) (w : MachineState) (order : List SessionEnds) (rounds : ℕ) (after : List Seat)
      : Type 0 where
    pub count : done.0 ≡ rounds
    pub stands : At M after done.1
    pub ordered : order ≡ order_among after done.1.sessions

  stop : (done : ℕ) (seats after : List Seat) (w : MachineState) (order : List SessionEnds) (n : ℕ) → At M seats w
      → order ≡ order_among seats w.sessions → (n ≡ done) × (after ≡ seats) → Leads (done, w) w order n after
  stop done seats after w order n h is e = record {
    count = sym e.0;
    stands = stays M f seats after w e.1 h;
    ordered = is ∙ ap (λ s. order_among s w.sessions) (sym e.1);
  }

  rounds_lead : (n done : ℕ) (seats after : List Seat) (w : MachineState) (order : List SessionEnds) (rounds : ℕ) → At M seats w
      → order ≡ order_among seats w.sessions → RoundsFrom n done order seats rounds after
      → Leads (rounds_from n done w) w order rounds after
  rounds_lead zero done seats after w order rounds h is all = stop done seats after w order rounds h is all
  rounds_lead (suc n) done seats after w order rounds h is all =
      elim (steps.is_quiet w) as (λ q. MatchBool q ((rounds ≡ done) × (after ≡ seats))
      ((between : List Seat) × IsRound order seats between × RoundsFrom n (done + 1) order between rounds after)
      → Leads (cond q (done, w) (rounds_from n (done + 1) (round w))) w order rounds after) [
        | true ↦ λ e. stop done seats after w order rounds h is e
        | false ↦ λ c.
            let r = round_stands M f seats c.0 w order h is c.1 in
            let l = rounds_lead n (done + 1) c.0 after (round w) order rounds r.1
            (order_stays seats c.0 w (round w) order r.0 (round_nodes w) is) c.2 in
            record { count = l.count; stands = l.stands; ordered = l.ordered }
      ] (subst (λ q. MatchBool q ((rounds ≡ done) × (after ≡ seats))
      ((between : List Seat) × IsRound order seats between × RoundsFrom n (done + 1) order between rounds after))
      (quiet_is M f seats w order h is) all)

  pub settle_leads : (seats after : List Seat) (w : MachineState) (order : List SessionEnds) (rounds : ℕ) → At M seats w
      → order ≡ order_among seats w.sessions → Settles (longest w.setup) order seats rounds after
      → Leads (settle w) w order rounds after
  unfolding settle
  settle_leads seats after w order rounds h is s =
      let removed = f.removes seats w h.moment h.stands in
      let u0 = unbroken w in
      let begun : At M (map unbroken_seat seats) u0 = record { moment = removed.1; stands = removed.0 } in
      let ordered : order ≡ order_among (map unbroken_seat seats) u0.sessions =
      order_stays seats (map unbroken_seat seats) w u0 order (unbroken_keeps seats h.stands.seats_are.long)
      (unbroken_nodes w.sessions) is in
      let v = round u0 in
      let r = round_stands M f (map unbroken_seat seats) s.taken u0 order begun ordered s.first in
      let there = order_stays (map unbroken_seat seats) s.taken u0 v order r.0 (round_nodes u0) ordered in
      let c = all_connected M f v.sessions s.taken s.connected v order r.1
      (are_next s.taken v v.sessions (f.stood s.taken v r.1.moment r.1.stands)) there s.connects in
      let u = connect_all v.sessions v in
      let l = rounds_lead (longest w.setup + 5) 1 s.connected after u order rounds c.1
      (order_stays s.taken s.connected v u order c.0 (connect_all_nodes v.sessions v) there) s.rest in
      record { count = l.count; stands = l.stands; ordered = l.ordered }
