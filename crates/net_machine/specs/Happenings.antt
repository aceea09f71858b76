-- What an event makes of a network, and what it answers.
use Rattle.std.specs.Prelude.{◌≡◌, ℕ, suc, List, false, ◌==◌, not, if◌then◌else◌}
use Rattle.std.specs.declared.option.Option.{Option}
use Rattle.std.specs.declared.option.Option.TheVariants.{Some, None}
use Rattle.route_targets.specs.Forwarding.{forwarding}
use Rattle.config_types.specs.declared.edit.Edit.{Edit}
use Rattle.config_types.specs.declared.event.Event.{Event}
use Rattle.config_types.specs.declared.event.Event.TheVariants as event
use Rattle.config_check.specs.Checked.{Checked}
use Rattle.config_check.specs.Edits.{edit_fault}
use Rattle.config_check.specs.declared.edits.EditFault.{EditFault}
use Rattle.schedule_script.specs.declared.answer.Answer.{Answer}
use Rattle.schedule_script.specs.declared.answer.Answer.TheVariants.{Did, Idle, Rounds, Shown, Traced}
use Rattle.running_nodes.specs.MachineModel.Setup.{longest_in}
use Rattle.running_nodes.specs.MachineModel.Events.{edit_answer, unless}
use Rattle.running_nodes.specs.Seats.{Seat, seat, seat_named}
use Rattle.running_nodes.specs.Steps.{forwarders_of, shown_by, with_break_at}
use Rattle.running_laws.specs.Editing.{MakesEdit}
use Rattle.net_machine.specs.declared.ends.SessionEnds.{SessionEnds}
use Rattle.net_machine.specs.Connections.{Connects, may_connect}
use Rattle.net_machine.specs.Deliveries.{DeliversMany, DeliversOctets}
use Rattle.running_laws.specs.Losing.{restarted}
use Rattle.net_machine.specs.Losses.{lost}
use Rattle.net_machine.specs.Rounds.{IsRound}
use Rattle.net_machine.specs.Seating.{ends_of, is_down, is_earlier, turned, waiting}
use Rattle.net_machine.specs.Settling.{Settles, is_settled}

-- ---- edits: one with a fault changes nothing
abbrev pub EditsUnless : Option EditFault → List Seat → Checked → Edit → List Seat → Type 0
EditsUnless (Some f) seats x e after = after ≡ seats
EditsUnless None seats x e after = MakesEdit seats x e after

-- ---- on the session of two nodes, where there is one
abbrev pub DeliversOn : Option SessionEnds → ℕ → List Seat → Answer → List Seat → Type 0
DeliversOn None n seats answer after = (answer ≡ Idle) × (after ≡ seats)
DeliversOn (Some e) n seats answer after = (answer ≡ unless (waiting seats e == 0)) × DeliversMany n seats e after

abbrev pub DeliversOctetsOn : Option SessionEnds → ℕ → List Seat → Answer → List Seat → Type 0
DeliversOctetsOn None n seats answer after = (answer ≡ Idle) × (after ≡ seats)
DeliversOctetsOn (Some e) n seats answer after =
    (answer ≡ unless (waiting seats e == 0)) × DeliversOctets seats e n after

-- the near end's n-th send from now on is to fail
abbrev pub BreaksOn : Option SessionEnds → ℕ → List Seat → Answer → List Seat → Type 0
BreaksOn None n seats answer after = (answer ≡ Idle) × (after ≡ seats)
BreaksOn (Some e) n seats answer after = (answer ≡ Did) × (after ≡ with_break_at e.near n seats)

abbrev pub LosesOn : Option SessionEnds → List Seat → Answer → List Seat → Type 0
LosesOn None seats answer after = (answer ≡ Idle) × (after ≡ seats)
LosesOn (Some e) seats answer after = (answer ≡ unless (is_down seats e)) × (after ≡ lost seats e)

abbrev pub earlier_first : List SessionEnds → SessionEnds → SessionEnds
earlier_first order e = if is_earlier order e then e else turned e

-- the earlier node opens first
abbrev pub ConnectsOn : Option SessionEnds → List SessionEnds → List Seat → Answer → List Seat → Type 0
ConnectsOn None order seats answer after = (answer ≡ Idle) × (after ≡ seats)
ConnectsOn (Some e) order seats answer after =
    (answer ≡ unless (not (may_connect seats e))) × Connects seats (earlier_first order e) after

-- ---- at the node with this number, where it is not the configuration node
abbrev pub RestartsAt : Option ℕ → List Seat → Answer → List Seat → Type 0
RestartsAt (Some (suc k)) seats answer after = (answer ≡ unless false) × (after ≡ restarted seats (suc k))
RestartsAt _ seats answer after = (answer ≡ Idle) × (after ≡ seats)

abbrev pub shown_at : Option ℕ → List Seat → Answer
shown_at (Some (suc k)) seats = Shown (shown_by (seat seats (suc k)))
shown_at _ seats = Idle

-- ---- settling
pub record SettlesAs (x : Checked) (order : List SessionEnds) (seats : List Seat) (answer : Answer) (after : List Seat)
    : Type 0 where
  pub rounds : ℕ
  pub settles : Settles (longest_in x) order seats rounds after
  pub answers : answer ≡ Rounds rounds (is_settled after order)

abbrev pub IsNotEdit : Event → Type 0
IsNotEdit (event.Edit e) = ⊥
IsNotEdit _ = Unit {0}

-- ---- all events
-- where this is the configuration, with its topology, and this the order of a round
abbrev pub Happens : Checked → List SessionEnds → Event → List Seat → Answer → List Seat → Type 0
Happens x order (event.Edit e) seats answer after =
    (answer ≡ edit_answer (edit_fault x e)) × EditsUnless (edit_fault x e) seats x e after
Happens x order (event.Deliver from to n) seats answer after = DeliversOn (ends_of seats to from) n seats answer after
Happens x order (event.DeliverOctets from to n) seats answer after =
    DeliversOctetsOn (ends_of seats to from) n seats answer after
Happens x order (event.Lose a b) seats answer after = LosesOn (ends_of seats a b) seats answer after
Happens x order (event.Connect a b) seats answer after = ConnectsOn (ends_of seats a b) order seats answer after
Happens x order (event.Restart name) seats answer after = RestartsAt (seat_named seats name) seats answer after
Happens x order event.Round seats answer after = (answer ≡ Did) × IsRound order seats after
Happens x order event.Settle seats answer after = SettlesAs x order seats answer after
Happens x order (event.Show name) seats answer after =
    (answer ≡ shown_at (seat_named seats name) seats) × (after ≡ seats)
Happens x order (event.Trace p) seats answer after =
    (answer ≡ Traced (forwarding (forwarders_of seats) p)) × (after ≡ seats)
Happens x order (event.Break from to n) seats answer after = BreaksOn (ends_of seats from to) n seats answer after
