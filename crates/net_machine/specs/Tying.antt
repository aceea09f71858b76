-- What an event makes of the ties so far, and of a network that keeps them.
use Rattle.std.specs.Prelude.{◌≡◌, List, ⊤}
use Rattle.std.specs.declared.option.Option.{Option}
use Rattle.std.specs.declared.option.Option.TheVariants.{Some, None}
use Rattle.config_check.specs.Checked.{Checked}
use Rattle.config_check.specs.Edits.{edit_fault}
use Rattle.config_check.specs.Edits.{edited as edit_made}
use Rattle.config_types.specs.declared.event.Event.{Event}
use Rattle.config_types.specs.declared.edit.Edit.{Edit}
use Rattle.config_types.specs.declared.event.Event.TheVariants as event
use Rattle.schedule_script.specs.Kept.{AreAlike, Kept, ties_in}
use Rattle.schedule_script.specs.Ties.{Ties}
use Rattle.schedule_script.specs.declared.breaking.Tie.{Tie}
use Rattle.running_laws.specs.MachineLaws.Running.{ties_with}
use Rattle.running_nodes.specs.MachineModel.Setup.{Move, edited, moves, opening}
use Rattle.running_nodes.specs.Seats.{Configuring, Seat, seat}
use Rattle.schedule_script.specs.declared.answer.Answer.TheVariants.{Did}
use Rattle.schedule_script.specs.declared.tied_answer.TiedAnswer.{TiedAnswer}
use Rattle.schedule_script.specs.declared.tied_answer.TiedAnswer.TheVariants.{Answered, EditTied}
use Rattle.machine_moment_laws.specs.Runs.{broken_by}
use Rattle.net_machine.specs.declared.ends.SessionEnds.{SessionEnds}
use Rattle.net_machine.specs.declared.editing.Moved.{Moved}
use Rattle.net_machine.specs.declared.editing.Moved.TheVariants.{Yes, No}
use Rattle.net_machine.specs.declared.tying.Found.{Found}
use Rattle.net_machine.specs.declared.tying.Found.TheVariants.{Made, Faulty, Tied}
use Rattle.net_machine.specs.Happenings.{Happens}
use Rattle.net_machine.specs.Seating.{Keeps, order_of}

-- the tie that an event would break: only an edit that has no other fault breaks one
abbrev pub broken_at : Ties → Checked → Event → Option Tie
broken_at t x (event.Edit e) = broken_by t (edited (opening x) e)
broken_at t x _ = None

-- the ties with those of the configuration that an edit leads to
abbrev pub ties_then : Ties → Checked → Event → Ties
ties_then t x (event.Edit e) = ties_with (edited (opening x) e) t
ties_then t x _ = t

-- an edit that would break a tie is answered with it, and nothing changes; each other event happens, and its ties are
-- joined. This is the configuration, with its topology, and this the order of a round
abbrev pub HappensTied : Checked → List SessionEnds → Event → Kept → List Seat → TiedAnswer → Kept → List Seat → Type 0
HappensTied x order e ties seats (Answered answer) then after =
    (broken_at (ties_in ties) x e ≡ None) × AreAlike (ties_in then) (ties_then (ties_in ties) x e)
    × Happens x order e seats answer after
HappensTied x order e ties seats (EditTied tie) then after =
    (broken_at (ties_in ties) x e ≡ Some tie) × (then ≡ ties) × (after ≡ seats)

-- ---- what is found of an edit: what is valid then, with its ties, or its fault, or the tie that it would break
abbrev pub IsFound : Checked → Edit → Kept → Found → Kept → Type 0
IsFound x e ties (Made y) then =
    (edit_fault x e ≡ None) × (y ≡ edit_made e x) × (broken_at (ties_in ties) x (event.Edit e) ≡ None)
    × AreAlike (ties_in then) (ties_then (ties_in ties) x (event.Edit e))
IsFound x e ties (Faulty f) then = (edit_fault x e ≡ Some f) × (then ≡ ties)
IsFound x e ties (Tied tie) then = (broken_at (ties_in ties) x (event.Edit e) ≡ Some tie) × (then ≡ ties)

-- ---- the order of a round
-- the order of a round is that of the sessions of the topology that the configuration node has
abbrev pub IsOrderOf : List Seat → List SessionEnds → Type 0
IsOrderOf seats order = (x : Checked) → (seat seats 0).who ≡ Configuring x → order ≡ order_of seats x.topology

-- the order of a round is made anew where a compute node moved
abbrev pub OrdersThen : Moved → List Seat → List SessionEnds → List SessionEnds → Type 0
OrdersThen Yes after order then = IsOrderOf after then
OrdersThen No after order then = then ≡ order

-- the order of a round after a move; where there is none the nodes and their sessions stay
abbrev pub OrdersAs : Option Move → List Seat → List Seat → List SessionEnds → List SessionEnds → Type 0
OrdersAs None seats after order then = Keeps seats after × (then ≡ order)
OrdersAs (Some m) seats after order then = IsOrderOf after then

-- what an event moves that is answered so
abbrev pub moved_by : Checked → Event → TiedAnswer → Option Move
moved_by x (event.Edit e) (Answered Did) = moves e x.topology
moved_by x _ _ = None

abbrev pub Orders : Checked → Event → TiedAnswer → List Seat → List Seat → List SessionEnds → List SessionEnds → Type 0
Orders x e a seats after order then = OrdersAs (moved_by x e a) seats after order then

-- a fact of the tie that an answer tells, where it tells one
abbrev pub OfTie : (Tie → Type 0) → TiedAnswer → Type 0
OfTie Fact (Answered answer) = ⊤
OfTie Fact (EditTied tie) = Fact tie
