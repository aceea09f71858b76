-- What an edit moves, by the configuration that is valid as it comes.
use Rattle.std.specs.Prelude.{◌≡◌, List, Bool, true, false, cond, IfOk}
use Rattle.std.specs.declared.option.Option.{Option}
use Rattle.std.specs.declared.option.Option.TheVariants.{Some, None}
use Rattle.std.specs.declared.result.Result.{Result}
use Rattle.std.specs.declared.result.Result.TheVariants.{Ok, Err}
use Rattle.std.proofs.Common.{refl, sym, ◌∙◌, ap, subst}
use Rattle.config_check.specs.Checked.{Checked}
use Rattle.config_check.specs.Finding.{node_named}
use Rattle.config_types.specs.declared.edit.Object.TheVariants as objects
use Rattle.config_types.specs.declared.topology.Node.{Node}
use Rattle.config_types.specs.declared.topology.Topology.{Topology}
use Rattle.running_nodes.specs.MachineModel.Setup.{Move, Name, listed_by, put_moves, stands}
use Rattle.running_nodes.specs.Moving.{Moves, MovesIf}
use Rattle.running_nodes.specs.Seats.{Configuring, Seat, seat}
use Rattle.net_machine.specs.declared.editing.Moved.{Moved}
use Rattle.net_machine.specs.declared.editing.Moved.TheVariants.{Yes, No}
use Rattle.net_machine.specs.declared.ends.SessionEnds.{SessionEnds}
use Rattle.net_machine.specs.Moving.{CanMove, CanMoveIf, did_move}
use Rattle.net_machine.specs.Seating.{Keeps}
use Rattle.net_machine.specs.Tying.{OrdersAs, OrdersThen}
use Rattle.net_machine.proofs.Found.{same_setup}

-- ---- a compute node of a name moves, from the control nodes that it listed
abbrev pub move_to : Name → Option Node → List Name → Move
move_to name now left = record { name = name; left = left; now = now }

abbrev pub move_in : Name → Option Node → Checked → Move
move_in name now x = move_to name now (listed_by (node_named x.topology name))

module _ (seats : List Seat) (t : Topology) (name : Name) (now : Option Node) (found : Checked) (left : List Name)
    (who : (seat seats 0).who ≡ Configuring found) (left_is : left ≡ listed_by (node_named found.topology name)) where
  pub can_move : ((x : Checked) → (seat seats 0).who ≡ Configuring x → CanMove t (move_in name now x) seats)
      → CanMove t (move_to name now left) seats
  can_move can = subst (λ ls. CanMove t (move_to name now ls) seats) (sym left_is) (can found who)

  pub moves_so : (after : List Seat) → Moves t (move_to name now left) seats after
      → (x : Checked) → (seat seats 0).who ≡ Configuring x → Moves t (move_in name now x) seats after
  moves_so after h x is =
      subst (λ ls. Moves t (move_to name now ls) seats after)
      (left_is ∙ ap (λ (z : Checked). listed_by (node_named z.topology name)) (same_setup found x (sym who ∙ is))) h

-- ---- one that is put
module _ (seats : List Seat) (t : Topology) (n : Node) (found x : Checked) (there : Topology)
    (who : (seat seats 0).who ≡ Configuring found) (there_is : there ≡ found.topology)
    (asked : (seat seats 0).who ≡ Configuring x) where
  pub there_now : there ≡ x.topology
  there_now = there_is ∙ ap (λ (z : Checked). z.topology) (same_setup found x (sym who ∙ asked))

  put_by : (b : Bool) → b ≡ stands (node_named there n.name) n
      → put_moves (objects.Node n) x.topology ≡ cond b None (Some (move_in n.name (Some n) x))
  put_by b is =
      ap (λ c. cond c None (Some (move_in n.name (Some n) x)))
      (sym (is ∙ ap (λ (u : Topology). stands (node_named u n.name) n) there_now))

  module _ (b : Bool) (b_is : b ≡ stands (node_named there n.name) n) where
    pub stays : b ≡ true → put_moves (objects.Node n) x.topology ≡ None
    stays is = put_by b b_is ∙ ap (λ c. cond c None (Some (move_in n.name (Some n) x))) is

    pub goes : b ≡ false → put_moves (objects.Node n) x.topology ≡ Some (move_in n.name (Some n) x)
    goes is = put_by b b_is ∙ ap (λ c. cond c None (Some (move_in n.name (Some n) x))) is

-- ---- of what is answered where memory is there
pub ok_then : {T E : Type 0} (r : Result T E) (P Q : T → Type 0) → ((t : T) → P t → Q t) → IfOk r P → IfOk r Q
ok_then (Ok t) P Q f h = f t h
ok_then (Err e) P Q f h = tt

-- ---- by what an edit moves
pub none_moves : (t : Topology) (seats : List Seat) (m : Option Move) → m ≡ None → MovesIf t m seats seats
none_moves t seats m is = subst (λ o. MovesIf t o seats seats) (sym is) refl

pub none_moved : (m : Option Move) → m ≡ None → No ≡ did_move m
none_moved m is = sym (ap did_move is)

pub one_can : (t : Topology) (seats : List Seat) (m : Option Move) (n : Move) → m ≡ Some n → CanMoveIf t m seats
    → CanMove t n seats
one_can t seats m n is h = subst (λ o. CanMoveIf t o seats) is h

pub one_moves : (t : Topology) (seats after : List Seat) (m : Option Move) (n : Move) → m ≡ Some n → Moves t n seats after
    → MovesIf t m seats after
one_moves t seats after m n is h = subst (λ o. MovesIf t o seats after) (sym is) h

pub one_moved : (m : Option Move) (n : Move) → m ≡ Some n → Yes ≡ did_move m
one_moved m n is = sym (ap did_move is)

-- ---- the order of a round
pub orders_as : (seats after : List Seat) (order then : List SessionEnds) (m : Option Move) (moved : Moved)
    → moved ≡ did_move m → (m ≡ None → Keeps seats after) → OrdersThen moved after order then
    → OrdersAs m seats after order then
orders_as seats after order then None moved is keeps h =
    (keeps refl, subst (λ b. OrdersThen b after order then) is h)
orders_as seats after order then (Some m) moved is keeps h = subst (λ b. OrdersThen b after order then) is h
