use Rattle.std.proofs.Common.{IfOk, List, sym, ◌∙◌, ap, subst}
use Rattle.std.specs.List.{All}
use Rattle.running_nodes.specs.Moving.{PassesAll, resettled_at}
use Rattle.running_nodes.specs.Seats.{Seat, seat}
use Rattle.std.specs.Prelude.{ℕ, map}
use Rattle.net_machine.specs.Moving.{AreFound, CanLeave, HasControls, HasRoom, IsControlNode}
use Rattle.net_machine.specs.Seating.{AreLong}
use Rattle.net_machine.proofs.Moved.{before_controls, before_long, comes_few, comes_listed, move_controls, move_found, move_leaves}
use Rattle.net_machine.proofs.Moved.{move_room}
use Rattle.net_machine.proofs.moving.move_from.Goals as goal

pub reseat-requires-clause-few : goal.reseat-requires-clause-few
reseat-requires-clause-few c = c.requires.can.seats_few

pub reseat-requires-clause-listed : goal.reseat-requires-clause-listed
reseat-requires-clause-listed c = comes_listed c.args.topology.now _ c.requires.can.comes

pub reseat-requires-clause-two : goal.reseat-requires-clause-two
reseat-requires-clause-two c = comes_few c.args.topology.now _ c.requires.can.comes

pub resettle_all-requires-clause-ordered : goal.resettle_all-requires-clause-ordered
resettle_all-requires-clause-ordered c =
    subst (HasControls c.args.topology.now) (sym c.in_ok-reseat.ensures.reseated)
    (move_controls c.args.topology.now _ c.args.nodes.now.seats c.requires.long c.requires.can)

pub resettle_all-requires-clause-few : goal.resettle_all-requires-clause-few
resettle_all-requires-clause-few c = c.requires.can.few

pub resettle_all-requires-clause-found : goal.resettle_all-requires-clause-found
resettle_all-requires-clause-found c =
    subst AreFound (sym c.in_ok-reseat.ensures.reseated)
    (move_found c.args.topology.now _ c.args.nodes.now.seats c.requires.long c.requires.can)

pub resettle_all-requires-clause-leaves : goal.resettle_all-requires-clause-leaves
resettle_all-requires-clause-leaves c =
    subst (λ (ss : List Seat). (k : ℕ) → CanLeave c.args.name.now (seat ss k)) (sym c.in_ok-reseat.ensures.reseated)
    (move_leaves c.args.topology.now _ c.args.nodes.now.seats c.requires.long c.requires.can)

pub resettle_all-requires-clause-room : goal.resettle_all-requires-clause-room
resettle_all-requires-clause-room c =
    subst HasRoom (sym c.in_ok-reseat.ensures.reseated)
    (move_room c.args.topology.now _ c.args.nodes.now.seats c.requires.long c.requires.can)

pub pass_all-requires-clause-long : goal.pass_all-requires-clause-long
pass_all-requires-clause-long c =
    subst AreLong (sym (c.in_ok-resettle_all.ensures.resettled ∙ ap (map (resettled_at _ _)) c.in_ok-reseat.ensures.reseated))
    (before_long c.args.topology.now _ c.args.nodes.now.seats c.requires.long c.requires.can)

pub pass_all-requires-clause-controls : goal.pass_all-requires-clause-controls
pass_all-requires-clause-controls c =
    subst (λ (ss : List Seat). All (IsControlNode ss) c.args.left.now)
    (sym (c.in_ok-resettle_all.ensures.resettled ∙ ap (map (resettled_at _ _)) c.in_ok-reseat.ensures.reseated))
    (before_controls c.args.topology.now _ c.args.nodes.now.seats c.requires.long c.requires.can)

pub returns-clause-moves : goal.returns-clause-moves
returns-clause-moves c =
    subst (λ (ss : List Seat). IfOk c.pass_all.result (λ _. PassesAll c.args.left.now ss c.pass_all.new.nodes.seats))
    (c.in_ok-resettle_all.ensures.resettled ∙ ap (map (resettled_at _ _)) c.in_ok-reseat.ensures.reseated)
    c.pass_all.ensures.passes
