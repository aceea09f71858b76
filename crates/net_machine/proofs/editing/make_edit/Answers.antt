use Rattle.std.proofs.Common.{◌≡◌, sym, ◌∙◌, ap, subst}
use Rattle.config_check.specs.Checked.{Checked}
use Rattle.config_types.specs.declared.topology.Topology.{Topology}
use Rattle.running_nodes.specs.MachineModel.Setup.{moves}
use Rattle.running_nodes.specs.Moving.{MovesIf}
use Rattle.running_nodes.specs.Seats.{Configuring, seat}
use Rattle.net_machine.proofs.Found.{same_setup}
use Rattle.net_machine.proofs.Made.{configured_long, configured_some, edit_controllers, edit_first, edit_keeps, edit_long, edit_made}
use Rattle.net_machine.proofs.Made.{moved_who}
use Rattle.net_machine.proofs.editing.make_edit.Goals as goal

pub set_valid-requires : goal.set_valid-requires
set_valid-requires c =
    let same : (z : Checked) → (seat c.move_edited.new.nodes.seats 0).who ≡ Configuring z
    → c.args.valid.topology.controllers ≡ z.topology.controllers = λ z at.
    let seats = c.args.nodes.now.seats in
    let moved = c.move_edited.new.nodes.seats in
    let y = c.args.valid in
    let e = c.args.edit.now in
    let before = c.requires.configured in
    let x = before.setup in
    let made = subst (λ (t : Topology). MovesIf t (moves e x.topology) seats moved) c.topology.ensures.part
    (c.in_ok-moved.ensures.moves x before.is) in
    edit_controllers seats moved moved moved x y e c.requires.long before.is (c.requires.edited x before.is) (c.requires.can x before.is) made
    ∙ ap (λ (u : Checked). u.topology.controllers)
    (same_setup x z (sym (moved_who seats moved moved moved x y e c.requires.long before.is (c.requires.edited x before.is) (c.requires.can x before.is) made) ∙ at))
    in record { same = same }

pub clear_node-requires-clause-node : goal.clear_node-requires-clause-node
clear_node-requires-clause-node c =
    let seats = c.args.nodes.now.seats in
    let moved = c.move_edited.new.nodes.seats in
    let y = c.args.valid in
    let e = c.args.edit.now in
    let before = c.requires.configured in
    let x = before.setup in
    let made = subst (λ (t : Topology). MovesIf t (moves e x.topology) seats moved) c.topology.ensures.part
    (c.in_ok-moved.ensures.moves x before.is) in
    configured_some seats moved c.set_valid.new.self.seats c.set_valid.new.self.seats x y e c.requires.long before.is (c.requires.edited x before.is) (c.requires.can x before.is) made
    c.in_ok-set_valid.ensures.configures

pub clear_node-requires-clause-long : goal.clear_node-requires-clause-long
clear_node-requires-clause-long c =
    let seats = c.args.nodes.now.seats in
    let moved = c.move_edited.new.nodes.seats in
    let y = c.args.valid in
    let e = c.args.edit.now in
    let before = c.requires.configured in
    let x = before.setup in
    let made = subst (λ (t : Topology). MovesIf t (moves e x.topology) seats moved) c.topology.ensures.part
    (c.in_ok-moved.ensures.moves x before.is) in
    configured_long seats moved c.set_valid.new.self.seats c.set_valid.new.self.seats x y e c.requires.long before.is (c.requires.edited x before.is) (c.requires.can x before.is) made
    c.in_ok-set_valid.ensures.configures

pub returns-clause-makes : goal.returns-clause-makes
returns-clause-makes c = λ x is.
    let seats = c.args.nodes.now.seats in
    let moved = c.move_edited.new.nodes.seats in
    let y = c.args.valid in
    let e = c.args.edit.now in
    let made = subst (λ (t : Topology). MovesIf t (moves e x.topology) seats moved) c.topology.ensures.part
    (c.in_ok-moved.ensures.moves x is) in
    edit_made seats moved c.set_valid.new.self.seats c.clear_node.new.nodes.seats x y e c.requires.long is (c.requires.edited x is) (c.requires.can x is) made
    c.in_ok-set_valid.ensures.configures c.clear_node.ensures.cleared

pub returns-clause-long : goal.returns-clause-long
returns-clause-long c =
    let seats = c.args.nodes.now.seats in
    let moved = c.move_edited.new.nodes.seats in
    let y = c.args.valid in
    let e = c.args.edit.now in
    let before = c.requires.configured in
    let x = before.setup in
    let made = subst (λ (t : Topology). MovesIf t (moves e x.topology) seats moved) c.topology.ensures.part
    (c.in_ok-moved.ensures.moves x before.is) in
    edit_long seats moved c.set_valid.new.self.seats c.clear_node.new.nodes.seats x y e c.requires.long before.is (c.requires.edited x before.is) (c.requires.can x before.is) made
    c.in_ok-set_valid.ensures.configures c.clear_node.ensures.cleared

pub returns-clause-valid : goal.returns-clause-valid
returns-clause-valid c =
    let seats = c.args.nodes.now.seats in
    let moved = c.move_edited.new.nodes.seats in
    let y = c.args.valid in
    let e = c.args.edit.now in
    let before = c.requires.configured in
    let x = before.setup in
    let made = subst (λ (t : Topology). MovesIf t (moves e x.topology) seats moved) c.topology.ensures.part
    (c.in_ok-moved.ensures.moves x before.is) in
    edit_first seats moved c.set_valid.new.self.seats c.clear_node.new.nodes.seats x y e c.requires.long before.is (c.requires.edited x before.is) (c.requires.can x before.is) made
    c.in_ok-set_valid.ensures.configures c.clear_node.ensures.cleared

pub returns-clause-keeps : goal.returns-clause-keeps
returns-clause-keeps c = λ x is.
    let seats = c.args.nodes.now.seats in
    let moved = c.move_edited.new.nodes.seats in
    let y = c.args.valid in
    let e = c.args.edit.now in
    let made = subst (λ (t : Topology). MovesIf t (moves e x.topology) seats moved) c.topology.ensures.part
    (c.in_ok-moved.ensures.moves x is) in
    edit_keeps seats moved c.set_valid.new.self.seats c.clear_node.new.nodes.seats x y e c.requires.long is (c.requires.edited x is) (c.requires.can x is) made
    c.in_ok-set_valid.ensures.configures c.clear_node.ensures.cleared
