use Rattle.std.proofs.Common.{refl}
use Rattle.net_machine.specs.declared.tying.Found.TheVariants.{Made, Faulty, Tied}
use Rattle.net_machine.proofs.Found.{as_found, fault_happens, made_can, made_edited, made_happens, tie_happens}
use Rattle.net_machine.proofs.Kept.{keeps_all}
use Rattle.net_machine.proofs.tying.edited.Goals as goal

pub edit_made-requires-clause-edited : goal.edit_made-requires-clause-edited
edit_made-requires-clause-edited c =
    made_edited c.valid.result.now c.args.edit.now c.args.ties.now _ c.args.nodes.now.seats _ c.valid.ensures
    c.in_ok-valid.ensures c.in-Made.valid c.in-Made.is

pub edit_made-requires-clause-can : goal.edit_made-requires-clause-can
edit_made-requires-clause-can c =
    made_can c.valid.result.now c.args.edit.now c.args.ties.now _ c.args.nodes.now.seats _ c.valid.ensures
    c.in_ok-valid.ensures c.in-Made.valid c.in-Made.is c.requires.can

pub returns-in_ok-edit_made-in-Made-clause-happens : goal.returns-in_ok-edit_made-in-Made-clause-happens
returns-in_ok-edit_made-in-Made-clause-happens c = λ x is.
    made_happens x c.valid.result.now c.args.edit.now c.args.ties.now _ c.args.nodes.now.seats c.args.order.now.items
    c.valid.ensures is c.in-Made.valid _
    (as_found c.valid.result.now c.args.edit.now c.args.ties.now _ c.args.nodes.now.seats _ c.valid.ensures
    c.in_ok-valid.ensures (Made c.in-Made.valid) c.in-Made.is)
    (c.in_ok-edit_made-in-Made.ensures.makes x is)

pub returns-in-Faulty-clause-happens : goal.returns-in-Faulty-clause-happens
returns-in-Faulty-clause-happens c = λ x is.
    fault_happens x c.valid.result.now c.args.edit.now c.args.ties.now _ c.args.nodes.now.seats c.args.order.now.items
    c.valid.ensures is c.in-Faulty.fault
    (as_found c.valid.result.now c.args.edit.now c.args.ties.now _ c.args.nodes.now.seats _ c.valid.ensures
    c.in_ok-valid.ensures (Faulty c.in-Faulty.fault) c.in-Faulty.is)

pub returns-in-Faulty-clause-orders : goal.returns-in-Faulty-clause-orders
returns-in-Faulty-clause-orders c = λ x is. (keeps_all _ c.requires.long, refl)

pub returns-in-Tied-clause-happens : goal.returns-in-Tied-clause-happens
returns-in-Tied-clause-happens c = λ x is.
    tie_happens x c.valid.result.now c.args.edit.now c.args.ties.now _ c.args.nodes.now.seats c.args.order.now.items
    c.valid.ensures is c.in-Tied.tie
    (as_found c.valid.result.now c.args.edit.now c.args.ties.now _ c.args.nodes.now.seats _ c.valid.ensures
    c.in_ok-valid.ensures (Tied c.in-Tied.tie) c.in-Tied.is)

pub returns-in-Tied-clause-orders : goal.returns-in-Tied-clause-orders
returns-in-Tied-clause-orders c = λ x is. (keeps_all _ c.requires.long, refl)
