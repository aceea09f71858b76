use Rattle.std.proofs.Common.{◌≡◌, ◌∙◌, false, map, sym, refl, ap}
use denote.Enum.Bare.{sameb}
use Rattle.item_wire.specs.contracts.event.ItemState.{the_type}
use Rattle.item_wire.specs.declared.event.ItemState.{ItemState}
use Rattle.item_wire.specs.declared.event.ItemState.TheVariants.{Idle, Opened, Up}
use Rattle.node_core.specs.Beginning.{phase_of}
use Rattle.node_core.specs.Told.{spelled, up_of}
use Rattle.node_core.specs.NodeModel.Maps.{Map, Change, difference}
use Rattle.agent_node.specs.Planning.{messages_of}
use Rattle.agent_node.proofs.Changes.{told_fits, told_as}
use Rattle.agent_node.proofs.planning.plan_one.Goals as goal

not_idle : (state : ItemState) (sent wants : Map) → sameb the_type state Idle ≡ false
    → map (λ c. spelled c) (difference sent wants) ≡ messages_of (phase_of state) sent wants
not_idle Idle sent wants e = cc
not_idle Opened sent wants e = refl
not_idle Up sent wants e = refl

pub spell_all-requires : goal.spell_all-requires
spell_all-requires c =
    rw c.deref.ensures.value (told_fits c.args.sent.now c.args.wanted.now.entries c.in_ok-deltas.deltas.items
    c.in_ok-deltas.ensures.changes c.requires.sent c.requires.wanted)

pub returns-clause-messages : goal.returns-clause-messages
returns-clause-messages c =
    let told = told_as c.args.sent.now c.args.wanted.now.entries c.in_ok-deltas.deltas.items
    c.in_ok-deltas.ensures.changes in
    c.in_ok-messages.ensures ∙ rw c.deref.ensures.value (ap (map (λ (d : Change). spelled d)) told)
    ∙ not_idle c.args.state (up_of c.args.sent.now) (up_of c.args.wanted.now.entries)
    (sym c.eq.ensures ∙ c.if-eq.false)
