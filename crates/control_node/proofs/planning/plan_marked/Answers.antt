use Rattle.std.proofs.Common.{ap}
use Rattle.control_wants.specs.Marks.{Marks}
use Rattle.control_node.proofs.Tracking.{tracks-all, tracks-told}
use Rattle.control_node.proofs.planning.plan_marked.Goals as goal

pub returns-in-Ok-clause-tracked : goal.returns-in-Ok-clause-tracked
returns-in-Ok-clause-tracked c =
    tracks-told c.clear.new.self c.args.tables.now c.args.peers.now c.plan_all.new.peers c.args.agents.now c.plan_all.new.agents
    c.in-Ok.ensures.told.peers_told c.in-Ok.ensures.told.agents_told

pub returns-in-Err-clause-tracked : goal.returns-in-Err-clause-tracked
returns-in-Err-clause-tracked c =
    tracks-all c.set_all.new.self c.args.tables.now _ _ (ap (λ (d : Marks). d.all) c.set_all.ensures)
