use Rattle.std.proofs.Common.{ap, List}
use Rattle.flow_state.specs.declared.flow.Flow.{Flow}
use Rattle.flow_state.proofs.Recent.{put_is_recent}
use Rattle.flow_state.proofs.table.FlowTable.touch.Goals as goal

pub returns-clause-ok : goal.returns-clause-ok
returns-clause-ok c =
    let held = c.self.inside.kept in
    let valid = c.len-count.ensures.valid in
    rw (← c.self.view_is, c.in_ok-put.ensures.entries)
    (ap (λ (l : List Flow). record { capacity = held.cap; flows = l }) (put_is_recent held c.args.flow tt valid.0 valid.1 valid.2))
