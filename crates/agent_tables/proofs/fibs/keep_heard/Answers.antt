use Rattle.std.proofs.Common.{ap, sym, ◌∙◌, ◌+◌, List, drop, map}
use Rattle.node_core.specs.NodeModel.Agent.{rows_heard}
use Rattle.agent_tables.specs.Routes.{kept_all}
use Rattle.agent_tables.specs.Views.{heard_of}
use Rattle.agent_tables.specs.declared.hearing.Hearing.{Hearing}
use Rattle.agent_tables.proofs.Routes.{heard_turn}
use Rattle.agent_tables.proofs.fibs.keep_heard.Goals as goal
use Rattle.ov_types.proofs.FirstLemmas.{next_is}

pub loop-session-preserved : goal.loop-session-preserved
loop-session-preserved c =
    let items = c.args.sessions.now in
    let k = c.loop-session.session-index in
    let s = c.session-item.result in
    heard_turn (heard_of s) (map heard_of (drop (k + 1) items)) c.loop-session.fibs.entries c.keep_session.new.fibs.entries (kept_all c.args.fibs.now.entries (rows_heard (map heard_of items)))
    c.in_ok-keep_session.ensures
    (ap (λ (l : List Hearing). kept_all c.loop-session.fibs.entries (rows_heard (map heard_of l))) (sym (next_is items k s c.loop-session-test.true c.session-item.is)) ∙ c.loop-session.invariant)
