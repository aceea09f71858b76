use Rattle.std.proofs.Common.{◌≡◌, drop, map}
use Rattle.node_core.specs.NodeModel.Agent.{rows_heard}
use Rattle.agent_tables.specs.Routes.{kept_all}
use Rattle.agent_tables.specs.Views.{heard_of}
use Rattle.agent_tables.proofs.fibs.keep_heard.Given as goal

abbrev pub invariant-loop-session : goal.invariant-loop-session
invariant-loop-session l =
    kept_all l.fibs.entries (rows_heard (map heard_of (drop l.session-index l.sessions)))
    ≡ kept_all l.fn.fibs.entries (rows_heard (map heard_of l.sessions))
