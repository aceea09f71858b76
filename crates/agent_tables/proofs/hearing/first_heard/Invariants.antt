use Rattle.std.proofs.Common.{◌≡◌, drop, map}
use Rattle.node_core.specs.NodeModel.Agent.{route_from}
use Rattle.agent_tables.specs.Views.{heard_of}
use Rattle.agent_tables.proofs.hearing.first_heard.Given as goal

abbrev pub invariant-loop-session : goal.invariant-loop-session
invariant-loop-session l =
    route_from (map heard_of (drop l.session-index l.sessions)) l.instance l.prefix
    ≡ route_from (map heard_of l.sessions) l.instance l.prefix
