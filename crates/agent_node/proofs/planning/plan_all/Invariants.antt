use Rattle.std.specs.List.{All}
use Rattle.node_core.specs.Told.{up_of}
use Rattle.agent_node.specs.Ends.{SentFits}
use Rattle.agent_node.specs.Planning.{ArePlanned}
use Rattle.agent_node.proofs.planning.plan_all.Given as goal

abbrev pub invariant-loop-session : goal.invariant-loop-session
invariant-loop-session l = record {
  planned : ArePlanned l.hearings l.fn.sents l.sents (up_of l.wanted.entries) l.plans.items l.session;
  fits : All SentFits l.sents;
}
