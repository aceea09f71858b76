use Rattle.std.proofs.Common.{◌≡◌, map, take}
use Rattle.agent_node.proofs.Posts.{fresh_hearing, fresh_sent}
use Rattle.agent_node.proofs.ends.AgentEnds.new.Given as goal

abbrev pub invariant-loop-controller : goal.invariant-loop-controller
invariant-loop-controller l = record {
  hearings : l.hearings.items ≡ map fresh_hearing (take l.controller-index l.controller-items);
  sents : l.sents.items ≡ map fresh_sent (take l.controller-index l.controller-items);
}
