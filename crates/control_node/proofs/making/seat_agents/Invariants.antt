use Rattle.std.proofs.Common.{◌≡◌, ◌+◌, [], take}
use Rattle.control_node.specs.Core.{told_from}
use Rattle.control_node.proofs.making.seat_agents.Given as goal

abbrev pub invariant-loop-agent : goal.invariant-loop-agent
invariant-loop-agent l = record {
  number : l.session ≡ l.first + l.agent-index;
  tables : l.tables ≡ record l.fn.tables { agents = told_from l.first (take l.agent-index l.agents) [] };
}
