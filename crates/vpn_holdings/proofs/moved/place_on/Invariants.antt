use Rattle.std.proofs.Common.{◌≡◌, map, drop}
use Rattle.vpn_holdings.specs.Moved.{place_by, told_on}
use Rattle.vpn_holdings.specs.Views.{agent_of}
use Rattle.vpn_holdings.proofs.moved.place_on.Given as goal

abbrev pub invariant-loop-agent : goal.invariant-loop-agent
invariant-loop-agent l = place_by (told_on (map agent_of (drop l.agent-index l.agents)) l.session) l.delta ≡ place_by (told_on (map agent_of l.agents) l.session) l.delta
