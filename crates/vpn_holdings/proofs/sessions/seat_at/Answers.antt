use Rattle.vpn_holdings.proofs.Seating.{taken, free, free_end}
use Rattle.vpn_holdings.proofs.sessions.seat_at.Goals as goal

pub returns-then-agent-session : goal.returns-then-agent-session
returns-then-agent-session c = taken c.args.agents.now c.args.session c.loop-index.index c.loop-index.invariant c.index-agents-index.result c.loop-index-test.true c.index-agents-index.is c.if-agent-session.true

pub returns-then-agent-session-2 : goal.returns-then-agent-session-2
returns-then-agent-session-2 c = free c.args.agents.now c.args.session c.loop-index.index c.loop-index.invariant c.index-agents-index.result c.loop-index-test.true c.index-agents-index.is c.if-agent-session-2.true

pub returns : goal.returns
returns c = free_end c.args.agents.now c.args.session c.loop-index.index c.loop-index.invariant c.loop-index.auto.index-end c.loop-index-test.false
