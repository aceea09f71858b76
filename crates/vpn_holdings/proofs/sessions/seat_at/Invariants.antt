use Rattle.vpn_holdings.proofs.Seating.{IsPast}
use Rattle.vpn_holdings.proofs.sessions.seat_at.Given as goal

abbrev pub invariant-loop-index : goal.invariant-loop-index
invariant-loop-index l = IsPast l.agents l.session l.index
