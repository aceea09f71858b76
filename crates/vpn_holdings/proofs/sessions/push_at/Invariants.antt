use Rattle.std.proofs.Common.{◌≡◌, ◌≤◌, ◌-◌, ◌++◌, length}
use Rattle.vpn_holdings.specs.Seats.{nothings}
use Rattle.vpn_holdings.proofs.sessions.push_at.Given as goal

abbrev pub invariant-loop-between : goal.invariant-loop-between
invariant-loop-between l = record {
  so_far : l.peers.items ≡ l.fn.peers.items ++ nothings (l.between - length l.fn.peers.items);
  past : length l.fn.peers.items ≤ l.between;
}
