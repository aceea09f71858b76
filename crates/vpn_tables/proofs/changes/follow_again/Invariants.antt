use Rattle.std.proofs.Common.{◌≡◌, ◌++◌, map, take, drop}
use Rattle.vpn_tables.specs.Followed.{followed_again}
use Rattle.vpn_tables.proofs.changes.follow_again.Given as goal

abbrev pub invariant-loop-change : goal.invariant-loop-change
invariant-loop-change l = l.changes ≡ map (followed_again l.tables) (take l.change-index l.fn.changes) ++ drop l.change-index l.fn.changes
