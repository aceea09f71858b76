use Rattle.std.proofs.Common.{◌-◌}
use Rattle.vrouter_fib.proofs.trie.Trie.+set.Given as goal

-- no node is below a block of one address
abbrev pub decreases-set : goal.decreases-set
decreases-set l = 33 - l.span.len
