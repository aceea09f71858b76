use Rattle.std.specs.Prelude.{ℕ, ◌+◌, ◌≤◌, suc}
use Rattle.std.proofs.Common.{arith}
use Rattle.node_model.specs.Ranks.{peer_rank}
use Rattle.node_model.proofs.Local.{local_to_peers}
use Rattle.node_model.proofs.local_laws.wants_towards_peers_are_local.Goals as goal

next : (r n : ℕ) → r ≤ n + 1 → r ≤ suc n
next r n h = omega arith

pub returns : goal.returns
returns c = λ rank h g ordered f f' agree k r. local_to_peers rank h g ordered f f' agree k (next (peer_rank h.feed k) rank r)
