use Rattle.std.proofs.Common.{◌≡◌, ◌++◌, map, vec_len}
use Rattle.std.specs.FinMap.{from_entries}
use Rattle.ov_sync.specs.Keyed.{map_of}
use Rattle.vpn_tables.specs.Views.{vpn_order}
use Rattle.chain_reorigin.specs.Counting.{keyed}
use Rattle.chain_reorigin.proofs.routes.first_of_each.Given as goal

abbrev pub invariant-loop-route : goal.invariant-loop-route
invariant-loop-route l =
    map_of vpn_order (map keyed l.led.items ++ l.first.entries) ≡ from_entries (map keyed l.fn.led.items)

abbrev pub decreases-loop-route : goal.decreases-loop-route
decreases-loop-route l = vec_len l.led
