use Rattle.std.proofs.Common.{◌≡◌, drop}
use Rattle.ov_types.specs.First.{first_of, ◌<|>◌}
use Rattle.ov_types.specs.declared.prefix.Addr.{Addr}
use Rattle.schedule_script.specs.Kept.{name_in}
use Rattle.schedule_script.specs.Tying.{name_by}
use Rattle.schedule_script.proofs.addressing.tie_names.Given as goal

abbrev pub invariant-loop-node : goal.invariant-loop-node
invariant-loop-node l =
    (address : Addr) → (name_in l.names.entries address <|> first_of (name_by address) (drop l.node-index l.node-items))
    ≡ (name_in l.fn.names.entries address <|> first_of (name_by address) l.topology.nodes)
