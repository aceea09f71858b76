use Rattle.std.proofs.Common.{◌≡◌, ℕ, List, drop}
use Rattle.ov_types.specs.First.{first_of, ◌<|>◌}
use Rattle.schedule_script.specs.Kept.{address_by, address_in}
use Rattle.schedule_script.proofs.addressing.tie_addresses.Given as goal

abbrev pub invariant-loop-node : goal.invariant-loop-node
invariant-loop-node l =
    (name : List ℕ) → (address_in l.addresses.entries name <|> first_of (address_by name) (drop l.node-index l.node-items))
    ≡ (address_in l.fn.addresses.entries name <|> first_of (address_by name) l.topology.nodes)
