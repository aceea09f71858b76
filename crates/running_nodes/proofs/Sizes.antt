-- Every message has an octet.
use Rattle.std.proofs.Common.{◌<◌, ℕ, suc, List, [], ◌∷◌, length, arith}
use Rattle.config_node.specs.MachineModel.Moments.{ArePositive}
use Rattle.config_node.specs.MachineModel.Session.{Open, Keepalive, Hello, Carries}
use Rattle.agent_node.specs.ItemWire.Records.{spelling}
use Rattle.agent_node.specs.ItemWire.Item.TheVariants.{Hello as HelloItem}
use Rattle.running_nodes.specs.Stands.{at_least_one, carried_octets, message_size}

one_at_least : (octets : List ℕ) → 0 < at_least_one octets
one_at_least [] = omega arith
one_at_least (o ∷ octets) = some (length octets)
  where
    some : (n : ℕ) → 0 < suc n
    some n = omega arith

pub positive : ArePositive message_size
positive n Open = omega arith
positive n Keepalive = omega arith
positive n Hello = one_at_least (spelling (HelloItem n))
positive n (Carries c) = one_at_least (carried_octets c)
