-- Objects of a configuration, and which of them another does not have.
use Rattle.std.specs.Prelude.{ℕ, ◌==◌, ◌&&◌, Bool, false, List, ◌++◌, filter, flat_map, map, not}
use Rattle.std.specs.List.{list_any}
use Rattle.ov_types.specs.First.{same_name}
use Rattle.ov_types.specs.Prefix.{Block}
use Rattle.config_types.specs.declared.config.Config.{Config}
use Rattle.config_types.specs.declared.config.Network.{Network}
use Rattle.config_types.specs.declared.config.Port.{Port}
use Rattle.config_types.specs.declared.config.Service.{Service}
use Rattle.inspect_changes.specs.declared.objects.Object.{Object}
use Rattle.inspect_changes.specs.declared.objects.Object.TheVariants as Is

abbrev pub network_of : Network → Object
network_of n = Is.Network n.name

abbrev pub subnet_of : List ℕ → Block → Object
subnet_of network prefix = Is.Subnet network prefix

abbrev pub subnets_of : Network → List Object
subnets_of n = map (subnet_of n.name) n.subnets

abbrev pub port_of : Port → Object
port_of q = Is.Port q.id q.network q.address q.node

abbrev pub service_of : Service → Object
service_of s = Is.Service s.id s.node

-- the objects of a configuration: networks, subnets, ports and services
abbrev pub objects_of : Config → List Object
objects_of c =
    map network_of c.networks ++ (flat_map subnets_of c.networks ++ (map port_of c.ports ++ map service_of c.services))

abbrev pub same_block : Block → Block → Bool
same_block p q = (p.addr == q.addr) && (p.len == q.len)

abbrev pub same_object : Object → Object → Bool
same_object (Is.Network a) (Is.Network b) = same_name a b
same_object (Is.Subnet a p) (Is.Subnet b q) = same_name a b && same_block p q
same_object (Is.Port m a x d) (Is.Port n b y e) =
    ((m.0 == n.0) && same_name a b) && ((x.0 == y.0) && same_name d e)
same_object (Is.Service m d) (Is.Service n e) = (m.0 == n.0) && same_name d e
same_object _ _ = false

-- the objects of a configuration that another does not have, or has otherwise
abbrev pub gone : Config → Config → List Object
gone c d = filter (λ o. not (list_any (same_object o) (objects_of d))) (objects_of c)
