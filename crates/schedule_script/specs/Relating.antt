-- Which networks a configuration relates, by the policies that each of them attaches.
use Rattle.std.specs.Prelude.{◌==◌, ◌&&◌, Bool, List, not}
use Rattle.std.specs.List.{list_any}
use Rattle.ov_types.specs.First.{same_name}
use Rattle.ov_types.specs.declared.numbers.InstanceId.{InstanceId}
use Rattle.config_types.specs.declared.config.Config.{Config}
use Rattle.config_types.specs.declared.config.Network.{Network}
use Rattle.config_types.specs.declared.config.Policy.{Policy}
use Rattle.policy_rules.specs.Related.{are_related}
use Rattle.config_check.specs.Between.{also_leads}

-- one of some policies, which a network attaches, relates it to another
abbrev pub is_related_by : List Policy → Network → Network → Bool
is_related_by ps m n = not (same_name m.name n.name) && list_any (also_leads m n) ps

-- the two have these numbers, and one of these policies relates them
abbrev pub relates_by : List Policy → Network → InstanceId → InstanceId → Network → Bool
relates_by ps m a b n = (m.id.0 == a.0) && ((n.id.0 == b.0) && is_related_by ps m n)

-- a network has this number, and is related to one of the other
abbrev pub relates_one : Config → InstanceId → InstanceId → Network → Bool
relates_one c a b m = (m.id.0 == a.0) && list_any (λ n. (n.id.0 == b.0) && are_related c m n) c.networks
