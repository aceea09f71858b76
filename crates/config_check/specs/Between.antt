-- A network and those related to it, by the policies that it attaches.
use Rattle.std.specs.Prelude.{◌&&◌, ◌||◌, Bool, List}
use Rattle.std.specs.List.{list_any}
use Rattle.config_types.specs.declared.config.Network.{Network}
use Rattle.config_types.specs.declared.config.Policy.{Policy}
use Rattle.ov_types.specs.First.{same_name}
use Rattle.policy_rules.specs.Related.{attaches}
use Rattle.policy_rules.specs.Wanted.{leads_between}

-- a network attaches this policy too, and the policy has a rule that leads another network to it
abbrev pub also_leads : Network → Network → Policy → Bool
also_leads a b p = attaches b p && list_any (leads_between a b) p.rules

-- a network is the one of the group, or one that such a policy leads to
abbrev pub is_in_group : List Policy → Network → Network → Bool
is_in_group ps n m = same_name m.name n.name || list_any (also_leads n m) ps
