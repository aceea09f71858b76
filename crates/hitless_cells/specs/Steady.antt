-- Networks between which a change leaves the ways, the ports and their compute nodes as they are.
use Rattle.std.specs.Prelude.{◌==◌, ◌&&◌, ◌||◌, Bool, true, false, not, if◌then◌else◌}
use Rattle.std.specs.List.{list_all, list_any}
use Rattle.ov_types.specs.First.{same_name}
use Rattle.config_types.specs.declared.config.Action.{Action}
use Rattle.config_types.specs.declared.config.Action.TheVariants.{Pass, Deny, Through}
use Rattle.config_types.specs.declared.config.Config.{Config}
use Rattle.config_types.specs.declared.config.Network.{Network}
use Rattle.config_types.specs.declared.config.Policy.{Policy}
use Rattle.config_types.specs.declared.config.Rule.{Rule}
use Rattle.policy_rules.specs.Related.{attaches, fits, rules_between}
use Rattle.config_check.specs.Checked.{Checked}
use Rattle.hitless_cells.specs.declared.changes.Change.{Change}
use Rattle.hitless_cells.specs.declared.changes.Change.TheVariants.{Same, Listening, Place}
use Rattle.hitless_cells.specs.declared.ends.Ends.{Ends}
use Rattle.hitless_cells.specs.declared.joints.Joint.{Joint}

-- a rule leads packets through a chain
abbrev pub leads_on : Action → Bool
leads_on Pass = false
leads_on Deny = false
leads_on (Through chain use_no) = true

-- a rule speaks of packets between two networks, either way, and leads them through a chain
abbrev pub rule_leads : Network → Network → Rule → Bool
rule_leads own target r = (fits r own target || fits r target own) && leads_on r.action

-- two networks attach a policy that has such a rule
abbrev pub policy_leads : Network → Network → Policy → Bool
policy_leads own target p = (attaches own p && attaches target p) && list_any (rule_leads own target) p.rules

-- some rule between two networks leads packets through a chain
abbrev pub leads_between : Config → Network → Network → Bool
leads_between c own target = list_any (λ r. leads_on r.rule.action) (rules_between c own target)

-- packets stay inside one network before and after, or go from one into another where no rule leads through a chain
abbrev pub ways_stay : Checked → Network → Network → Checked → Network → Network → Bool
ways_stay x a b y c d =
    if same_name b.name a.name then same_name d.name c.name
    else not (same_name d.name c.name) && (not (leads_between x.config a b) && not (leads_between y.config c d))

abbrev pub is_same : Change → Bool
is_same Same = true
is_same Listening = false
is_same Place = false

-- a port's compute node stays as it is
abbrev pub stays : Joint → Bool
stays j = is_same j.change

-- a port keeps its number, and its compute node stays as it is
abbrev pub arrives_alike : Joint → Bool
arrives_alike j = (j.before.id.0 == j.after.id.0) && is_same j.change

-- both networks keep their numbers, and their ports stay as they are
abbrev pub ends_stay : Ends → Ends → Bool
ends_stay from to =
    ((from.before.id.0 == from.after.id.0) && (to.before.id.0 == to.after.id.0))
    && (list_all stays from.joints && list_all arrives_alike to.joints)

-- the ways between the networks and their ports stay as they are
abbrev pub is_steady : Checked → Checked → Ends → Ends → Bool
is_steady x y from to = ends_stay from to && ways_stay x from.before to.before y from.after to.after
