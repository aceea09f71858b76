-- Whether some rule between two networks does what is wanted, policy by policy: their order is no matter there.
use Rattle.std.specs.Prelude.{◌&&◌, ◌||◌, Bool}
use Rattle.std.specs.List.{list_any}
use Rattle.config_types.specs.declared.config.Action.{Action}
use Rattle.config_types.specs.declared.config.Network.{Network}
use Rattle.config_types.specs.declared.config.Policy.{Policy}
use Rattle.config_types.specs.declared.config.Rule.{Rule}
use Rattle.policy_rules.specs.Related.{attaches, fits, lets_through, passes}
use Rattle.policy_rules.specs.declared.between.Wanted.{Wanted}
use Rattle.policy_rules.specs.declared.between.Wanted.TheVariants.{Passing, LettingThrough}

-- an action does what is wanted
abbrev pub is_wanted : Wanted → Action → Bool
is_wanted Passing a = passes a
is_wanted LettingThrough a = lets_through a

-- a rule speaks of packets between two networks, either way, and does what is wanted
abbrev pub serves : Wanted → Network → Network → Rule → Bool
serves w a b r = (fits r a b || fits r b a) && is_wanted w r.action

-- two networks attach a policy that has such a rule
abbrev pub joins : Wanted → Network → Network → Policy → Bool
joins w a b p = (attaches a p && attaches b p) && list_any (serves w a b) p.rules

-- a rule speaks of packets between two networks, either way, and lets them through
abbrev pub leads_between : Network → Network → Rule → Bool
leads_between a b r = (fits r a b || fits r b a) && lets_through r.action
