-- The rules between two networks, which networks are related, and which a network imports.
use Rattle.std.specs.Prelude.{ℕ, ◌+◌, ◌&&◌, ◌||◌, nat_lt, Bool, true, false, not, List, [], ◌∷◌, filter, flat_map}
use Rattle.std.specs.Prelude.{if◌then◌else◌}
use Rattle.std.specs.List.{list_any}
use Rattle.config_types.specs.declared.config.Action.{Action}
use Rattle.config_types.specs.declared.config.Action.TheVariants.{Pass, Deny, Through}
use Rattle.config_types.specs.declared.config.Config.{Config}
use Rattle.config_types.specs.declared.config.End.{End}
use Rattle.config_types.specs.declared.config.End.TheVariants.{Any, Named}
use Rattle.config_types.specs.declared.config.Network.{Network}
use Rattle.config_types.specs.declared.config.Policy.{Policy}
use Rattle.config_types.specs.declared.config.Rule.{Rule}
use Rattle.ov_types.specs.First.{same_name}
pub use Rattle.policy_rules.specs.declared.numbered.NumberedRule.{NumberedRule}

-- the rules of a policy in order, the first at a position
abbrev pub numbered_from : ℕ → ℕ → List Rule → List NumberedRule
numbered_from sequence position [] = []
numbered_from sequence position (r ∷ rs) =
    record { number = record { sequence = sequence; position = position }; rule = r }
    ∷ numbered_from sequence (position + 1) rs

-- the rules of a policy: positions count from 1
abbrev pub numbered_rules : Policy → List NumberedRule
numbered_rules p = numbered_from p.sequence 1 p.rules

-- the rules of all policies, in the document's order
abbrev pub all_rules : Config → List NumberedRule
all_rules c = flat_map numbered_rules c.policies

-- a network attaches a policy
abbrev pub attaches : Network → Policy → Bool
attaches n p = list_any (same_name p.name) n.policies

-- a policy in its place by sequence, before those of the same
abbrev pub put_by_sequence : Policy → List Policy → List Policy
put_by_sequence p [] = p ∷ []
put_by_sequence p (q ∷ qs) = if nat_lt q.sequence p.sequence then q ∷ put_by_sequence p qs else p ∷ q ∷ qs

-- policies by sequence, and those of one sequence in the document's order
abbrev pub by_sequence : List Policy → List Policy
by_sequence [] = []
by_sequence (p ∷ ps) = put_by_sequence p (by_sequence ps)

-- an end of a rule is this network, or any
abbrev pub end_fits : End → Network → Bool
end_fits Any n = true
end_fits (Named name) n = same_name name n.name

-- a rule speaks of packets from one network to another
abbrev pub fits : Rule → Network → Network → Bool
fits r a b = end_fits r.source a && end_fits r.destination b

-- the rules between two networks: those of the policies that both attach, by sequence and then position,
-- that fit either way
abbrev pub rules_between : Config → Network → Network → List NumberedRule
rules_between c a b =
    filter (λ r. fits r.rule a b || fits r.rule b a)
    (flat_map numbered_rules (by_sequence (filter (λ p. attaches a p && attaches b p) c.policies)))

-- a rule lets packets through: it passes them, or leads them through a chain
abbrev pub lets_through : Action → Bool
lets_through Pass = true
lets_through Deny = false
lets_through (Through chain use_no) = true

-- a rule passes packets
abbrev pub passes : Action → Bool
passes Pass = true
passes Deny = false
passes (Through chain use_no) = false

-- two networks are related where they differ and a rule between them lets packets through
abbrev pub are_related : Config → Network → Network → Bool
are_related c a b = not (same_name a.name b.name) && list_any (λ r. lets_through r.rule.action) (rules_between c a b)

-- a network imports itself, and each network with a pass rule between them
abbrev pub imports : Config → Network → Network → Bool
imports c a b = same_name a.name b.name || list_any (λ r. passes r.rule.action) (rules_between c a b)
