-- Which ways lie open between two networks, whatever the tuple and the order of rules, and what of them is otherwise in
-- another configuration.
use Rattle.std.specs.Prelude.{ℕ, ◌==◌, ◌&&◌, Bool, true, false, List, [], ◌∷◌, find, flat_map, Option, Some, None}
use Rattle.std.specs.Prelude.{option_map, if◌then◌else◌}
use Rattle.std.specs.Cmp.Lexicographic.{pointwise}
use Rattle.std.specs.List.{list_any}
use Rattle.std.specs.Option.{option_map_or}
use Rattle.ov_types.specs.First.{first_of, same_name}
use Rattle.ov_types.specs.declared.numbers.ServiceNo.{ServiceNo}
use Rattle.config_types.specs.declared.config.Action.{Action}
use Rattle.config_types.specs.declared.config.Action.TheVariants as Does
use Rattle.config_types.specs.declared.config.Config.{Config}
use Rattle.config_types.specs.declared.config.Network.{Network}
use Rattle.config_types.specs.declared.config.Policy.{Policy}
use Rattle.config_types.specs.declared.config.Rule.{Rule}
use Rattle.config_types.specs.declared.config.Service.{Service}
use Rattle.config_types.specs.declared.topology.Node.{Node}
use Rattle.policy_rules.specs.Matching.{speaks_both_ways}
use Rattle.policy_rules.specs.Related.{attaches, fits, passes, rules_between}
use Rattle.config_check.specs.Checked.{Checked}
use Rattle.config_check.specs.Finding.{node_named}
use Rattle.reach_plain.specs.Outcomes.{numbers_of}
use Rattle.hitless_cells.specs.declared.changes.Change.{Change}
use Rattle.hitless_cells.specs.declared.changes.Change.TheVariants.{Same, Listening, Place}
use Rattle.hitless_cells.specs.declared.course.Course.{Course}
use Rattle.hitless_cells.specs.declared.course.Course.TheVariants.{Inside, Passing, Through}
use Rattle.hitless_cells.specs.declared.openings.Opening.{Opening}
use Rattle.hitless_cells.specs.declared.openings.Opening.TheVariants.{NotBefore, NotAfter, Both}
use Rattle.hitless_cells.specs.declared.stops.Stop.{Stop}

-- the chain that an action leads packets through, if by the use of this number
abbrev pub chain_of_use : ℕ → Action → Option (List ℕ)
chain_of_use use_no Does.Pass = None
chain_of_use use_no Does.Deny = None
chain_of_use use_no (Does.Through chain number) = if number == use_no then Some chain else None

-- a rule speaks of packets from one network into another forwards, or of those that answer them
abbrev pub speaks_of : Network → Network → Rule → Bool → Bool
speaks_of own target r false = fits r own target
speaks_of own target r true = speaks_both_ways r.direction && fits r target own

abbrev pub chain_in_rule : Network → Network → ℕ → Bool → Rule → Option (List ℕ)
chain_in_rule own target use_no mirrored r =
    if speaks_of own target r mirrored then chain_of_use use_no r.action else None

abbrev pub chain_in_policy : Network → Network → ℕ → Bool → Policy → Option (List ℕ)
chain_in_policy own target use_no mirrored p =
    if attaches own p && attaches target p then first_of (chain_in_rule own target use_no mirrored) p.rules else None

-- the chain that a use leads packets from one network into another through
abbrev pub used_chain : Config → Network → Network → ℕ → Bool → Option (List ℕ)
used_chain c own target use_no mirrored = first_of (chain_in_policy own target use_no mirrored) c.policies

-- the service of a number
abbrev pub service_numbered : Config → ℕ → Option Service
service_numbered c number = find (λ s. s.id.0 == number) c.services

-- the compute node of a service
abbrev pub service_node : Checked → ServiceNo → Option Node
service_node x number = option_map_or (λ s. node_named x.topology s.node) (service_numbered x.config number.0) None

abbrev pub stops_at : Checked → ServiceNo → List Stop
stops_at x number = option_map_or (λ n. record { service = number; node = n } ∷ []) (service_node x number) []

-- the services of a chain in order, each with its compute node
abbrev pub stops_of : Checked → List ℕ → List Stop
stops_of x chain = flat_map (stops_at x) (numbers_of x.config chain)

-- inside a network no rule is asked
abbrev pub opened_within : Course → Option (List Stop)
opened_within Inside = Some []
opened_within Passing = None
opened_within (Through use_no mirrored) = None

-- from one network into another lies open what some rule between the two opens
abbrev pub opened_between : Checked → Network → Network → Course → Option (List Stop)
opened_between x own target Inside = None
opened_between x own target Passing =
    if list_any (λ r. passes r.rule.action) (rules_between x.config own target) then Some [] else None
opened_between x own target (Through use_no mirrored) =
    option_map (stops_of x) (used_chain x.config own target use_no mirrored)

-- the services on a way, where it lies open
abbrev pub opened : Checked → Network → Network → Course → Option (List Stop)
opened x own target course =
    if same_name target.name own.name then opened_within course else opened_between x own target course

-- ---- what is otherwise
-- the greater of two changes
abbrev pub worse : Change → Change → Change
worse Same other = other
worse Place other = Place
worse Listening Place = Place
worse Listening Same = Listening
worse Listening Listening = Listening

-- a compute node has another name or address, or listens to other control nodes
abbrev pub change_of : Node → Node → Change
change_of n m =
    if same_name n.name m.name && (n.address.0 == m.address.0)
    then (if pointwise same_name n.controllers m.controllers then Same else Listening)
    else Place

abbrev pub change_found : Option Node → Option Node → Change
change_found None other = Place
change_found (Some n) None = Place
change_found (Some n) (Some m) = change_of n m

-- services differ in number, or one of them by its number or its compute node
abbrev pub stops_change : List Stop → List Stop → Change
stops_change [] [] = Same
stops_change [] (u ∷ us) = Place
stops_change (s ∷ ss) [] = Place
stops_change (s ∷ ss) (u ∷ us) =
    if s.service.0 == u.service.0 then worse (change_of s.node u.node) (stops_change ss us) else Place

-- what is otherwise of both ways: the way after lies open before or not, then the way before after or not, and then how the
-- services on both change
abbrev pub opening_by : Option (List Stop) → Option (List Stop) → Option (List Stop) → Option (List Stop) → Opening
opening_by None was_after was_before becomes_after = NotBefore
opening_by (Some s) None was_before becomes_after = NotAfter
opening_by (Some s) (Some r) None becomes_after = Both Place
opening_by (Some s) (Some r) (Some p) None = Both Place
opening_by (Some s) (Some r) (Some p) (Some q) = Both (worse (stops_change p r) (stops_change s q))

-- a way that was taken from one network into another before, and one that is after
abbrev pub opening_of : Checked → Network → Network → Checked → Network → Network → Course → Course → Opening
opening_of x a b y c d was becomes =
    opening_by (opened x a b becomes) (opened y c d was) (opened x a b was) (opened y c d becomes)
