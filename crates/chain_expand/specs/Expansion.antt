-- What chains lead to, and their expansions.
use Rattle.std.specs.Prelude.{ℕ, zero, suc, ◌==◌, ◌&&◌, ◌||◌, nat_lt, Bool, false, List, [], ◌∷◌, length, map, flat_map}
use Rattle.std.specs.Prelude.{find, Option, Some, None, is_none, Result, Ok, Err, if◌then◌else◌}
use Rattle.std.specs.List.{list_any}
use Rattle.std.specs.Option.{option_map_or}
use Rattle.ov_types.specs.declared.numbers.ServiceNo.{ServiceNo}
use Rattle.config_types.specs.declared.config.Chain.{Chain}
use Rattle.config_types.specs.declared.config.Config.{Config}
use Rattle.config_types.specs.declared.config.Service.{Service}
use Rattle.chain_expand.specs.declared.fault.ChainFault.{ChainFault}
use Rattle.chain_expand.specs.declared.fault.ChainFault.TheVariants.{Loop, TooLong, Twice}
use Rattle.ov_types.specs.First.{same_name, first_meeting}

-- what a hop names: the first service of the name, else the first chain
abbrev pub service_named : Config → List ℕ → Option Service
service_named c name = find (λ s. same_name s.name name) c.services

abbrev pub chain_named : Config → List ℕ → Option Chain
chain_named c name = find (λ d. same_name d.name name) c.chains

abbrev pub names_chain : Config → List ℕ → Bool
names_chain c hop = is_none (service_named c hop)

-- the hops of the chain of a name
abbrev pub hops_of : Config → List ℕ → List (List ℕ)
hops_of c name = option_map_or (λ d. d.hops) (chain_named c name) []

-- one chain leads to another over at most n named chains
unfoldable pub leads_within : ℕ → Config → List ℕ → List ℕ → Bool
leads_within zero c from to = false
leads_within (suc n) c from to =
    list_any (λ hop. names_chain c hop && (same_name hop to || leads_within n c hop to)) (hops_of c from)

-- one chain leads to another: no way needs more steps than there are chains
abbrev pub leads : Config → List ℕ → List ℕ → Bool
leads c from to = leads_within (length c.chains) c from to

-- named chains lead from a chain back to it
abbrev pub loops : Config → List ℕ → Bool
loops c name = leads c name name

-- the first chain in order that a chain leads to, or is, and that loops
abbrev pub loop_of : Config → List ℕ → Option Chain
loop_of c name = find (λ d. (same_name d.name name || leads c name d.name) && loops c d.name) c.chains

-- the services of a hop: a service gives itself, and a chain its hops' services in place, at most n deep
unfoldable pub services_within : ℕ → Config → List ℕ → List Service
services_within zero c hop = option_map_or (λ s. s ∷ []) (service_named c hop) []
services_within (suc n) c hop =
    option_map_or (λ s. s ∷ []) (service_named c hop) (flat_map (services_within n c) (hops_of c hop))

-- the expansion of a chain: where it does not loop it is no deeper than there are chains
abbrev pub expansion : Config → List ℕ → List Service
expansion c name = flat_map (services_within (length c.chains) c) (hops_of c name)

abbrev pub same_number : Service → Service → Bool
same_number a b = a.id.0 == b.id.0

abbrev pub numbers_or_twice : List ℕ → List Service → Option (Service × Service) → Result (List ServiceNo) ChainFault
numbers_or_twice name services (Some pair) = Err (Twice name pair.1.name)
numbers_or_twice name services None = Ok (map (λ s. s.id) services)

abbrev pub numbers_or_fault : List ℕ → List Service → Result (List ServiceNo) ChainFault
numbers_or_fault name services = if nat_lt 15 (length services) then Err (TooLong name)
    else numbers_or_twice name services (first_meeting same_number services)

abbrev pub unless_loop : Option Chain → Result (List ServiceNo) ChainFault → Result (List ServiceNo) ChainFault
unless_loop (Some d) other = Err (Loop d.name)
unless_loop None other = other

-- the expansion of a chain by numbers: a loop comes first, then more than 15 services, then one that stands twice
unfoldable pub expansion_of : Config → List ℕ → Result (List ServiceNo) ChainFault
expansion_of c name = unless_loop (loop_of c name) (numbers_or_fault name (expansion c name))
