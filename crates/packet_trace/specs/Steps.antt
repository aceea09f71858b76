-- What the code takes for a lookup.
use Rattle.std.specs.Prelude.{ℕ, ◌<◌, List, Option, Some, None, option_map, slice_get}
use Rattle.ov_types.specs.declared.numbers.InstanceId.{InstanceId}
use Rattle.route_targets.specs.Forwarding.{Forwarder}
use Rattle.packet_trace.specs.Lookups as of
use Rattle.packet_trace.specs.Lookups.{Leading, Lookup}
use Rattle.packet_trace.specs.declared.step.LookupPlace.{LookupPlace}
use Rattle.packet_trace.specs.declared.step.LookupStep.{LookupStep}
use Rattle.packet_trace.specs.declared.step.LookupStep.TheVariants.{Arrives, Stops, Passes}

-- the agent in a place of the list
abbrev pub forwarder_at : List Forwarder → Option ℕ → Option Forwarder
forwarder_at agents None = None
forwarder_at agents (Some k) = slice_get agents k

abbrev pub lookup_at : List Forwarder → LookupPlace → Option Lookup
lookup_at agents p = option_map (λ g. record { agent = g; instance = p.instance }) (slice_get agents p.agent)

abbrev pub as_leading : List Forwarder → LookupStep → Option Leading
as_leading agents (Arrives port) = Some (of.Arrives port)
as_leading agents (Stops why) = Some (of.Stops why)
as_leading agents (Passes service behind) = option_map (λ l. of.Passes service l) (lookup_at agents behind)

-- the place behind a service is one of so many
abbrev pub IsWithin : ℕ → LookupStep → Type 0
IsWithin n (Arrives port) = Unit {0}
IsWithin n (Stops why) = Unit {0}
IsWithin n (Passes service behind) = behind.agent < n

-- where a source starts, and its network
abbrev pub source_in : List Forwarder → Option LookupPlace → Option (Forwarder × InstanceId)
source_in agents None = None
source_in agents (Some p) = option_map (λ g. (g, p.instance)) (slice_get agents p.agent)
