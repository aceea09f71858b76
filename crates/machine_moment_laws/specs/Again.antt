-- Packets that all configurations since a moment keep to a port are delivered there so many rounds later.
use Rattle.std.specs.Prelude.{◌≡◌, ◌≤◌, ℕ, ◌+◌, List, [], ◌∷◌, length}
use Rattle.std.specs.List.{All, Contains}
use Rattle.ov_types.specs.declared.numbers.PortNo.{PortNo}
use Rattle.ov_types.specs.declared.numbers.ServiceNo.{ServiceNo}
use Rattle.ov_types.specs.declared.packet.Outcome.TheVariants.{Delivered}
use Rattle.ov_types.specs.declared.packet.Packet.{Packet}
use Rattle.route_targets.specs.Forwarding.{forwarding}
use Rattle.schedule_script.specs.ConfigCheck.Checked.{Checked}
use Rattle.reach_plain.specs.Reachability.{reachability}
use Rattle.hitless_cells.specs.Keeping.{Keep}
use Rattle.hitless_cells.specs.Ways.{Offers, Track, Way, visited}
use Rattle.machine_model.specs.Events.{forwarders}
use Rattle.machine_model.specs.Network.{MachineState}
use Rattle.machine_moment_laws.specs.Kept.{IsDeliveredBy, IsInHand}

-- no way among some visits more services, by the track that all configurations offer it with
abbrev pub VisitAtMost : ℕ → List Checked → Packet → PortNo → List Way → Type 0
VisitAtMost most cs p number ways =
    (way : Way) (track : Track) → Contains ways way → All (λ x. Offers x p number way track) cs
    → length (visited way track) ≤ most

-- five rounds later, and one more for each service of the longest of the packet's own ways, it is delivered by one of them
abbrev pub KeptAreDeliveredAgain : ℕ → List Checked → MachineState → Type 0
KeptAreDeliveredAgain rounds cs w =
    (p : Packet) (number : PortNo) (ways : List Way) → Keep cs p number ways
    → IsInHand cs p number ways → (most : ℕ) → VisitAtMost most cs p number ways → most + 5 ≤ rounds
    → IsDeliveredBy cs p number ways (forwarding (forwarders w) p)

-- where there was one configuration since then: all that its policies deliver, five rounds later and one more for each
-- service
abbrev pub OneDeliversAgain : ℕ → List Checked → MachineState → Type 0
OneDeliversAgain rounds cs w =
    (c : Checked) → cs ≡ c ∷ [] → (p : Packet) (number : PortNo) (services : List ServiceNo)
    → reachability c.config p ≡ Delivered number services → length services + 5 ≤ rounds
    → forwarding (forwarders w) p ≡ Delivered number services
