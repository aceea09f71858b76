-- The lines of outcomes.
use Rattle.std.specs.Prelude.{ℕ, List, [], ◌∷◌, ◌++◌, codes, decimal, Some, None}
use Rattle.ov_types.specs.Rows.{rule_text}
use Rattle.ov_types.specs.declared.numbers.ServiceNo.{ServiceNo}
use Rattle.ov_types.specs.declared.packet.Outcome.{Outcome}
use Rattle.ov_types.specs.declared.packet.Outcome.TheVariants.{Delivered, Dropped}
use Rattle.ov_types.specs.declared.packet.Why.{Why}
use Rattle.ov_types.specs.declared.packet.Why.TheVariants.{NoSourcePort, NoDestination, NoRoute, Denied, NoLabel}
use Rattle.ov_types.specs.declared.packet.Why.TheVariants.{TtlExpired}
use Rattle.report.specs.Lists.{list_text}
use Rattle.scale_out.specs.declared.visits.Spread.{Spread}
use Rattle.scale_out.specs.declared.visits.Spread.TheVariants as spread
use Rattle.scale_out.specs.declared.visits.Visit.{Visit}

abbrev pub services_text : List ServiceNo → List ℕ
services_text services = list_text (λ s. decimal s.0) services

abbrev pub why_text : Why → List ℕ
why_text NoSourcePort = codes "no-source-port"
why_text NoDestination = codes "no-destination"
why_text NoRoute = codes "no-route"
why_text (Denied None) = codes "denied -"
why_text (Denied (Some r)) = codes "denied " ++ rule_text r
why_text NoLabel = codes "no-label"
why_text TtlExpired = codes "ttl-expired"

-- the number of a packet or of an event, and the outcome
unfoldable pub outcome_line : ℕ → Outcome → List ℕ
outcome_line n (Delivered port services) =
    decimal n ++ (codes " delivered port " ++ (decimal port.0 ++ (codes " services " ++ (services_text services
    ++ (10 ∷ [])))))
outcome_line n (Dropped why) = decimal n ++ (codes " dropped " ++ (why_text why ++ (10 ∷ [])))

-- a service, and the member of it that is visited
abbrev pub visit_text : Visit → List ℕ
visit_text v = decimal v.service.0 ++ (codes ":" ++ decimal v.member)

-- the number of a packet and its outcome, with the member of each service that it visits
unfoldable pub spread_line : ℕ → Spread → List ℕ
spread_line n (spread.Delivered port visits) =
    decimal n ++ (codes " delivered port " ++ (decimal port.0 ++ (codes " services " ++ (list_text visit_text visits
    ++ (10 ∷ [])))))
spread_line n (spread.Dropped why) = decimal n ++ (codes " dropped " ++ (why_text why ++ (10 ∷ [])))
