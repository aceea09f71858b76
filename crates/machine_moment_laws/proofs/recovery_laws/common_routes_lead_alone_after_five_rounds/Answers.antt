use Rattle.machine_moment_laws.proofs.Back.{nothing_else_leads}
use Rattle.machine_moment_laws.proofs.recovery_laws.common_routes_lead_alone_after_five_rounds.Goals as goal

pub returns : goal.returns
returns c = nothing_else_leads
