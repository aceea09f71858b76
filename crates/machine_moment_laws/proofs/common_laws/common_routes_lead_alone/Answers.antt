use Rattle.machine_moment_laws.proofs.LedAlone.{nothing_else_leads}
use Rattle.machine_moment_laws.proofs.common_laws.common_routes_lead_alone.Goals as goal

pub returns : goal.returns
returns c = nothing_else_leads
