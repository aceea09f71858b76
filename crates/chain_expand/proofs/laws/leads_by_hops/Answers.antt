use Rattle.chain_expand.proofs.LeadsLaws.{leads_from_Leads, Leads-from_leads}
use Rattle.chain_expand.proofs.laws.leads_by_hops.Goals as goal

pub returns : goal.returns
returns c = λ config from to. (Leads-from_leads config from to, leads_from_Leads config from to)
