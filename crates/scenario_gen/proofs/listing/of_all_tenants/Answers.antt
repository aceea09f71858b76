use Rattle.scenario_gen.proofs.Loops.{appended_goes_on}
use Rattle.scenario_gen.proofs.listing.of_all_tenants.Goals as goal

pub loop-tenant-preserved : goal.loop-tenant-preserved
loop-tenant-preserved g c =
    appended_goes_on (g.T.OfTenant.of_tenant c.args.scenario) c.loop-tenant.items _ c.append_to.new.items c.loop-tenant.tenant _
    c.loop-tenant-test.true c.in_ok-append_to.ensures c.loop-tenant.invariant
