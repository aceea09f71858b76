use Rattle.std.proofs.Common.{◌≡◌, ◌++◌}
use Rattle.std.specs.List.{flat_map}
use Rattle.scenario_gen.specs.Naming.{below}
use Rattle.scenario_gen.specs.Tenants.{tenants}
use Rattle.scenario_gen.proofs.Loops.{left}
use Rattle.scenario_gen.proofs.listing.of_all_tenants.Given as goal

abbrev pub invariant-loop-tenant : goal.invariant-loop-tenant
invariant-loop-tenant g l =
    l.items ++ flat_map (g.T.OfTenant.of_tenant l.scenario) (left l.tenant l.tenant-end)
    ≡ flat_map (g.T.OfTenant.of_tenant l.scenario) (below (tenants l.scenario))
