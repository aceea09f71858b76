use Rattle.std.proofs.Common.{ap, ◌∙◌, map}
use Rattle.std.proofs.lemmas.Result.{on_ok_weaker}
use Rattle.agent_tables.specs.Routes.{routes_of}
use Rattle.agent_tables.specs.Touched.{Tabled, with_routes}
use Rattle.agent_tables.specs.Views.{heard_of}
use Rattle.agent_tables.proofs.Touched.{rows_led}
use Rattle.agent_tables.proofs.tables.AgentTables.set_routes.Goals as goal

pub returns-clause-set : goal.returns-clause-set
returns-clause-set c =
    on_ok_weaker c.lead_all.result (λ led.
    let h = map heard_of c.args.sessions.now in
    let t = c.self.inside in
    (λ i. record {
      rows = record {
        labels = t.labels;
        acls = t.acls;
        routes = (ap routes_of led ∙ rows_led h c.args.keys.now t.fibs.entries c.self.invariant.1) i;
      };
      instances = c.lead_all.ensures.instances i;
    })
    ∙ ap (λ (t : Tabled). with_routes h t c.args.keys.now) c.self.view_is) c.lead_all.ensures.led
