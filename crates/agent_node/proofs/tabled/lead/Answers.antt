use Rattle.std.proofs.Common.{subst, sym}
use Rattle.std.proofs.lemmas.Result.{on_ok_weaker}
use Rattle.agent_tables.specs.Touched.{AreTables}
use Rattle.agent_tables.proofs.Touched.{tables_remade}
use Rattle.agent_node.specs.Core.{holdings}
use Rattle.agent_node.proofs.tabled.lead.Goals as goal

pub returns-then-current-clause-led : goal.returns-then-current-clause-led
returns-then-current-clause-led c =
    on_ok_weaker c.set_routes.result (λ set on before agree are.
    subst (AreTables (holdings c.args.ends.now.posts)) (sym set)
    (tables_remade before (holdings c.args.ends.now.posts) c.args.tables.now c.args.routes.now are agree))
    c.set_routes.ensures.set
