use Rattle.std.proofs.Common.{subst, sym}
use Rattle.std.proofs.lemmas.Result.{on_ok_weaker}
use Rattle.agent_tables.specs.Listed.{HaveSame, list_between}
use Rattle.agent_tables.specs.Touched.{AreTables}
use Rattle.agent_node.specs.Core.{holdings}
use Rattle.agent_node.proofs.Led.{of_some}
use Rattle.agent_node.proofs.tabled.renew.Goals as goal

pub returns-in-Some-clause-set : goal.returns-in-Some-clause-set
returns-in-Some-clause-set c =
    on_ok_weaker c.set_list.result (λ set have listed.
    set (of_some (λ n. HaveSame (list_between n) (holdings c.args.ends.now.posts) c.args.tables.now) c.args.list c.in-Some.networks c.in-Some.is listed))
    c.set_list.ensures.set

pub returns-then-routed-clause-set : goal.returns-then-routed-clause-set
returns-then-routed-clause-set c =
    on_ok_weaker c.set_objects.result (λ set have listed. set (have c.if-routed.true)) c.set_objects.ensures.set

pub returns-clause-set : goal.returns-clause-set
returns-clause-set c = λ have listed.
    subst (AreTables (holdings c.args.ends.now.posts)) (sym c.renew.ensures.tables) c.in_ok-made.ensures
