use Rattle.std.proofs.Common.{◌≡◌, subst, sym, ap, ◌∙◌, map}
use Rattle.std.specs.Result.{OnOk}
use Rattle.node_core.specs.NodeModel.Agent.{Holdings}
use Rattle.agent_tables.specs.Listed.{HaveSame, list_between}
use Rattle.agent_tables.specs.Touched.{AreTables}
use Rattle.agent_tables.specs.Views.{heard_of}
use Rattle.agent_node.specs.Core.{holdings}
use Rattle.agent_node.specs.Ends.{Ends}
use Rattle.agent_node.proofs.Posts.{held_fits, holdings_as}
use Rattle.agent_node.proofs.ends.AgentEnds.set_list.Goals as goal

pub set_list-requires-clause-fits : goal.set_list-requires-clause-fits
set_list-requires-clause-fits c = rw c.deref.ensures.value (held_fits c.self.inside.hearings.items c.self.invariant.held)

pub returns-clause-set : goal.returns-clause-set
returns-clause-set c =
    let heard : map heard_of c.deref.result.now ≡ holdings c.args.self.now.posts =
    ap (map heard_of) c.deref.ensures.value
    ∙ sym (holdings_as c.self.inside.hearings.items c.self.inside.sents.items)
    ∙ ap (λ (e : Ends). holdings e.posts) c.self.view_is in
    subst (λ (h : Holdings). OnOk c.set_list.result (HaveSame (list_between c.args.networks) h c.args.tables.now → AreTables h c.set_list.new.self))
    heard c.set_list.ensures.set
