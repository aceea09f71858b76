use Rattle.std.proofs.Common.{◌≡◌, subst, sym, ap, ◌∙◌, map}
use Rattle.std.specs.Result.{OnOk}
use Rattle.node_core.specs.NodeModel.Agent.{Holdings}
use Rattle.agent_tables.specs.Touched.{with_routes}
use Rattle.agent_tables.specs.Views.{heard_of}
use Rattle.agent_node.specs.Core.{holdings}
use Rattle.agent_node.specs.Ends.{Ends}
use Rattle.agent_node.proofs.Posts.{holdings_as}
use Rattle.agent_node.proofs.ends.AgentEnds.set_routes.Goals as goal

pub returns-clause-set : goal.returns-clause-set
returns-clause-set c =
    let heard : map heard_of c.deref.result.now ≡ holdings c.args.self.now.posts =
    ap (map heard_of) c.deref.ensures.value
    ∙ sym (holdings_as c.self.inside.hearings.items c.self.inside.sents.items)
    ∙ ap (λ (e : Ends). holdings e.posts) c.self.view_is in
    subst (λ (h : Holdings). OnOk c.set_routes.result (c.set_routes.new.self ≡ with_routes h c.args.tables.now c.args.keys.now))
    heard c.set_routes.ensures.set
