use Rattle.std.proofs.Common.{◌≡◌, map, sym, ap, ◌∙◌, subst}
use Rattle.std.specs.Result.{IfOk}
use Rattle.node_core.specs.NodeModel.Agent.{Holdings}
use Rattle.agent_tables.specs.Touched.{AreTables, Tabled}
use Rattle.agent_tables.specs.Views.{heard_of}
use Rattle.agent_node.specs.Core.{holdings}
use Rattle.agent_node.specs.Ends.{Ends}
use Rattle.agent_node.proofs.Posts.{held_fits, holdings_as}
use Rattle.agent_node.proofs.ends.AgentEnds.tables.Goals as goal

pub of-requires : goal.of-requires
of-requires c = rw c.deref.ensures.value (held_fits c.self.inside.hearings.items c.self.invariant.held)

pub returns : goal.returns
returns c =
    let heard : map heard_of c.deref.result.now ≡ holdings c.args.self.now.posts =
    ap (map heard_of) c.deref.ensures.value
    ∙ sym (holdings_as c.self.inside.hearings.items c.self.inside.sents.items)
    ∙ ap (λ (e : Ends). holdings e.posts) c.self.view_is in
    subst (λ (h : Holdings). IfOk c.of.result (λ (tables : Tabled). AreTables h tables)) heard c.of.ensures
