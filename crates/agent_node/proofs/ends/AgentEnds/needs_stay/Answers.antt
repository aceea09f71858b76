use Rattle.std.proofs.Common.{◌≡◌, IsTrue, subst, sym, ap, ◌∙◌, map}
use Rattle.std.specs.Result.{IfOk}
use Rattle.ov_types.specs.declared.numbers.InstanceId.{InstanceId}
use Rattle.node_core.specs.NodeModel.Agent.{Holdings, is_needed}
use Rattle.agent_tables.specs.Listed.{SameBut, list_between}
use Rattle.agent_tables.specs.Touched.{AreTables}
use Rattle.agent_tables.specs.Views.{heard_of}
use Rattle.agent_node.specs.Core.{holdings}
use Rattle.agent_node.specs.Ends.{Ends}
use Rattle.agent_node.proofs.Posts.{held_fits, holdings_as}
use Rattle.agent_node.proofs.ends.AgentEnds.needs_stay.Goals as goal

pub needs_stay-requires : goal.needs_stay-requires
needs_stay-requires c = rw c.deref.ensures.value (held_fits c.self.inside.hearings.items c.self.invariant.held)

pub returns : goal.returns
returns c =
    let heard : map heard_of c.deref.result.now ≡ holdings c.args.self.now.posts =
    ap (map heard_of) c.deref.ensures.value
    ∙ sym (holdings_as c.self.inside.hearings.items c.self.inside.sents.items)
    ∙ ap (λ (e : Ends). holdings e.posts) c.self.view_is in
    subst (λ (h : Holdings). IfOk c.needs_stay.result (λ stay. IsTrue stay → (before : Holdings)
    → AreTables before c.args.tables.now → SameBut (list_between c.args.networks) before h
    → (i : InstanceId) → is_needed before i ≡ is_needed h i)) heard c.needs_stay.ensures
