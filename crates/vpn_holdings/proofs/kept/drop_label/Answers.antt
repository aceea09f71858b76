use Rattle.std.proofs.Common.{List, ap, ◌∙◌, map}
use Rattle.std.specs.Prelude.{None}
use Rattle.ov_sync.specs.declared.Delta.TheVariants.{Drop}
use Rattle.path_select.specs.NodeModel.Paths.{Told}
use Rattle.vpn_holdings.specs.Indexed.{block_at, if_told, label_in, label_order}
use Rattle.vpn_holdings.specs.Views.{agent_of}
use Rattle.vpn_holdings.specs.declared.places.LabelAt.{LabelAt}
use Rattle.vpn_holdings.proofs.AgentsIndexed.{at_place}
use Rattle.vpn_holdings.proofs.PrefixOrder.{label_exact, label_itself}
use Rattle.vpn_holdings.proofs.Staying.{kept_at}
use Rattle.vpn_holdings.proofs.kept.drop_label.Goals as goal

pub returns-clause-labels : goal.returns-clause-labels
returns-clause-labels c = λ k.
    let agents = map agent_of c.args.agents.now.items in
    let at = c.args.place in
    let found = at_place agents c.args.session (Drop c.args.key) at c.requires.place in
    let told = λ (l : List Told) (q : LabelAt). if_told (block_at q) (label_in l q) in
    kept_at label_order label_exact label_itself c.args.labels.now c.remove.new.self at.0 None (told agents) (told (map agent_of c.tell_agent.new.agents.items)) c.requires.kept c.remove.ensures.updates.0
    (ap (λ l. told l at.0) c.in_ok-tell_agent.ensures.ok ∙ ap (if_told (block_at at.0)) found.0)
    (λ q away. ap (λ l. told l q) c.in_ok-tell_agent.ensures.ok ∙ ap (if_told (block_at q)) (found.1.0 q away)) k
