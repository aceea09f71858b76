use Rattle.std.proofs.Common.{List, ap, sym, ◌∙◌, map}
use Rattle.std.specs.Prelude.{Some}
use Rattle.ov_sync.specs.declared.Delta.TheVariants.{Put}
use Rattle.path_select.specs.NodeModel.Paths.{Told}
use Rattle.vpn_holdings.specs.Indexed.{block_at, if_told, label_in, label_order}
use Rattle.vpn_holdings.specs.Views.{agent_of}
use Rattle.vpn_holdings.specs.declared.places.LabelAt.{LabelAt}
use Rattle.vpn_holdings.proofs.AgentsIndexed.{at_place}
use Rattle.vpn_holdings.proofs.PrefixOrder.{label_exact, label_itself}
use Rattle.vpn_holdings.proofs.Staying.{kept_at, put_back}
use Rattle.vpn_holdings.proofs.kept.put_label.Goals as goal

pub returns-in-Ok-clause-labels : goal.returns-in-Ok-clause-labels
returns-in-Ok-clause-labels c = λ k.
    let agents = map agent_of c.args.agents.now.items in
    let at = c.args.place in
    let found = at_place agents c.args.session (Put c.args.key c.args.label) at c.requires.place in
    let told = λ (l : List Told) (q : LabelAt). if_told (block_at q) (label_in l q) in
    kept_at label_order label_exact label_itself c.args.labels.now c.insert.new.self at.0 (Some at.1) (told agents) (told (map agent_of c.tell_agent.new.agents.items)) c.requires.kept c.in_ok-before.ensures.updates.0
    (ap (λ l. told l at.0) c.in-Ok.ensures.ok ∙ ap (if_told (block_at at.0)) found.0 ∙ ap Some found.1.1)
    (λ q away. ap (λ l. told l q) c.in-Ok.ensures.ok ∙ ap (if_told (block_at q)) (found.1.0 q away)) k

pub returns-in-Err-clause-labels : goal.returns-in-Err-clause-labels
returns-in-Err-clause-labels c = λ k.
    let told = λ (l : List Told) (q : LabelAt). if_told (block_at q) (label_in l q) in
    put_back label_order label_exact label_itself c.args.labels.now c.insert.new.self c.put_label_back.new.labels c.args.place.0 c.args.place.1 c.in_ok-before.before (told (map agent_of c.args.agents.now.items)) c.requires.kept
    c.in_ok-before.ensures.updates.0 c.in_ok-before.ensures.old c.put_label_back.ensures k
    ∙ ap (λ l. told l k) (sym c.in-Err.ensures.err)
