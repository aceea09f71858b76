use Rattle.std.proofs.Common.{ap, ◌∙◌}
use Rattle.std.proofs.lemmas.List.{drop_all}
use Rattle.config_types.specs.declared.topology.Topology.{Topology}
use Rattle.inspect_walks.proofs.Gathered.{all_gathered, gathered_more, row_within, rows_ordered, their_rows}
use Rattle.inspect_walks.proofs.agent.agents_of.Goals as goal

pub bounds-rows-place : goal.bounds-rows-place
bounds-rows-place c =
    let x = c.args.valid.now in
    let nodes = c.as_slice-nodes.ensures ∙ ap (λ (t : Topology). t.nodes) c.topology.ensures.part in
    let rows = c.as_slice-rows.ensures ∙ their_rows x.topology x.config c.args.compiled.now c.requires in
    row_within x.topology x.config c.as_slice-nodes.result.now nodes c.as_slice-rows.result.now rows c.loop-place.place c.loop-place-test.true

pub push_agent-requires : goal.push_agent-requires
push_agent-requires c =
    let x = c.args.valid.now in
    let nodes = c.as_slice-nodes.ensures ∙ ap (λ (t : Topology). t.nodes) c.topology.ensures.part in
    let rows = c.as_slice-rows.ensures ∙ their_rows x.topology x.config c.args.compiled.now c.requires in
    rows_ordered x.topology x.config c.as_slice-nodes.result.now nodes c.as_slice-rows.result.now rows c.topology.ensures.config_form c.topology.ensures.valid
    c.loop-place.place c.index-nodes-place.result c.index-rows-place.result c.loop-place-test.true c.index-nodes-place.is c.index-rows-place.is

pub loop-place-preserved : goal.loop-place-preserved
loop-place-preserved c =
    let x = c.args.valid.now in
    let nodes = c.as_slice-nodes.ensures ∙ ap (λ (t : Topology). t.nodes) c.topology.ensures.part in
    let rows = c.as_slice-rows.ensures ∙ their_rows x.topology x.config c.args.compiled.now c.requires in
    gathered_more x.topology x.config c.as_slice-nodes.result.now nodes c.as_slice-rows.result.now rows
    c.loop-place.place c.index-nodes-place.result c.index-rows-place.result c.loop-place.agents.items c.push_agent.new.agents.items
    c.loop-place-test.true c.index-nodes-place.is c.index-rows-place.is c.in_ok-push_agent.ensures c.loop-place.invariant

pub returns : goal.returns
returns c =
    let x = c.args.valid.now in
    let nodes = c.as_slice-nodes.ensures ∙ ap (λ (t : Topology). t.nodes) c.topology.ensures.part in
    let rows = c.as_slice-rows.ensures ∙ their_rows x.topology x.config c.args.compiled.now c.requires in
    all_gathered x.topology x.config c.as_slice-nodes.result.now nodes c.as_slice-rows.result.now rows c.loop-place.agents.items c.loop-place.place
    (drop_all c.loop-place.place c.as_slice-nodes.result.now c.loop-place-test.false) c.loop-place.invariant
