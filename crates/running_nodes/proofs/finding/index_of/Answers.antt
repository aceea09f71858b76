use Rattle.std.proofs.Common.{sym, ◌∙◌, ◌<◌, ◌≤◌, length, arith, refl}
use Rattle.running_nodes.specs.Seats.{is_name}
use Rattle.running_nodes.proofs.Found.{here, later, none_left}
use Rattle.running_nodes.proofs.finding.index_of.Goals as goal

pub loop-index-init : goal.loop-index-init
loop-index-init c = refl

pub returns-then-is_name : goal.returns-then-is_name
returns-then-is_name c =
    let below : c.loop-index.index < length c.args.names.now = omega arith in
    sym (c.loop-index.invariant ∙ here (is_name c.args.name.now) c.args.names.now c.loop-index.index c.index-names-index.result below c.index-names-index.is (sym c.is_name.ensures ∙ c.if-is_name.true))

pub loop-index-preserved : goal.loop-index-preserved
loop-index-preserved c =
    let below : c.loop-index.index < length c.args.names.now = omega arith in
    c.loop-index.invariant ∙ later (is_name c.args.name.now) c.args.names.now c.loop-index.index c.index-names-index.result below c.index-names-index.is (sym c.is_name.ensures ∙ c.if-is_name.false)

pub returns : goal.returns
returns c =
    let all : length c.args.names.now ≤ c.loop-index.index = omega arith in
    sym (c.loop-index.invariant ∙ none_left (is_name c.args.name.now) c.args.names.now c.loop-index.index all)
