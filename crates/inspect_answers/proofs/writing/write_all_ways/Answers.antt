use Rattle.std.proofs.Common.{◌≡◌, ◌+◌, ◌++◌, ◌∷◌, List, drop, ap, sym, subst, ◌∙◌}
use Rattle.std.specs.Prelude.{flat_map}
use Rattle.config_types.specs.declared.config.Config.{Config}
use Rattle.config_types.specs.declared.config.Network.{Network}
use Rattle.ov_io.proofs.PieceLemmas.{ends_cut, on_err, way_breaks, way_goes_on}
use Rattle.compile_answers.proofs.LineLemmas.{drop_at}
use Rattle.inspect_json.specs.WayLines.{network_in, pair_in, ways_in}
use Rattle.inspect_answers.proofs.writing.write_all_ways.Goals as goal

pub returns-in_err-write_network-clause-front : goal.returns-in_err-write_network-clause-front
unfolding ways_in
returns-in_err-write_network-clause-front g c =
    let config = c.args.valid.now.config in
    let form = c.args.form in
    let pairs = c.args.pairs.now in
    let i = c.loop-from.from-index in
    let item = c.from-item.result in
    let same : c.as_slice-networks.result.now ≡ config.networks = c.as_slice-networks.ensures ∙ ap (λ (c : Config). c.networks) c.config.ensures.part in
    let left = subst (λ (ns : List Network). drop i ns ≡ item ∷ drop (i + 1) ns) same
    (drop_at c.as_slice-networks.result.now i item c.loop-from-test.true c.from-item.is) in
    let split = ap (flat_map (network_in form pairs config)) left
    ∙ ap (λ (ns : List Network). flat_map (pair_in form pairs config item) ns ++ flat_map (network_in form pairs config) (drop (i + 1) config.networks)) (sym same) in
    on_err c.from_residual-in_err-write_network.result _ (way_breaks _ _ _ _ _ _ _ _ c.loop-from.invariant.way split c.in_err-write_network.ensures.front)

pub loop-from-preserved : goal.loop-from-preserved
loop-from-preserved g c =
    let config = c.args.valid.now.config in
    let form = c.args.form in
    let pairs = c.args.pairs.now in
    let i = c.loop-from.from-index in
    let item = c.from-item.result in
    let same : c.as_slice-networks.result.now ≡ config.networks = c.as_slice-networks.ensures ∙ ap (λ (c : Config). c.networks) c.config.ensures.part in
    let left = subst (λ (ns : List Network). drop i ns ≡ item ∷ drop (i + 1) ns) same
    (drop_at c.as_slice-networks.result.now i item c.loop-from-test.true c.from-item.is) in
    let split = ap (flat_map (network_in form pairs config)) left
    ∙ ap (λ (ns : List Network). flat_map (pair_in form pairs config item) ns ++ flat_map (network_in form pairs config) (drop (i + 1) config.networks)) (sym same) in
    record {
      way = way_goes_on _ _ _ _ _ _ _ _ _ c.loop-from.invariant.way split c.in_ok-write_network.ensures.ok;
      kept = c.in_ok-write_network.ensures.cause ∙ c.loop-from.invariant.kept;
    }

pub returns-clause-front : goal.returns-clause-front
unfolding ways_in
returns-clause-front g c =
    ends_cut c.write_gathered.result _ _ _ _ _ _ c.loop-from.invariant.way c.write_gathered.ensures.front
