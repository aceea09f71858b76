use Rattle.std.proofs.Common.{arith, ◌<◌, ◌≤◌, ◌∙◌, false, [], length, replicate, refl, ap}
use Rattle.std.proofs.lemmas.List.{get_or-replicate, length-set}
use Rattle.chain_expand.proofs.Rows.{linked_more, left_more, linked_all}
use Rattle.chain_expand.proofs.links.links_of.Goals as goal

pub loop-index-init : goal.loop-index-init
loop-index-init c = record {
  size = refl;
  done = λ k lt. absurd (omega arith);
  left = λ k le lt. get_or-replicate 128 k (replicate 128 false) [] lt;
}

pub loop-index-preserved : goal.loop-index-preserved
loop-index-preserved c =
    let config = c.args.config.now in
    let rows = c.loop-index.rows in
    let i = c.loop-index.index in
    let row = c.row_of.result in
    let items = c.as_slice-chain-items.ensures in
    let before : i < length config.chains = omega (arith, ap length items) in
    record {
      size = length-set rows i row ∙ c.loop-index.invariant.size;
      done = linked_more config rows i c.chain-item.result row c.loop-index.invariant.size c.requires before (rw (← items) c.chain-item.is) (rw (← c.as_slice.ensures) c.row_of.ensures) c.loop-index.invariant.done;
      left = left_more rows i row c.loop-index.invariant.left;
    }

pub returns : goal.returns
returns c =
    let past : length c.args.config.now.chains ≤ c.loop-index.index = omega (arith, ap length c.as_slice-chain-items.ensures) in
    linked_all c.args.config.now c.loop-index.rows c.loop-index.index past c.loop-index.invariant.done c.loop-index.invariant.left
