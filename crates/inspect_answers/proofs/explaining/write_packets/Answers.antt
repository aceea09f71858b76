use Rattle.std.proofs.Common.{◌+◌, drop, ◌∙◌, arith}
use Rattle.std.proofs.lemmas.Bool.{and_from}
use Rattle.std.proofs.lemmas.Grind.{common_steps}
use Rattle.std.proofs.lemmas.List.Folds.{list_all_more}
use Rattle.ov_io.proofs.PieceLemmas.{on_err, way_breaks, way_goes_on}
use Rattle.inspect_answers.specs.Explained.{has_walk_size, packets_from}
use Rattle.inspect_answers.proofs.explaining.write_packets.Goals as goal

pub returns-in_err-write_packet-clause-front : goal.returns-in_err-write_packet-clause-front
returns-in_err-write_packet-clause-front g c =
    let i = c.loop-index.index in
    let rest = packets_from c.args.form c.args.valid.now (i + 1 + 1) (drop (i + 1) c.args.packets.now) in
    on_err c.from_residual.result _ (way_breaks _ _ _ _ _ _ rest _ c.loop-index.invariant.way (grind (arith, common_steps)) c.in_err-write_packet.ensures.front)

pub loop-index-preserved : goal.loop-index-preserved
loop-index-preserved g c = record {
  way = way_goes_on _ _ _ _ _ _ _ _ _ c.loop-index.invariant.way (grind (arith, common_steps)) c.in_ok-write_packet.ensures.ok;
  kept = c.in_ok-write_packet.ensures.cause ∙ c.loop-index.invariant.kept;
  agents = c.in_ok-write_packet.ensures.kept ∙ c.loop-index.invariant.agents;
  sized = list_all_more (has_walk_size c.args.valid.now) c.args.packets.now c.loop-index.index _ c.loop-index-test.true
      ∙ and_from _ _ c.loop-index.invariant.sized c.in_ok-write_packet.ensures.sized;
}
