use Rattle.std.proofs.Common.{arith, ◌≡◌, ◌-◌, ◌+◌, suc, ℕ, length, false, true, replicate, subst, List, Bool, refl, rules}
use Rattle.std.specs.Cmp.{booleans_Decides}
use Rattle.std.proofs.lemmas.Slice.Eq.{slice_eq-Decides}
use Rattle.std.proofs.lemmas.List.{length-set}
use Rattle.chain_expand.specs.Links.{IsReached, IsRound}
use Rattle.chain_expand.proofs.Reached.{reached_first, reached_on, reached_all}
use Rattle.chain_expand.proofs.loops.reached.Goals as goal

pub loop-init : goal.loop-init
loop-init c = record {
  end = c.len-end.ensures;
  size = length-set (replicate 128 false) c.args.target true;
  reached = let few = c.requires.few in let within = c.requires.within in reached_first c.args.config.now c.args.target (omega arith);
}

pub loop-preserved : goal.loop-preserved
loop-preserved c =
    let at = c.loop.invariant in
    let from : suc (c.loop.counter - 1) ≡ c.loop.counter + 1 - 1 = omega arith in
    let config = c.args.config.now in
    let next = c.round-next.result in
    record {
      end = at.end;
      size = search rules;
      reached = subst (λ (n : ℕ). IsReached config c.args.target n next) from (reached_on (c.loop.counter - 1) config c.args.rows.now c.loop.marks next c.args.target c.requires.few at.size c.requires.linked at.reached c.round-next.ensures);
    }

pub returns-then-eq : goal.returns-then-eq
returns-then-eq c =
    let at = c.loop.invariant in
    let config = c.args.config.now in
    let rows = c.args.rows.now in
    let marks = c.loop.marks in
    let still = (slice_eq-Decides booleans_Decides c.round-next.result marks true c.if-eq.ensures).0 refl in
    let round : IsRound c.args.target rows marks marks = subst (λ (next : List Bool). IsRound c.args.target rows marks next) still c.round-next.ensures in
    reached_all (length config.chains - 1) (c.loop.counter - 1) config rows marks c.args.target (omega (arith, at.end)) c.requires.few at.size c.requires.linked at.reached round

pub returns : goal.returns
returns c =
    let config = c.args.config.now in
    let all : c.loop.counter - 1 ≡ length config.chains - 1 = omega (arith, c.loop.invariant.end) in
    subst (λ (n : ℕ). IsReached config c.args.target n c.loop.marks) all c.loop.invariant.reached
