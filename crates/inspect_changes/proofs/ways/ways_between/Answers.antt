use Rattle.std.proofs.Common.{◌≡◌, ◌↔◌, List, sym, subst, arith}
use Rattle.std.proofs.lemmas.Grind.{common_steps}
use Rattle.inspect_changes.specs.Ways.{IsLetThrough, IsOnOneAtMost, IsOnOneOf, ways_between}
use Rattle.inspect_changes.specs.declared.way.Way.{Way}
use Rattle.inspect_changes.proofs.Exact.{exact, on_one_at_most}
use Rattle.inspect_changes.proofs.ways.ways_between.Goals as goal

pub returns-clause-apart : goal.returns-clause-apart
returns-clause-apart c = λ t h.
    let config = c.args.valid.now.config in
    let e : c.from_vec.result ≡ ways_between config c.args.from.now c.args.to.now = grind (arith, common_steps) in
    subst (λ (ways : List Way). IsOnOneAtMost ways t) (sym e) (on_one_at_most config c.args.from.now c.args.to.now t h)

pub returns-clause-exact : goal.returns-clause-exact
returns-clause-exact c = λ t d passage h.
    let config = c.args.valid.now.config in
    let e : c.from_vec.result ≡ ways_between config c.args.from.now c.args.to.now = grind (arith, common_steps) in
    subst (λ (ways : List Way). IsOnOneOf ways t d passage ↔ IsLetThrough config c.args.from.now c.args.to.now t d passage) (sym e)
    (exact config c.args.from.now c.args.to.now t d passage h)
