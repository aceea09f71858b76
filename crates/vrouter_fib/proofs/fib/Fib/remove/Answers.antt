use Rattle.std.proofs.Common.{◌≡◌, ℕ, ap, arith, subst}
use Rattle.std.specs.Prelude.{IsTrue}
use Rattle.ov_types.specs.Prefix.{Block, contains}
use Rattle.vrouter_fib.proofs.fib.Fib.remove.Goals as goal

pub remove-requires-clause-inside : goal.remove-requires-clause-inside
remove-requires-clause-inside c =
    let whole : c.around-span.result.len ≡ 0 = ap (λ (x : Block). x.len) c.around-span.ensures.all in
    (subst (λ (a : ℕ). IsTrue (contains c.around-span.result a)) c.addr.ensures.addr c.around-span.ensures.inside, omega (arith, whole))
