use Rattle.std.proofs.Common.{◌≤◌, ◌++◌, ◌∙◌, List, None, ap, arith, subst, sym}
use Rattle.ov_types.specs.Prefix.{Block}
use Rattle.vrouter_fib.specs.Trie.{IsDeep, own, routes_at}
use Rattle.vrouter_fib.specs.declared.trie.Node.{Node}
use Rattle.vrouter_fib.specs.declared.trie.Trie.{Trie}
use Rattle.vrouter_fib.proofs.Tries.{Route, listed_alone}
use Rattle.vrouter_fib.proofs.trie.Trie.+list.Goals as goal

pub returns-else-len-lt32 : goal.returns-else-len-lt32
returns-else-len-lt32 t c =
    let b : Block = c.args.span in
    let before : List Route = c.args.routes.now.items in
    let n = c.in-Node.node.value in
    let deep = subst (λ (x : Trie). IsDeep x b.len) c.in-Node.is c.requires.deep in
    let ge : 32 ≤ b.len = omega (arith, c.if-len-lt32.false, c.len.ensures.len) in
    c.in_ok-list_own-in-Node.ensures
    ∙ ap (λ (x : Node). before ++ own b x.entry) c.deref.ensures
    ∙ ap (λ (xs : List Route). before ++ xs) (listed_alone b n.entry None n.lower n.upper 0 deep ge)
    ∙ ap (λ (x : Trie). before ++ routes_at x b) (sym c.in-Node.is)
