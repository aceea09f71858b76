use Rattle.std.specs.Prelude.{nat_lt}
use Rattle.std.specs.List.{filter}
use Rattle.std.proofs.Common.{◌∙◌, ◌++◌, ◌∷◌, []}
use Rattle.std.proofs.lemmas.List.{append_assoc}
use Rattle.control_node.proofs.going.with_number.Goals as goal

pub returns : goal.returns
returns c =
    let n = c.args.number in
    c.in_ok-extend_from_slice.ensures.items
    ∙ (λ i. c.in_ok-push.ensures.items i ++ c.deref.ensures.value i)
    ∙ (λ i. (c.in_ok-all.ensures i ++ n ∷ []) ++ c.in_ok-rest.ensures i)
    ∙ append_assoc (filter (λ m. nat_lt m n) c.args.numbers.now) (n ∷ []) (filter (λ m. nat_lt n m) c.args.numbers.now)
