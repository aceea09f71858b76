use Rattle.std.proofs.Common.{◌≡◌, ℕ, Bor, rules}
use Rattle.std.proofs.lemmas.List.Sorted.{answers_always}
use Rattle.hitless_cells.specs.declared.lines.Interruption.{Interruption}
use Rattle.hitless_cells.proofs.Ordered.{sorted_lines}
use Rattle.hitless_cells.proofs.comparing.by_destination.Goals as goal

pub returns : goal.returns
returns c =
    let key : Interruption → ℕ = λ l. l.to.0 in
    let gives : Bor Interruption × Unit {0} → ℕ → Type 0 = λ a r. r ≡ a.0.now.to.0 in
    sorted_lines key c.args.lines.items c.sort_by_key.new.self.items
    (c.in_ok-sort_by_key.ensures.sorted key (answers_always _ gives _ (λ f a r q k. search rules)))
    (c.in_ok-sort_by_key.ensures.stable key (answers_always _ gives _ (λ f a r q k. search rules)))
