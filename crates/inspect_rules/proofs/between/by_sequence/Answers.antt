use Rattle.std.proofs.Common.{◌≡◌, ℕ, Bor, rules}
use Rattle.std.proofs.lemmas.List.Sorted.{answers_always}
use Rattle.config_types.specs.declared.config.Policy.{Policy}
use Rattle.policy_regions.proofs.Orders.{sorted_by_sequence}
use Rattle.inspect_rules.proofs.between.by_sequence.Goals as goal

pub returns : goal.returns
returns c =
    let key : Bor Policy → ℕ = λ p. p.now.sequence in
    let gives : Bor (Bor Policy) × Unit {0} → ℕ → Type 0 = λ a r. r ≡ a.0.now.now.sequence in
    sorted_by_sequence c.args.policies.items c.sort_by_key.new.self.items
    (c.in_ok-sort_by_key.ensures.sorted key (answers_always _ gives _ (λ f a r q k. search rules)))
    (c.in_ok-sort_by_key.ensures.stable key (answers_always _ gives _ (λ f a r q k. search rules)))
