-- Ends that are all closed.
use Rattle.std.specs.Prelude.{◌≡◌, ◌<◌, ℕ, zero, suc, List, [], ◌∷◌, length}
use Rattle.std.proofs.Common.{refl, arith}
use Rattle.node_model.specs.Step.{Post, nothing, post}
use Rattle.node_core.specs.Resting.{nothings}

pub all_closed : (posts : List Post) (n : ℕ) → length posts ≡ n → ((i : ℕ) → i < n → post posts i ≡ nothing)
    → posts ≡ nothings n
all_closed [] zero e h = refl
all_closed [] (suc n) e h = absurd (omega arith)
all_closed (p ∷ posts) zero e h = absurd (omega arith)
all_closed (p ∷ posts) (suc n) e h =
    let first : p ≡ nothing = h 0 (omega arith) in
    let rest : posts ≡ nothings n = all_closed posts n (omega arith) (λ i lt. h (suc i) (omega arith)) in
    λ i. first i ∷ rest i
