use Rattle.std.proofs.Common.{◌≡◌, ◌<◌, ◌^◌, ◌/◌, ℕ, inl, inr, arith}
use Rattle.ov_types.specs.Texts.{distinguisher_text}
use Rattle.ov_types.proofs.Told.{say_alike}
use Rattle.ov_types.proofs.laws.distinguishers_are_told_apart.Goals as goal

apart : (m n : ℕ) → m < 2 ^ 64 → n < 2 ^ 64 → distinguisher_text m ≡ distinguisher_text n → m ≡ n
apart m n sm sn e =
    elim (say_alike (m / 2 ^ 48) (n / 2 ^ 48) m n sm sn e) [
      | inl h ↦ omega (arith, h.1.0, h.1.1)
      | inr same ↦ same
    ]

pub returns : goal.returns
returns c = apart
