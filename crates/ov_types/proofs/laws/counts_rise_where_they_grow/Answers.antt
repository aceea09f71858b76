use Rattle.std.proofs.Common.{◌≡◌, ◌⊎◌, ℕ, ◌-◌, ◌^◌, ◌<◌, inl, inr, arith}
use Rattle.std.proofs.lemmas.Bool.{cases_lt}
use Rattle.ov_types.specs.Counts.{Rose}
use Rattle.ov_types.proofs.laws.counts_rise_where_they_grow.Goals as goal

grew : (before now : ℕ) → now < 2 ^ 64 → Rose before now → (before < now) ⊎ (now ≡ 2 ^ 64 - 1)
grew before now fits rose =
    elim (cases_lt before now) [
      | inl more ↦ inl more
      | inr less ↦ inr (omega (arith, rose))
    ]

rises : (before now : ℕ) → before < 2 ^ 64 → (before < now) ⊎ (now ≡ 2 ^ 64 - 1) → Rose before now
rises before now fits (inl more) = omega arith
rises before now fits (inr last) = omega arith

pub returns : goal.returns
returns c = λ before now small fits. (grew before now fits, rises before now small)
