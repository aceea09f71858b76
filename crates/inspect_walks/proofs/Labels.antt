-- A label among labels that ascend.
use Rattle.std.proofs.Common.{◌≡◌, ◌<◌, ◌==◌, ℕ, true, false, ltb, List, get_or, arith, ltb-false, ltb-true, ne_eqb}
use Rattle.std.specs.List.{AllPairs}
use Rattle.ov_types.specs.declared.numbers.Label.{Label}
use Rattle.ov_types.specs.declared.rows.Attached.{Attached}

abbrev pub Labelled : Type 0
Labelled = Label × Attached

module _ (n : ℕ) where
  pub label_apart : (e : Labelled) → ltb e.0.0 n ≡ true → e.0.0 == n ≡ false
  label_apart e h =
      let less : e.0.0 < n = ltb-true e.0.0 n h in
      ne_eqb e.0.0 n (λ same. omega (arith, less, same))

  label_past : (d e : Labelled) → d.0.0 < e.0.0 → ltb d.0.0 n ≡ false → e.0.0 == n ≡ false
  label_past d e less h =
      let most = ltb-false d.0.0 n h in
      ne_eqb e.0.0 n (λ same. omega (arith, less, most, same))

  pub labels_past : (xs : List Labelled) → AllPairs (λ (d e : Labelled). d.0.0 < e.0.0) xs → AllPairs (λ (d e : Labelled). ltb d.0.0 n ≡ false → e.0.0 == n ≡ false) xs
  labels_past xs up = λ i j d le lt. label_past (get_or xs i d) (get_or xs j d) (up i j d le lt)
