-- What is left of octets, once some of them were taken from the first on, is their end.
use Rattle.std.proofs.Common.{◌≡◌, ◌≤◌, ◌+◌, ◌-◌, ℕ, List, [], ◌∷◌, length, drop, refl, sym, ◌∙◌, ap, arith}
use Rattle.std.proofs.lemmas.List.{drop-drop, length-drop}

pub record IsEnd (octets rest : List ℕ) : Type 0 where
  pub skipped : ℕ
  pub within : skipped ≤ length octets
  pub is : rest ≡ drop skipped octets

-- nothing is left behind all octets
pub all_dropped : (octets : List ℕ) → drop (length octets) octets ≡ []
all_dropped [] = refl
all_dropped (x ∷ xs) = all_dropped xs

pub nothing_end : (octets : List ℕ) → IsEnd octets []
nothing_end octets = record { skipped = length octets; within = omega arith; is = sym (all_dropped octets) }

pub end_on : (octets rest : List ℕ) (n : ℕ) → IsEnd octets rest → n ≤ length rest → IsEnd octets (drop n rest)
end_on octets rest n e few =
    let within = e.within in
    let size = ap length e.is in
    record {
      skipped = e.skipped + n;
      within = omega (arith, within, few, size, length-drop e.skipped octets);
      is = ap (drop n) e.is ∙ drop-drop n e.skipped octets;
    }

pub end_is : (octets rest : List ℕ) → IsEnd octets rest → drop (length octets - length rest) octets ≡ rest
end_is octets rest e =
    let size = ap length e.is in
    let within = e.within in
    let same : length octets - length rest ≡ e.skipped = omega (arith, size, within, length-drop e.skipped octets) in
    ap (λ (n : ℕ). drop n octets) same ∙ sym e.is
