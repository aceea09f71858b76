-- Parameters: good or at fault, never both, and of one fault.
use Rattle.std.proofs.Common.{◌≡◌, ◌≢◌, ℕ, suc, List, [], length, refl, ap, sym, ◌∙◌, arith, subst, inl, inr, ◌⊎◌}
use Rattle.std.proofs.lemmas.Bool.{cases_eq}
use Rattle.bgp_wire.specs.declared.fault.WireFault.{WireFault}
use Rattle.bgp_wire.specs.Faults.{unspecific_open, unsupported_parameter}
use Rattle.bgp_wire.specs.Parts.{Part, IsOverrun, BeginsWithPart, PartsThen}
use Rattle.bgp_wire.specs.Opens.{HasFourOctets, IsCapability, IsMalformedCapability, AreCapabilities, AreBrokenCapabilities, IsParameter, AreParameters, IsFaultyParameter, overruns, has_another_type, has_broken_capabilities, HasFaultyParameter}
use Rattle.bgp_wire.proofs.Splitting.{HasNoPart, same_part, same_rest, nil_has_none, overrun_has_none, part_or_overrun, parts_or_end}

-- the part at the front is one
same_first : (P Q : Part → Type 0) (rest : List ℕ) (a : BeginsWithPart P rest) (b : BeginsWithPart Q rest) → a.first ≡ b.first
same_first P Q rest a b = (same_part a.first b.first a.after b.after (sym a.spelled ∙ b.spelled)).0

abbrev BreaksCapabilities : List ℕ → Type 0
BreaksCapabilities rest = IsOverrun rest ⊎ BeginsWithPart IsMalformedCapability rest

breaks_has_none : (rest : List ℕ) → BreaksCapabilities rest → HasNoPart IsCapability rest
breaks_has_none rest (inl over) begins = overrun_has_none IsCapability rest over begins
breaks_has_none rest (inr malformed) begins =
    let same = same_first IsMalformedCapability IsCapability rest malformed begins in
    let good : IsCapability malformed.first = subst IsCapability (sym same) begins.holds in
    malformed.holds.1 (good malformed.holds.0)

-- nothing is left where nothing breaks
no_break : (rest : List ℕ) → rest ≡ [] → BreaksCapabilities rest → ⊥
no_break rest none (inl over) = let P : List ℕ → Type 0 = IsOverrun in subst P none over
no_break rest none (inr malformed) = nil_has_none IsMalformedCapability rest none malformed

pub never_both_capabilities : (octets : List ℕ) → AreCapabilities octets → AreBrokenCapabilities octets → ⊥
never_both_capabilities octets whole broken =
    let same = same_rest IsCapability (λ rest. rest ≡ []) BreaksCapabilities octets (nil_has_none IsCapability) breaks_has_none whole broken in
    no_break broken.rest (sym same ∙ whole.ends) broken.ends

faulty_has_none : (f : WireFault) (rest : List ℕ) → IsFaultyParameter rest f → HasNoPart IsParameter rest
faulty_has_none f rest (overruns over e) begins = overrun_has_none IsParameter rest over begins
faulty_has_none f rest (has_another_type other e) begins =
    let same = same_first (λ p. p.kind ≢ 2) IsParameter rest other begins in
    other.holds (ap (λ (p : Part). p.kind) same ∙ begins.holds.0)
faulty_has_none f rest (has_broken_capabilities broken e) begins =
    let same = same_first (λ p. (p.kind ≡ 2) × AreBrokenCapabilities p.value) IsParameter rest broken begins in
    let good : AreCapabilities broken.first.value = subst (λ (p : Part). AreCapabilities p.value) (sym same) begins.holds.1 in
    never_both_capabilities broken.first.value good broken.holds.1

no_fault_left : (f : WireFault) (rest : List ℕ) → rest ≡ [] → IsFaultyParameter rest f → ⊥
no_fault_left f rest none (overruns over e) = let P : List ℕ → Type 0 = IsOverrun in subst P none over
no_fault_left f rest none (has_another_type other e) = nil_has_none (λ p. p.kind ≢ 2) rest none other
no_fault_left f rest none (has_broken_capabilities broken e) = nil_has_none (λ p. (p.kind ≡ 2) × AreBrokenCapabilities p.value) rest none broken

pub never_both_parameters : (octets : List ℕ) (f : WireFault) → AreParameters octets → HasFaultyParameter octets f → ⊥
never_both_parameters octets f whole faulty =
    let same = same_rest IsParameter (λ rest. rest ≡ []) (λ rest. IsFaultyParameter rest f) octets (nil_has_none IsParameter) (faulty_has_none f) whole faulty in
    no_fault_left f faulty.rest (sym same ∙ whole.ends) faulty.ends

same_fault : (f g : WireFault) (rest : List ℕ) → IsFaultyParameter rest f → IsFaultyParameter rest g → f ≡ g
same_fault f g rest (overruns a e) (overruns b d) = e ∙ sym d
same_fault f g rest (overruns a e) (has_another_type b d) = absurd (overrun_has_none (λ p. p.kind ≢ 2) rest a b)
same_fault f g rest (overruns a e) (has_broken_capabilities b d) = e ∙ sym d
same_fault f g rest (has_another_type a e) (overruns b d) = absurd (overrun_has_none (λ p. p.kind ≢ 2) rest b a)
same_fault f g rest (has_another_type a e) (has_another_type b d) = e ∙ sym d
same_fault f g rest (has_another_type a e) (has_broken_capabilities b d) =
    let same = same_first (λ p. p.kind ≢ 2) (λ p. (p.kind ≡ 2) × AreBrokenCapabilities p.value) rest a b in
    absurd (a.holds (ap (λ (p : Part). p.kind) same ∙ b.holds.0))
same_fault f g rest (has_broken_capabilities a e) (overruns b d) = e ∙ sym d
same_fault f g rest (has_broken_capabilities a e) (has_another_type b d) =
    let same = same_first (λ p. p.kind ≢ 2) (λ p. (p.kind ≡ 2) × AreBrokenCapabilities p.value) rest b a in
    absurd (b.holds (ap (λ (p : Part). p.kind) same ∙ a.holds.0))
same_fault f g rest (has_broken_capabilities a e) (has_broken_capabilities b d) = e ∙ sym d

pub one_faulty_parameter : (octets : List ℕ) (f g : WireFault) → HasFaultyParameter octets f → HasFaultyParameter octets g → f ≡ g
one_faulty_parameter octets f g a b =
    let same = same_rest IsParameter (λ rest. IsFaultyParameter rest f) (λ rest. IsFaultyParameter rest g) octets (faulty_has_none f) (faulty_has_none g) a b in
    same_fault f g b.rest (subst (λ (r : List ℕ). IsFaultyParameter r f) same a.ends) b.ends

neither : (n : ℕ) → n ≢ 1 → n ≢ 65 → (n ≡ 1) ⊎ (n ≡ 65) → ⊥
neither n a b (inl e) = a e
neither n a b (inr e) = b e

four_or_not : (c : Part) → HasFourOctets c ⊎ (HasFourOctets c → ⊥)
four_or_not c = elim (cases_eq c.kind 1) [
  | inl one ↦ inl (inl one)
  | inr other ↦ elim (cases_eq c.kind 65) [
    | inl number ↦ inl (inr number)
    | inr third ↦ inr (neither c.kind other third)
  ]
]

capability_or_break : (rest : List ℕ) → rest ≢ [] → BeginsWithPart IsCapability rest ⊎ BreaksCapabilities rest
capability_or_break rest some = elim (part_or_overrun rest some) [
  | inr over ↦ inr (inl over)
  | inl begins ↦ elim (four_or_not begins.first) [
    | inr other ↦ inl (record { first = begins.first; after = begins.after; spelled = begins.spelled; holds = λ e. absurd (other e) })
    | inl one ↦ elim (cases_eq (length begins.first.value) 4) [
      | inl four ↦ inl (record { first = begins.first; after = begins.after; spelled = begins.spelled; holds = λ e. four })
      | inr other ↦ inr (inr (record { first = begins.first; after = begins.after; spelled = begins.spelled; holds = (one, other) }))
    ]
  ]
]

capabilities_or_broken : (octets : List ℕ) → AreCapabilities octets ⊎ AreBrokenCapabilities octets
capabilities_or_broken octets = parts_or_end IsCapability BreaksCapabilities capability_or_break (suc (length octets)) octets (omega arith)

abbrev HasSomeFault : List ℕ → Type 0
HasSomeFault rest = (f : WireFault) × IsFaultyParameter rest f

parameter_or_fault : (rest : List ℕ) → rest ≢ [] → BeginsWithPart IsParameter rest ⊎ HasSomeFault rest
parameter_or_fault rest some = elim (part_or_overrun rest some) [
  | inr over ↦ inr (unspecific_open, overruns over refl)
  | inl begins ↦ elim (cases_eq begins.first.kind 2) [
    | inr other ↦ inr (unsupported_parameter, has_another_type (record { first = begins.first; after = begins.after; spelled = begins.spelled; holds = other }) refl)
    | inl two ↦ elim (capabilities_or_broken begins.first.value) [
      | inl whole ↦ inl (record { first = begins.first; after = begins.after; spelled = begins.spelled; holds = (two, whole) })
      | inr broken ↦ inr (unspecific_open, has_broken_capabilities (record { first = begins.first; after = begins.after; spelled = begins.spelled; holds = (two, broken) }) refl)
    ]
  ]
]

named_fault : (octets : List ℕ) → AreParameters octets ⊎ PartsThen IsParameter HasSomeFault octets → AreParameters octets ⊎ ((f : WireFault) × HasFaultyParameter octets f)
named_fault octets (inl whole) = inl whole
named_fault octets (inr faulty) = inr (faulty.ends.0, record { parts = faulty.parts; each = faulty.each; rest = faulty.rest; spelled = faulty.spelled; ends = faulty.ends.1 })

pub parameters_or_fault : (octets : List ℕ) → AreParameters octets ⊎ ((f : WireFault) × HasFaultyParameter octets f)
parameters_or_fault octets = named_fault octets (parts_or_end IsParameter HasSomeFault parameter_or_fault (suc (length octets)) octets (omega arith))
