-- The number of a speaker's autonomous system.
use Rattle.std.proofs.Common.{◌≡◌, ◌≢◌, ◌<◌, ◌≤◌, ◌^◌, ◌==◌, ℕ, List, [], ◌∷◌, ◌++◌, length, refl, ap, ◌∙◌, subst, arith, Bool, true, false, cond, Option, Some, None, find, inl, inr}
use Rattle.std.specs.Prelude.{is_some, unwrap_or}
use Rattle.std.specs.List.{AllByRecursion}
use Rattle.std.specs.Option.{option_map}
use Rattle.std.proofs.lemmas.Bool.{eq-eqb, ne_eqb, cases_lt}
use Rattle.std.proofs.lemmas.Grind.{not_there}
use Rattle.std.proofs.Math.Logic.{∥∥₁_map}
use Rattle.byteorder.specs.Endian.{big_number}
use Rattle.byteorder.specs.Numbers.{big_number-reads_back}
use Rattle.bgp_wire.specs.declared.write.OpenOut.{OpenOut}
use Rattle.bgp_wire.specs.Content.{OpenFields}
use Rattle.bgp_wire.specs.Parts.{Part}
use Rattle.bgp_wire.specs.Opens.{IsCapability, capabilities_of, four_octet_number, asn_of, is_wide}
use Rattle.bgp_wire.specs.Spelling.{open_fields}

abbrev number_or : Bool → Part → List Part → Option ℕ
number_or b c cs = option_map (λ (x : Part). big_number 4 x.value) (cond b (Some c) (find (λ x. x.kind == 65) cs))

-- a capability 65 at the front counts, and another is passed over
pub number_first : (c : Part) (cs : List Part) → c.kind ≡ 65 → four_octet_number (c ∷ cs) ≡ Some (big_number 4 c.value)
number_first c cs is = ap (λ (b : Bool). number_or b c cs) (eq-eqb c.kind 65 is)

pub number_later : (c : Part) (cs : List Part) → c.kind ≢ 65 → four_octet_number (c ∷ cs) ≡ four_octet_number cs
number_later c cs other = ap (λ (b : Bool). number_or b c cs) (ne_eqb c.kind 65 other)

number_behind : (before after : List Part) (c : Part) → AllByRecursion (λ b. b.kind ≢ 65) before → c.kind ≡ 65
    → four_octet_number (before ++ c ∷ after) ≡ Some (big_number 4 c.value)
number_behind [] after c none is = number_first c after is
number_behind (b ∷ before) after c none is = number_later b (before ++ c ∷ after) none.0 ∙ number_behind before after c none.1 is

number_none : (cs : List Part) → AllByRecursion (λ c. c.kind ≢ 65) cs → four_octet_number cs ≡ None
number_none [] none = refl
number_none (c ∷ cs) none = number_later c cs none.0 ∙ number_none cs none.1

pub first_counts : (fields : OpenFields) (before after : List Part) (c : Part) → capabilities_of fields ≡ before ++ c ∷ after
    → AllByRecursion (λ b. b.kind ≢ 65) before → c.kind ≡ 65 → (asn_of fields ≡ big_number 4 c.value) × (is_wide fields ≡ true)
first_counts fields before after c are none is =
    let number : four_octet_number (capabilities_of fields) ≡ Some (big_number 4 c.value) = ap four_octet_number are ∙ number_behind before after c none is in
    (ap (λ (o : Option ℕ). unwrap_or o fields.my_as) number, ap (λ (o : Option ℕ). is_some o) number)

pub none_counts : (fields : OpenFields) → AllByRecursion (λ c. c.kind ≢ 65) (capabilities_of fields) → (asn_of fields ≡ fields.my_as) × (is_wide fields ≡ false)
none_counts fields none =
    let number = number_none (capabilities_of fields) none in
    (ap (λ (o : Option ℕ). unwrap_or o fields.my_as) number, ap (λ (o : Option ℕ). is_some o) number)

-- a speaker's own OPEN
pub own_asn : (part : OpenOut) → part.asn < 2 ^ 32 → asn_of (open_fields part) ≡ part.asn
own_asn part small = big_number-reads_back 4 part.asn [] small

-- where capabilities are well formed, the first 65 has four octets
pub has_four : (all cs : List Part) (c : Part) → ∥ AllByRecursion IsCapability all ∥₁ → all ≡ c ∷ cs → c.kind ≡ 65 → 4 ≤ length c.value
has_four all cs c well_formed are is = elim (cases_lt (length c.value) 4) [
  | inr enough ↦ enough
  | inl few ↦ absurd (not_there well_formed (λ each.
      let first = (subst (AllByRecursion IsCapability) are each).0 in
      let four = first (inr is) in
      omega arith))
]

-- and so has each behind the first
pub others_formed : (all cs : List Part) (c : Part) → ∥ AllByRecursion IsCapability all ∥₁ → all ≡ c ∷ cs → ∥ AllByRecursion IsCapability cs ∥₁
others_formed all cs c well_formed are = ∥∥₁_map well_formed (λ each. (subst (AllByRecursion IsCapability) are each).1)
