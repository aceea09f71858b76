-- Readings differ in segments alone.
use Rattle.std.proofs.Common.{◌≡◌, ◌==◌, ℕ, List, [], ◌∷◌, ◌++◌, refl, ap, sym, ◌∙◌, subst, Bool, true, false, Option, Some, None, inl, inr}
use Rattle.std.specs.Prelude.{◌↔◌}
use Rattle.std.specs.List.{AllByRecursion}
use Rattle.std.proofs.lemmas.Bool.{ne_eqb, cases_eq}
use Rattle.bgp_wire.specs.declared.fault.WireFault.{WireFault}
use Rattle.bgp_wire.specs.Content.{UpdateFields}
use Rattle.bgp_wire.specs.Faults.{fault_if, ◌then_check◌, malformed_attributes}
use Rattle.bgp_wire.specs.Attributes.{AttributeFields, AreAttributes}
use Rattle.bgp_wire.proofs.Attributing.{one_split}
use Rattle.ov_types.specs.declared.vpn.VpnKey.{VpnKey}
use Rattle.ov_types.specs.declared.vpn.VpnRoute.{VpnRoute}
use Rattle.ov_sync.specs.declared.Delta.{Delta}
use Rattle.bgp_vpn.specs.declared.reading.Reading.{Reading}
use Rattle.bgp_vpn.specs.Pieces.{are_segments}
use Rattle.bgp_vpn.specs.Segments.{ReadsAlike}
use Rattle.bgp_vpn.specs.Checks.{value_fault, fault_in_row, has_kind, attribute_fault, attributes_fault, update_fault}
use Rattle.bgp_vpn.specs.Profile.{row_of}
use Rattle.bgp_vpn.specs.Updates.{Changes, HasUpdateFault}

abbrev reading : Bool → Bool → Reading
reading wide routes_follow = record { wide = wide; routes_follow = routes_follow }

-- the check on a value that is no AS_PATH does not look at how wide numbers are
other_value : (follow : Bool) (kind : ℕ) (value : List ℕ) (b : Bool) → (kind == 2) ≡ b → b ≡ false
    → value_fault (reading true follow) kind value ≡ value_fault (reading false follow) kind value
other_value follow kind value b is not_path =
    let passes : (kind == 2) ≡ false = is ∙ not_path in
    rw passes refl

path_value : (follow : Bool) (kind : ℕ) (value : List ℕ) → are_segments 4 value ≡ are_segments 2 value
    → value_fault (reading true follow) kind value ≡ value_fault (reading false follow) kind value
path_value follow kind value alike = rw alike refl

value_alike : (follow : Bool) (a : AttributeFields) → ReadsAlike a
    → value_fault (reading true follow) a.kind a.value ≡ value_fault (reading false follow) a.kind a.value
value_alike follow a alike = elim (cases_eq a.kind 2) [
  | inl path ↦ path_value follow a.kind a.value (alike path)
  | inr none ↦ other_value follow a.kind a.value (a.kind == 2) refl (ne_eqb a.kind 2 none)
]

row_alike : (follow : Bool) (row : Option ℕ) (a : AttributeFields) → ReadsAlike a
    → fault_in_row (reading true follow) row a ≡ fault_in_row (reading false follow) row a
row_alike follow None a alike = refl
row_alike follow (Some row) a alike = rw (value_alike follow a alike) refl

pub attribute_alike : (follow : Bool) (others : List AttributeFields) (a : AttributeFields) → ReadsAlike a
    → attribute_fault (reading true follow) others a ≡ attribute_fault (reading false follow) others a
attribute_alike follow others a alike =
    ap (λ (o : Option WireFault). fault_if (has_kind others a.kind) malformed_attributes then_check o) (row_alike follow (row_of a.kind) a alike)

attributes_alike : (follow : Bool) (others attributes : List AttributeFields) → AllByRecursion ReadsAlike attributes
    → attributes_fault (reading true follow) others attributes ≡ attributes_fault (reading false follow) others attributes
attributes_alike follow others [] alike = refl
attributes_alike follow others (a ∷ attributes) alike =
    ap (λ (o : Option WireFault). o then_check attributes_fault (reading true follow) (others ++ a ∷ []) attributes) (attribute_alike follow others a alike.0)
    ∙ ap (λ (o : Option WireFault). attribute_fault (reading false follow) others a then_check o) (attributes_alike follow (others ++ a ∷ []) attributes alike.1)

pub first_alike : (parts : UpdateFields) (attributes : List AttributeFields) (tail : List ℕ) → AllByRecursion ReadsAlike attributes
    → update_fault true parts attributes tail ≡ update_fault false parts attributes tail
first_alike parts attributes tail alike = rw (attributes_alike _ [] attributes alike) refl

abbrev Deltas : Type 0
Deltas = List (Delta VpnKey VpnRoute)

-- an UPDATE makes the changes in each reading whose first check is that of this one
changes_by : (w x : Bool) (parts : UpdateFields) (deltas : Deltas) (c : Changes w parts deltas)
    → update_fault w parts c.attributes [] ≡ update_fault x parts c.attributes [] → Changes x parts deltas
changes_by w x parts deltas c same = record {
  attributes = c.attributes;
  withdrawn = c.withdrawn;
  reached = c.reached;
  are = c.are;
  passes = sym same ∙ c.passes;
  withdrawn_are = c.withdrawn_are;
  reached_are = c.reached_are;
  made = c.made;
}

abbrev SameFirst : UpdateFields → List AttributeFields → List ℕ → Type 0
SameFirst parts attributes tail = update_fault true parts attributes tail ≡ update_fault false parts attributes tail

same_first : (parts : UpdateFields) (attributes others : List AttributeFields) (tail rest : List ℕ)
    → AreAttributes parts.attributes attributes tail → AllByRecursion ReadsAlike attributes → AreAttributes parts.attributes others rest
    → SameFirst parts others rest
same_first parts attributes others tail rest are alike other =
    let same = one_split parts.attributes tail rest attributes others are other in
    first_alike parts others rest (subst (AllByRecursion ReadsAlike) same.0 alike)

pub changes_alike : (parts : UpdateFields) (attributes : List AttributeFields) (tail : List ℕ) (deltas : Deltas)
    → AreAttributes parts.attributes attributes tail → AllByRecursion ReadsAlike attributes → Changes true parts deltas ↔ Changes false parts deltas
changes_alike parts attributes tail deltas are alike = (
  λ c. changes_by true false parts deltas c (same_first parts attributes c.attributes tail [] are alike c.are),
  λ c. changes_by false true parts deltas c (sym (same_first parts attributes c.attributes tail [] are alike c.are)),
)

pub fault_alike : (parts : UpdateFields) (attributes : List AttributeFields) (tail : List ℕ) (f : WireFault)
    → AreAttributes parts.attributes attributes tail → AllByRecursion ReadsAlike attributes → HasUpdateFault true parts f ↔ HasUpdateFault false parts f
fault_alike parts attributes tail f are alike = (
  λ h. record { attributes = h.attributes; tail = h.tail; are = h.are; fails = sym (same_first parts attributes h.attributes tail h.tail are alike h.are) ∙ h.fails },
  λ h. record { attributes = h.attributes; tail = h.tail; are = h.are; fails = same_first parts attributes h.attributes tail h.tail are alike h.are ∙ h.fails },
)
