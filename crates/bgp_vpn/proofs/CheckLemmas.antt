-- The checks on attributes, one after the other.
use Rattle.std.proofs.Common.{◌≡◌, ◌≢◌, ◌<◌, ◌==◌, ℕ, List, [], ◌∷◌, ◌++◌, length, get_or, replicate, refl, ap, sym, ◌∙◌, Option, Some, None, Bool, true, false, not, ◌||◌, subst, arith}
use Rattle.std.proofs.Math.ListN.{set, length-set}
use Rattle.std.proofs.lemmas.List.{append_assoc, append-nil, get_or-replicate, get_or-set_same, get_or-set_other, length-replicate}
use Rattle.std.proofs.lemmas.List.Folds.{list_any-append}
use Rattle.std.proofs.lemmas.Bool.{eqb-true, eqb-false, ne_eqb}
use Rattle.bgp_wire.specs.declared.fault.WireFault.{WireFault}
use Rattle.bgp_wire.specs.Faults.{fault_if, ◌then_check◌, malformed_attributes}
use Rattle.bgp_wire.specs.Attributes.{AttributeFields, AreAttributes, BeginsWithAttribute, IsCut}
use Rattle.bgp_wire.proofs.Attributing.{behind, nothing_behind, cut_behind}
use Rattle.bgp_vpn.specs.declared.reading.Reading.{Reading}
use Rattle.bgp_vpn.specs.Checks.{has_kind, own_fault, attribute_fault, attributes_fault}

-- the types of these attributes are marked, and no others
pub record Marks (marked : List Bool) (others : List AttributeFields) : Type 0 where
  pub size : length marked ≡ 256
  pub each : (k : ℕ) → k < 256 → get_or marked k false ≡ has_kind others k

-- these attributes passed, so that the first fault is one of those that are left
abbrev pub FaultsLeft : Reading → List ℕ → List ℕ → List AttributeFields → Type 0
FaultsLeft reading octets rest others = (all : List AttributeFields) (tail : List ℕ) → AreAttributes octets all tail
    → (left : List AttributeFields) × AreAttributes rest left tail × (attributes_fault reading [] all ≡ attributes_fault reading others left)
    × (all ≡ others ++ left)

pub record Passed (reading : Reading) (octets rest : List ℕ) (others : List AttributeFields) (marked : List Bool) : Type 0 where
  pub marks : Marks marked others
  pub faults : FaultsLeft reading octets rest others

pub passed_none : (reading : Reading) (octets rest : List ℕ) (marked : List Bool) → marked ≡ replicate 256 false → octets ≡ rest → Passed reading octets rest [] marked
passed_none reading octets rest marked is same = record {
  marks = record {
    size = ap length is ∙ length-replicate 256 false;
    each = λ k below. ap (λ (m : List Bool). get_or m k false) is ∙ get_or-replicate 256 k false false below;
  };
  faults = λ all tail are. (all, subst (λ (o : List ℕ). AreAttributes o all tail) same are, refl, refl);
}

or_true : (a : Bool) → (a || true) ≡ true
or_true true = refl
or_true false = refl

or_false : (a : Bool) → (a || false) ≡ a
or_false true = refl
or_false false = refl

has_more : (others : List AttributeFields) (a : AttributeFields) (k : ℕ) (b : Bool) → (a.kind == k) ≡ b → has_kind (others ++ a ∷ []) k ≡ (has_kind others k || b)
has_more others a k b is =
    list_any-append (λ (x : AttributeFields). x.kind == k) others (a ∷ [])
    ∙ ap (λ (last : Bool). has_kind others k || last) (or_false (a.kind == k) ∙ is)

mark_at : (marked : List Bool) (others : List AttributeFields) (a : AttributeFields) (k : ℕ) → a.kind < 256 → k < 256 → Marks marked others
    → (b : Bool) → (a.kind == k) ≡ b → get_or (set marked a.kind true) k false ≡ has_kind (others ++ a ∷ []) k
mark_at marked others a k small below marks true is =
    let same : a.kind ≡ k = eqb-true a.kind k is in
    let there : get_or (set marked a.kind true) a.kind false ≡ true = get_or-set_same marked a.kind true false (omega (arith, marks.size)) in
    ap (λ (n : ℕ). get_or (set marked a.kind true) n false) (sym same) ∙ there ∙ sym (has_more others a k true is ∙ or_true (has_kind others k))
mark_at marked others a k small below marks false is =
    let other : k ≢ a.kind = λ e. eqb-false a.kind k is (sym e) in
    get_or-set_other marked a.kind k true false other ∙ marks.each k below ∙ sym (has_more others a k false is ∙ or_false (has_kind others k))

-- the mark of one more attribute
marks_more : (marked : List Bool) (others : List AttributeFields) (a : AttributeFields) → a.kind < 256 → Marks marked others
    → Marks (set marked a.kind true) (others ++ a ∷ [])
marks_more marked others a small marks = record {
  size = length-set marked a.kind true ∙ marks.size;
  each = λ k below. mark_at marked others a k small below marks (a.kind == k) refl;
}

-- the whole check on attributes and the tail behind them
abbrev pub whole_fault : Reading → List AttributeFields → List ℕ → Option WireFault
whole_fault reading all tail = attributes_fault reading [] all then_check fault_if (not (length tail == 0)) malformed_attributes

some_first : (a b : Option WireFault) (f : WireFault) → a ≡ Some f → (a then_check b) ≡ Some f
some_first (Some g) b f h = h
some_first None b f h = cc

none_first : (a b : Option WireFault) → a ≡ None → (a then_check b) ≡ b
none_first None b h = refl
none_first (Some g) b h = cc

long : (t : List ℕ) → IsCut t → fault_if (not (length t == 0)) malformed_attributes ≡ Some malformed_attributes
long [] h = absurd h
long (x ∷ xs) h =
    ap (λ (b : Bool). fault_if (not b) malformed_attributes) (ne_eqb (length (x ∷ xs)) 0 (λ e. omega arith))

-- a cut attribute ends the checks
pub cut_ends : (reading : Reading) (octets rest : List ℕ) (others : List AttributeFields) (f : WireFault) → FaultsLeft reading octets rest others
    → IsCut rest → f ≡ malformed_attributes → (all : List AttributeFields) (tail : List ℕ) → AreAttributes octets all tail
    → whole_fault reading all tail ≡ Some f
cut_ends reading octets rest others f faults cut is all tail are =
    let now = faults all tail are in
    let none = cut_behind rest tail now.0 now.1 cut in
    let passes : attributes_fault reading [] all ≡ None = now.2 ∙ ap (attributes_fault reading others) none.0 in
    none_first _ _ passes ∙ long tail (subst IsCut (sym none.1) cut) ∙ ap (λ (g : WireFault). Some g) (sym is)

-- so does a fault of an attribute
pub fault_ends : (reading : Reading) (octets rest after : List ℕ) (others : List AttributeFields) (a : AttributeFields) (f : WireFault)
    → FaultsLeft reading octets rest others → BeginsWithAttribute rest a after → attribute_fault reading others a ≡ Some f
    → (all : List AttributeFields) (tail : List ℕ) → AreAttributes octets all tail → whole_fault reading all tail ≡ Some f
fault_ends reading octets rest after others a f faults begins fails all tail are =
    let now = faults all tail are in
    let less = behind rest after tail now.0 a now.1 begins in
    some_first _ _ f (now.2 ∙ ap (attributes_fault reading others) less.is ∙ some_first _ _ f fails)

-- no fault where all have passed and nothing is left
pub all_pass : (reading : Reading) (octets rest : List ℕ) (others : List AttributeFields) → FaultsLeft reading octets rest others → rest ≡ []
    → (all : List AttributeFields) (tail : List ℕ) → AreAttributes octets all tail → whole_fault reading all tail ≡ None
all_pass reading octets rest others faults end all tail are =
    let now = faults all tail are in
    let none = nothing_behind rest tail now.0 now.1 end in
    none_first _ _ (now.2 ∙ ap (attributes_fault reading others) none.0)
    ∙ ap (λ (t : List ℕ). fault_if (not (length t == 0)) malformed_attributes) none.1

-- and these are all
pub all_passed : (reading : Reading) (octets rest : List ℕ) (others : List AttributeFields) → FaultsLeft reading octets rest others → rest ≡ []
    → (all : List AttributeFields) (tail : List ℕ) → AreAttributes octets all tail → others ≡ all
all_passed reading octets rest others faults end all tail are =
    let now = faults all tail are in
    let none = nothing_behind rest tail now.0 now.1 end in
    sym (now.3 ∙ ap (λ (xs : List AttributeFields). others ++ xs) none.0 ∙ append-nil others)

-- the checks on an attribute, by the marks of those before it
pub next_fails : {marked : Bool} (reading : Reading) (others : List AttributeFields) (a : AttributeFields) → marked ≡ has_kind others a.kind
    → attribute_fault reading others a ≡ (fault_if marked malformed_attributes then_check own_fault reading a)
next_fails reading others a is = ap (λ (b : Bool). fault_if b malformed_attributes then_check own_fault reading a) (sym is)

own_fails : (reading : Reading) (others : List AttributeFields) (a : AttributeFields) → has_kind others a.kind ≡ false
    → attribute_fault reading others a ≡ own_fault reading a
own_fails reading others a once =
    ap (λ (b : Bool). fault_if b malformed_attributes then_check own_fault reading a) once

pub passed_more : (reading : Reading) (octets rest after : List ℕ) (others : List AttributeFields) (marked : List Bool) (a : AttributeFields)
    → a.kind < 256 → Passed reading octets rest others marked → BeginsWithAttribute rest a after → has_kind others a.kind ≡ false
    → own_fault reading a ≡ None → (new : List Bool) → new ≡ set marked a.kind true → Passed reading octets after (others ++ a ∷ []) new
passed_more reading octets rest after others marked a small passed begins once passes new is = record {
  marks = subst (λ (m : List Bool). Marks m (others ++ a ∷ [])) (sym is) (marks_more marked others a small passed.marks);
  faults = λ all tail are.
      let now = passed.faults all tail are in
      let less = behind rest after tail now.0 a now.1 begins in (
        less.others,
        less.are,
        now.2 ∙ ap (attributes_fault reading others) less.is
            ∙ none_first _ _ (own_fails reading others a once ∙ passes),
        now.3 ∙ ap (λ (xs : List AttributeFields). others ++ xs) less.is ∙ sym (append_assoc others (a ∷ []) less.others),
      );
}
