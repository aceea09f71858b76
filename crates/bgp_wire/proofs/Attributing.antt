-- Octets are attributes and a tail, in one way.
use Rattle.std.proofs.Common.{◌≡◌, ◌≢◌, ◌<◌, ◌+◌, ◌^◌, ◌%◌, ℕ, zero, suc, List, [], ◌∷◌, ◌++◌, length, take, drop, refl, ap, sym, ◌∙◌, arith, subst, inl, inr, ◌⊎◌, Bool, true, false, cond, None, Result, Ok, Err}
use Rattle.std.specs.List.{flat_map}
use Rattle.std.specs.Iterator.{YieldsThen}
use Rattle.std.proofs.lemmas.List.{append_assoc, length-append, length-take-le, take-append-drop, drop_at}
use Rattle.std.proofs.lemmas.Bool.{cases_lt}
use Rattle.byteorder.specs.Endian.{big_bytes, big_number}
use Rattle.byteorder.specs.Numbers.{big_number-reads_back, length-bytes_high_first}
use Rattle.bgp_wire.specs.declared.fault.WireFault.{WireFault}
use Rattle.bgp_wire.specs.declared.attribute.Attribute.{Attribute}
use Rattle.bgp_wire.specs.Attributes.{AttributeFields, fields_of, is_extended, length_size, sized_value, attribute_octets, FitsItsLength, IsShort, IsCut, BeginsWithAttribute, AreAttributes, NextAttribute, SaysAll}
use Rattle.bgp_wire.specs.Messages.{AreOctets}
use Rattle.bgp_wire.proofs.Octets.{AreOctets-drop, number_below_two}
use Rattle.bgp_wire.proofs.Splitting.{same_front}
use Rattle.bgp_wire.proofs.UpdateBodies.{sized}

-- the length before a value is read back
length_back : (s : ℕ) (v x : List ℕ) → length v < 256 ^ s → big_number s (sized_value s v ++ x) ≡ length v
length_back s v x fits =
    ap (big_number s) (append_assoc (big_bytes s (length v)) v x) ∙ big_number-reads_back s (length v) (v ++ x) fits

length_sized : (s : ℕ) (v x : List ℕ) → length (sized_value s v ++ x) ≡ s + length v + length x
length_sized s v x =
    omega (arith, length-append (sized_value s v) x, length-append (big_bytes s (length v)) v, length-bytes_high_first s (length v))

-- a value behind its length ends in one place
same_sized : (s : ℕ) (v w x y : List ℕ) → length v < 256 ^ s → length w < 256 ^ s
    → sized_value s v ++ x ≡ sized_value s w ++ y → (v ≡ w) × (x ≡ y)
same_sized s v w x y hv hw h =
    let lengths : length v ≡ length w = sym (length_back s v x hv) ∙ ap (big_number s) h ∙ length_back s w y hw in
    let flat : big_bytes s (length v) ++ (v ++ x) ≡ big_bytes s (length w) ++ (w ++ y) =
    sym (append_assoc (big_bytes s (length v)) v x) ∙ h ∙ append_assoc (big_bytes s (length w)) w y in
    let sizes : length (big_bytes s (length v)) ≡ length (big_bytes s (length w)) = ap (λ (n : ℕ). length (big_bytes s n)) lengths in
    same_front v w x y lengths (same_front (big_bytes s (length v)) (big_bytes s (length w)) (v ++ x) (w ++ y) sizes flat).1

abbrev attribute : ℕ → ℕ → List ℕ → AttributeFields
attribute flags kind value = record { flags = flags; kind = kind; value = value }

-- an attribute says where it ends
pub same_attribute : (a b : AttributeFields) (x y : List ℕ) → FitsItsLength a → FitsItsLength b
    → attribute_octets a ++ x ≡ attribute_octets b ++ y → (a ≡ b) × (x ≡ y)
same_attribute a b x y ha hb h =
    let flags : a.flags ≡ b.flags = cc in
    let kinds : a.kind ≡ b.kind = cc in
    let tails : sized_value (length_size a.flags) a.value ++ x ≡ sized_value (length_size b.flags) b.value ++ y = cc in
    let sizes : length_size a.flags ≡ length_size b.flags = ap length_size flags in
    let fits : length a.value < 256 ^ length_size b.flags = subst (λ (n : ℕ). length a.value < 256 ^ n) sizes ha in
    let same : sized_value (length_size b.flags) a.value ++ x ≡ sized_value (length_size b.flags) b.value ++ y =
    ap (λ (n : ℕ). sized_value n a.value ++ x) (sym sizes) ∙ tails in
    let values = same_sized (length_size b.flags) a.value b.value x y fits hb same in
    (ap (λ (n : ℕ). attribute n a.kind a.value) flags ∙ ap (λ (n : ℕ). attribute b.flags n a.value) kinds ∙ ap (attribute b.flags b.kind) values.0, values.1)

-- what begins with an attribute is not cut
pub never_cut : (octets after : List ℕ) (a : AttributeFields) → BeginsWithAttribute octets a after → IsCut octets → ⊥
never_cut octets after a begins cut =
    let short : IsShort (length_size a.flags) (sized_value (length_size a.flags) a.value ++ after) = subst IsCut begins.spelled cut in
    let number = length_back (length_size a.flags) a.value after begins.fits in
    let len = length_sized (length_size a.flags) a.value after in
    omega arith

-- one attribute less
pub record Behind (after : List ℕ) (attributes : List AttributeFields) (tail : List ℕ) (a : AttributeFields) : Type 0 where
  pub others : List AttributeFields
  pub is : attributes ≡ a ∷ others
  pub are : AreAttributes after others tail

pub behind : (octets after tail : List ℕ) (attributes : List AttributeFields) (a : AttributeFields)
    → AreAttributes octets attributes tail → BeginsWithAttribute octets a after → Behind after attributes tail a
behind octets after tail [] a are begins = elim are.ends [
  | inl none ↦ let e : [] ≡ attribute_octets a ++ after = sym none ∙ sym are.spelled ∙ begins.spelled in absurd cc
  | inr cut ↦ absurd (never_cut octets after a begins (subst IsCut (sym are.spelled) cut))
]
behind octets after tail (b ∷ bs) a are begins =
    let flat : attribute_octets b ++ (flat_map attribute_octets bs ++ tail) ≡ attribute_octets a ++ after =
    sym (append_assoc (attribute_octets b) (flat_map attribute_octets bs) tail) ∙ sym are.spelled ∙ begins.spelled in
    let same = same_attribute b a (flat_map attribute_octets bs ++ tail) after are.fit.0 begins.fits flat in
    record { others = bs; is = ap (λ (c : AttributeFields). c ∷ bs) same.0; are = record { spelled = sym same.1; fit = are.fit.1; ends = are.ends } }

-- no octets are no attributes
pub nothing_behind : (octets tail : List ℕ) (attributes : List AttributeFields) → AreAttributes octets attributes tail → octets ≡ []
    → (attributes ≡ []) × (tail ≡ [])
nothing_behind octets tail [] are none = (refl, sym are.spelled ∙ none)
nothing_behind octets tail (b ∷ bs) are none = let e = sym none ∙ are.spelled in absurd cc

-- a cut attribute is the tail
pub cut_behind : (octets tail : List ℕ) (attributes : List AttributeFields) → AreAttributes octets attributes tail → IsCut octets
    → (attributes ≡ []) × (tail ≡ octets)
cut_behind octets tail [] are cut = (refl, sym are.spelled)
cut_behind octets tail (b ∷ bs) are cut =
    absurd (never_cut octets (flat_map attribute_octets bs ++ tail) b (record {
      spelled = are.spelled ∙ append_assoc (attribute_octets b) (flat_map attribute_octets bs) tail;
      fits = are.fit.0;
    }) cut)

-- one attribute more
pub before : (octets after tail : List ℕ) (attributes : List AttributeFields) (a : AttributeFields)
    → BeginsWithAttribute octets a after → AreAttributes after attributes tail → AreAttributes octets (a ∷ attributes) tail
before octets after tail attributes a begins are = record {
  spelled =
      begins.spelled ∙ ap (λ (r : List ℕ). attribute_octets a ++ r) are.spelled
      ∙ sym (append_assoc (attribute_octets a) (flat_map attribute_octets attributes) tail);
  fit = (begins.fits, are.fit);
  ends = are.ends;
}

-- octets are attributes and a tail in one way
pub one_split : (octets s t : List ℕ) (xs bs : List AttributeFields) → AreAttributes octets xs s → AreAttributes octets bs t → (xs ≡ bs) × (s ≡ t)
one_split octets s t [] bs x y = elim x.ends [
  | inl none ↦ let e = nothing_behind octets t bs y (x.spelled ∙ none) in (sym e.0, none ∙ sym e.1)
  | inr cut ↦ let e = cut_behind octets t bs y (subst IsCut (sym x.spelled) cut) in (sym e.0, sym x.spelled ∙ sym e.1)
]
one_split octets s t (a ∷ xs) bs x y =
    let others = flat_map attribute_octets xs ++ s in
    let begins : BeginsWithAttribute octets a others = record { spelled = x.spelled ∙ append_assoc (attribute_octets a) (flat_map attribute_octets xs) s; fits = x.fit.0 } in
    let left : AreAttributes others xs s = record { spelled = refl; fit = x.fit.1; ends = x.ends } in
    let right = behind octets others t bs a y begins in
    let same = one_split others s t xs right.others left right.are in
    (ap (λ (cs : List AttributeFields). a ∷ cs) same.0 ∙ sym right.is, same.1)

-- a value behind its length, or too few octets
abbrev HoldsSized : ℕ → List ℕ → Type 0
HoldsSized s octets = (v : List ℕ) × (x : List ℕ) × (octets ≡ sized_value s v ++ x) × (length v < 256 ^ s)

one_octet : (octets : List ℕ) → AreOctets octets → HoldsSized 1 octets ⊎ IsShort 1 octets
one_octet [] are = inr (omega arith)
one_octet (n ∷ octets) are = elim (cases_lt (length octets) n) [
  | inl few ↦ inr (omega arith)
  | inr enough ↦
      let small : n < 256 = are 0 in
      let len : length (take n octets) ≡ n = length-take-le n octets enough in
      let digit : n ≡ length (take n octets) % 256 = omega arith in
      inl (take n octets, drop n octets, ap (λ (m : ℕ). m ∷ octets) digit ∙ ap (λ (r : List ℕ). (length (take n octets) % 256) ∷ r) (sym (take-append-drop n octets)), omega arith)
]

two_octets : (octets : List ℕ) → AreOctets octets → HoldsSized 2 octets ⊎ IsShort 2 octets
two_octets octets are = elim (cases_lt (length octets) (2 + big_number 2 octets)) [
  | inl few ↦ inr few
  | inr enough ↦
      let whole = sized octets are enough in
      let n = big_number 2 octets in
      let small = number_below_two octets are in
      let len = whole.0 in
      inl (take n (drop 2 octets), drop n (drop 2 octets), whole.1, omega arith)
]

some_octets : (long : Bool) (octets : List ℕ) → AreOctets octets → HoldsSized (cond long 2 1) octets ⊎ IsShort (cond long 2 1) octets
some_octets true octets are = two_octets octets are
some_octets false octets are = one_octet octets are

-- octets begin with an attribute, or with one that is cut
front_or_cut : (octets : List ℕ) → AreOctets octets → octets ≢ [] → ((a : AttributeFields) × (after : List ℕ) × BeginsWithAttribute octets a after) ⊎ IsCut octets
front_or_cut [] are some = absurd (some refl)
front_or_cut (flags ∷ []) are some = inr tt
front_or_cut (flags ∷ kind ∷ rest) are some = elim (some_octets (is_extended flags) rest (λ k. are (suc (suc k)))) [
  | inl held ↦ inl (attribute flags kind held.0, held.1, record { spelled = ap (λ (r : List ℕ). flags ∷ kind ∷ r) held.2; fits = held.3 })
  | inr short ↦ inr short
]

after_is : (a : AttributeFields) (after octets : List ℕ) → BeginsWithAttribute octets a after → after ≡ drop (length (attribute_octets a)) octets
after_is a after octets begins = sym (ap (drop (length (attribute_octets a))) begins.spelled ∙ drop_at (attribute_octets a) after (length (attribute_octets a)) refl)

abbrev pub SomeAttributes : List ℕ → Type 0
SomeAttributes octets = (attributes : List AttributeFields) × (tail : List ℕ) × AreAttributes octets attributes tail

split_below : (most : ℕ) (octets : List ℕ) → length octets < most → AreOctets octets → SomeAttributes octets
split_below zero octets few are = absurd (omega arith)
split_below (suc most) [] few are = ([], [], record { spelled = refl; fit = tt; ends = inl refl })
split_below (suc most) (x ∷ xs) few are = elim (front_or_cut (x ∷ xs) are (λ e. cc)) [
  | inr cut ↦ ([], x ∷ xs, record { spelled = refl; fit = tt; ends = inr cut })
  | inl front ↦
      let a = front.0 in
      let after = front.1 in
      let begins = front.2 in
      let sizes = ap length begins.spelled ∙ length-append (attribute_octets a) after in
      let rest_are : AreOctets after = subst AreOctets (sym (after_is a after (x ∷ xs) begins)) (AreOctets-drop (length (attribute_octets a)) (x ∷ xs) are) in
      let others = split_below most after (omega arith) rest_are in
      (a ∷ others.0, others.1, before (x ∷ xs) after others.1 others.0 a begins others.2)
]

-- octets are always attributes and a tail
pub some_split : (octets : List ℕ) → AreOctets octets → SomeAttributes octets
some_split octets are = split_below (length octets + 1) octets (omega arith) are

-- after the last item comes no other
last_item : (items : List (Result Attribute WireFault)) (octets after : List ℕ) → octets ≡ []
    → YieldsThen NextAttribute octets items None after → items ≡ []
last_item [] octets after none yields = refl
last_item ((Ok item) ∷ items) octets after none yields =
    let e = sym none ∙ yields.1.1.spelled in absurd cc
last_item ((Err f) ∷ items) octets after none yields = absurd (subst IsCut none yields.1.1.0)

-- what the iterator gives until it ends
pub says_all : (octets tail after : List ℕ) (attributes : List AttributeFields) (items : List (Result Attribute WireFault))
    → AreAttributes octets attributes tail → YieldsThen NextAttribute octets items None after → SaysAll items attributes tail
says_all octets tail after attributes [] are yields =
    nothing_behind octets tail attributes are (yields.1 ∙ yields.2.0)
says_all octets tail after attributes ((Ok item) ∷ items) are yields =
    let next = yields.1.0 in
    let left = behind octets next tail attributes (fields_of item) are yields.1.1 in
    (left.others, left.is, says_all next tail after left.others items left.are (yields.0, yields.1.2, yields.2))
says_all octets tail after attributes ((Err f) ∷ items) are yields =
    let next = yields.1.0 in
    let cut = yields.1.1 in
    let left = cut_behind octets tail attributes are cut.0 in
    (left.0, subst IsCut (sym left.1) cut.0, cut.1, last_item items next after cut.2 (yields.0, yields.1.2, yields.2))
