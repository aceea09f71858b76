-- The values of attributes, one attribute after the other.
use Rattle.std.proofs.Common.{◌≡◌, ◌==◌, ◌||◌, ℕ, List, [], ◌∷◌, ◌++◌, refl, ap, sym, ◌∙◌, cond, Option, Some, None, Result, Ok, Err, Bool, true, false, subst, find}
use Rattle.std.specs.Prelude.{option_copied, is_some}
use Rattle.std.specs.Option.{option_map}
use Rattle.std.proofs.lemmas.Bool.{eqb-true}
use Rattle.bgp_wire.specs.Attributes.{AttributeFields, BeginsWithAttribute, IsCut, NextAttribute, fields_of}
use Rattle.bgp_wire.specs.declared.fault.WireFault.{WireFault}
use Rattle.bgp_wire.specs.declared.attribute.Attribute.{Attribute}
use Rattle.bgp_wire.specs.Faults.{malformed_attributes}
use Rattle.bgp_vpn.specs.declared.found.Found.{Found}
use Rattle.bgp_vpn.specs.Checks.{has_kind, lacking_fault, missing_fault}
use Rattle.bgp_vpn.specs.Values.{value_at}
use Rattle.bgp_vpn.specs.Found.{value_or, IsFound, Adds}

abbrev value_in : Option AttributeFields → Option (List ℕ)
value_in found = option_map (λ (a : AttributeFields). a.value) found

abbrev or_else : Option (List ℕ) → Option (List ℕ) → Option (List ℕ)
or_else None later = later
or_else (Some v) later = Some v

or_none : (o : Option (List ℕ)) → or_else o None ≡ o
or_none None = refl
or_none (Some v) = refl

alone : (b : Bool) (a : AttributeFields) → value_in (cond b (Some a) None) ≡ cond b (Some a.value) None
alone true a = refl
alone false a = refl

later : (b : Bool) (x : AttributeFields) (r s : Option AttributeFields) (o : Option (List ℕ)) → value_in r ≡ or_else (value_in s) o
    → value_in (cond b (Some x) r) ≡ or_else (value_in (cond b (Some x) s)) o
later true x r s o h = refl
later false x r s o h = h

-- the value among attributes and one more
value_more : (kind : ℕ) (others : List AttributeFields) (a : AttributeFields)
    → value_at kind (others ++ a ∷ []) ≡ or_else (value_at kind others) (value_or kind a None)
value_more kind [] a = alone (a.kind == kind) a
value_more kind (x ∷ others) a =
    later (x.kind == kind) x (find (λ y. y.kind == kind) (others ++ a ∷ [])) (find (λ y. y.kind == kind) others) _ (value_more kind others a)

passed_over : (b : Bool) (x : AttributeFields) (kind : ℕ) (others : List AttributeFields) → (b || has_kind others kind) ≡ false
    → (has_kind others kind ≡ false → value_at kind others ≡ None) → value_in (cond b (Some x) (find (λ y. y.kind == kind) others)) ≡ None
passed_over true x kind others h none = absurd cc
passed_over false x kind others h none = none h

-- no value of a type that is not there
no_value : (kind : ℕ) (others : List AttributeFields) → has_kind others kind ≡ false → value_at kind others ≡ None
no_value kind [] h = refl
no_value kind (x ∷ others) h = passed_over (x.kind == kind) x kind others h (no_value kind others)

value_by : (kind : ℕ) (others : List AttributeFields) (a : AttributeFields) (before : Option (List ℕ)) (b : Bool) → (a.kind == kind) ≡ b
    → has_kind others a.kind ≡ false → before ≡ value_at kind others
    → cond b (Some a.value) before ≡ or_else (value_at kind others) (cond b (Some a.value) None)
value_by kind others a before true is once known =
    let same : a.kind ≡ kind = eqb-true a.kind kind is in
    let none = no_value kind others (ap (has_kind others) (sym same) ∙ once) in
    ap (λ (o : Option (List ℕ)). or_else o (Some a.value)) (sym none)
value_by kind others a before false is once known = known ∙ sym (or_none (value_at kind others))

found_one : (kind : ℕ) (others : List AttributeFields) (a : AttributeFields) (before now : Option (List ℕ)) → has_kind others a.kind ≡ false
    → before ≡ value_at kind others → now ≡ value_or kind a before → now ≡ value_at kind (others ++ a ∷ [])
found_one kind others a before now once known is =
    is ∙ value_by kind others a before (a.kind == kind) refl once known ∙ sym (value_more kind others a)

-- what was found among attributes and one more, of a type that was not there
pub found_more : (before now : Found) (others : List AttributeFields) (a : AttributeFields) → IsFound before others → has_kind others a.kind ≡ false
    → Adds before a now → IsFound now (others ++ a ∷ [])
found_more before now others a is once adds = record {
  origin = found_one 1 others a _ _ once is.origin adds.origin;
  as_path = found_one 2 others a _ _ once is.as_path adds.as_path;
  next_hop = found_one 3 others a _ _ once is.next_hop adds.next_hop;
  reach = found_one 14 others a _ _ once is.reach adds.reach;
  unreach = found_one 15 others a _ _ once is.unreach adds.unreach;
  communities = found_one 16 others a _ _ once is.communities adds.communities;
}

-- what is lacking is missing
pub lacking_is : (found : Found) (routes_follow : Bool) (all : List AttributeFields) → IsFound found all
    → lacking_fault routes_follow (is_some (option_copied found.reach)) (is_some (option_copied found.origin))
    (is_some (option_copied found.as_path)) (is_some (option_copied found.next_hop)) ≡ missing_fault routes_follow all
lacking_is found routes_follow all is =
    let reach = ap is_some is.reach in
    let origin = ap is_some is.origin in
    let as_path = ap is_some is.as_path in
    let next_hop = ap is_some is.next_hop in
    ap (λ (b : Bool). lacking_fault routes_follow b (is_some (option_copied found.origin)) (is_some (option_copied found.as_path)) (is_some (option_copied found.next_hop))) reach
    ∙ ap (λ (b : Bool). lacking_fault routes_follow (is_some (value_at 14 all)) b (is_some (option_copied found.as_path)) (is_some (option_copied found.next_hop))) origin
    ∙ ap (λ (b : Bool). lacking_fault routes_follow (is_some (value_at 14 all)) (is_some (value_at 1 all)) b (is_some (option_copied found.next_hop))) as_path
    ∙ ap (lacking_fault routes_follow (is_some (value_at 14 all)) (is_some (value_at 1 all)) (is_some (value_at 2 all))) next_hop

-- what the iterator gave
pub is_attribute : (rest after : List ℕ) (item : Result Attribute WireFault) (a : Attribute) → NextAttribute rest (Some item) after → item ≡ Ok a
    → BeginsWithAttribute rest (fields_of a) after
is_attribute rest after item a next is = subst (λ (i : Result Attribute WireFault). NextAttribute rest (Some i) after) is next

pub is_cut : (rest after : List ℕ) (item : Result Attribute WireFault) (f : WireFault) → NextAttribute rest (Some item) after → item ≡ Err f
    → IsCut rest × (f ≡ malformed_attributes) × (after ≡ [])
is_cut rest after item f next is = subst (λ (i : Result Attribute WireFault). NextAttribute rest (Some i) after) is next
