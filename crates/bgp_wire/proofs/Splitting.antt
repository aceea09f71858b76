-- Octets left whole parts and what stands after them.
use Rattle.std.proofs.Common.{◌≡◌, ◌≢◌, ◌<◌, ℕ, zero, suc, List, [], ◌∷◌, ◌++◌, length, take, drop, refl, ap, sym, ◌∙◌, arith, subst, inl, inr, ◌⊎◌}
use Rattle.std.specs.List.{flat_map, AllByRecursion}
use Rattle.std.proofs.lemmas.List.{append_assoc, append-nil, length-append, take-append-drop, length-take-le}
use Rattle.std.proofs.lemmas.Bool.{cases_lt}
use Rattle.bgp_wire.specs.Parts.{Part, octets_of, IsOverrun, BeginsWithPart, PartsThen, AreParts}

-- so far all parts are good, and these octets are left
abbrev pub Leaves : (Part → Type 0) → List ℕ → List ℕ → Type 0
Leaves P octets rest = PartsThen P (λ left. left ≡ rest) octets

-- nothing is read yet
pub leaves_all : (P : Part → Type 0) (octets : List ℕ) → Leaves P octets octets
leaves_all P octets = record { parts = []; each = tt; rest = octets; spelled = refl; ends = refl }

all_and_one : (P : Part → Type 0) (ps : List Part) (p : Part) → AllByRecursion P ps → P p → AllByRecursion P (ps ++ p ∷ [])
all_and_one P [] p h hp = (hp, tt)
all_and_one P (q ∷ ps) p h hp = (h.0, all_and_one P ps p h.1 hp)

spelled_and_one : (ps : List Part) (p : Part) (after : List ℕ)
    → flat_map octets_of ps ++ (octets_of p ++ after) ≡ flat_map octets_of (ps ++ p ∷ []) ++ after
spelled_and_one [] p after = ap (λ (r : List ℕ). r ++ after) (sym (append-nil (octets_of p)))
spelled_and_one (q ∷ ps) p after =
    append_assoc (octets_of q) (flat_map octets_of ps) (octets_of p ++ after)
    ∙ ap (λ (r : List ℕ). octets_of q ++ r) (spelled_and_one ps p after)
    ∙ sym (append_assoc (octets_of q) (flat_map octets_of (ps ++ p ∷ [])) after)

-- one part more
pub leaves_less : (P : Part → Type 0) (octets rest after : List ℕ) (p : Part)
    → Leaves P octets rest → P p → rest ≡ octets_of p ++ after → Leaves P octets after
leaves_less P octets rest after p so_far holds front = record {
  parts = so_far.parts ++ p ∷ [];
  each = all_and_one P so_far.parts p so_far.each holds;
  rest = after;
  spelled =
      so_far.spelled ∙ ap (λ (r : List ℕ). flat_map octets_of so_far.parts ++ r) (so_far.ends ∙ front)
      ∙ spelled_and_one so_far.parts p after;
  ends = refl;
}

-- the octets end so
pub leaves_end : (P : Part → Type 0) (Q : List ℕ → Type 0) (octets rest : List ℕ)
    → Leaves P octets rest → Q rest → PartsThen P Q octets
leaves_end P Q octets rest so_far ends = record {
  parts = so_far.parts;
  each = so_far.each;
  rest = so_far.rest;
  spelled = so_far.spelled;
  ends = subst Q (sym so_far.ends) ends;
}

-- no part of which P holds stands at the front
abbrev pub HasNoPart : (Part → Type 0) → List ℕ → Type 0
HasNoPart P rest = BeginsWithPart P rest → ⊥

pub same_front : (xs ys left right : List ℕ) → length xs ≡ length ys → xs ++ left ≡ ys ++ right → (xs ≡ ys) × (left ≡ right)
same_front [] [] left right len h = (refl, h)
same_front [] (y ∷ ys) left right len h = absurd (omega arith)
same_front (x ∷ xs) [] left right len h = absurd (omega arith)
same_front (x ∷ xs) (y ∷ ys) left right len h =
    let tails : xs ++ left ≡ ys ++ right = cc in
    let heads : x ≡ y = cc in
    let rest = same_front xs ys left right (omega arith) tails in
    let same : xs ≡ ys = rest.0 in
    (cc, rest.1)

abbrev part_of : ℕ → List ℕ → Part
part_of kind value = record { kind = kind; value = value }

-- a part says where it ends
pub same_part : (p q : Part) (left right : List ℕ) → octets_of p ++ left ≡ octets_of q ++ right → (p ≡ q) × (left ≡ right)
same_part p q left right h =
    let kinds : p.kind ≡ q.kind = cc in
    let lengths : length p.value ≡ length q.value = cc in
    let tails : p.value ++ left ≡ q.value ++ right = cc in
    let values = same_front p.value q.value left right lengths tails in
    (ap (λ (k : ℕ). part_of k p.value) kinds ∙ ap (part_of q.kind) values.0, values.1)

-- octets are parts in one way only
same_rest_of : (P : Part → Type 0) (ps qs : List Part) (left right : List ℕ) → AllByRecursion P ps → AllByRecursion P qs
    → flat_map octets_of ps ++ left ≡ flat_map octets_of qs ++ right → HasNoPart P left → HasNoPart P right → left ≡ right
same_rest_of P [] [] left right hp hq h na nb = h
same_rest_of P [] (q ∷ qs) left right hp hq h na nb =
    absurd (na (record { first = q; after = flat_map octets_of qs ++ right; spelled = h ∙ append_assoc (octets_of q) (flat_map octets_of qs) right; holds = hq.0 }))
same_rest_of P (p ∷ ps) [] left right hp hq h na nb =
    absurd (nb (record { first = p; after = flat_map octets_of ps ++ left; spelled = sym h ∙ append_assoc (octets_of p) (flat_map octets_of ps) left; holds = hp.0 }))
same_rest_of P (p ∷ ps) (q ∷ qs) left right hp hq h na nb =
    let both : octets_of p ++ (flat_map octets_of ps ++ left) ≡ octets_of q ++ (flat_map octets_of qs ++ right) =
    sym (append_assoc (octets_of p) (flat_map octets_of ps) left) ∙ h ∙ append_assoc (octets_of q) (flat_map octets_of qs) right in
    let tails = same_part p q (flat_map octets_of ps ++ left) (flat_map octets_of qs ++ right) both in
    same_rest_of P ps qs left right hp.1 hq.1 tails.1 na nb

pub same_rest : (P : Part → Type 0) (Q R : List ℕ → Type 0) (octets : List ℕ)
    → ((rest : List ℕ) → Q rest → HasNoPart P rest) → ((rest : List ℕ) → R rest → HasNoPart P rest)
    → (a : PartsThen P Q octets) (b : PartsThen P R octets) → a.rest ≡ b.rest
same_rest P Q R octets nq nr a b =
    same_rest_of P a.parts b.parts a.rest b.rest a.each b.each (sym a.spelled ∙ b.spelled) (nq a.rest a.ends) (nr b.rest b.ends)

pub nil_has_none : (P : Part → Type 0) (rest : List ℕ) → rest ≡ [] → HasNoPart P rest
nil_has_none P rest h begins = let e = sym h ∙ begins.spelled in cc

-- what overruns begins with no whole part
pub overrun_has_none : (P : Part → Type 0) (rest : List ℕ) → IsOverrun rest → HasNoPart P rest
overrun_has_none P [] h begins = h
overrun_has_none P (kind ∷ []) h begins = let e = begins.spelled in cc
overrun_has_none P (kind ∷ len ∷ rest) h begins =
    let lens : len ≡ length begins.first.value = let e = begins.spelled in cc in
    let tails : rest ≡ begins.first.value ++ begins.after = let e = begins.spelled in cc in
    let sizes = ap length tails ∙ length-append begins.first.value begins.after in
    absurd (omega arith)

-- what holds a part whole begins with one, and else overruns
pub part_or_overrun : (rest : List ℕ) → rest ≢ [] → BeginsWithPart (λ _. Unit {0}) rest ⊎ IsOverrun rest
part_or_overrun [] h = absurd (h refl)
part_or_overrun (kind ∷ []) h = inr tt
part_or_overrun (kind ∷ len ∷ rest) h = elim (cases_lt (length rest) len) [
  | inl short ↦ inr short
  | inr enough ↦
      let sized : length (take len rest) ≡ len = length-take-le len rest enough in
      inl (record {
        first = record { kind = kind; value = take len rest };
        after = drop len rest;
        spelled =
            ap (λ (r : List ℕ). kind ∷ len ∷ r) (sym (take-append-drop len rest))
            ∙ ap (λ (n : ℕ). kind ∷ n ∷ (take len rest ++ drop len rest)) (sym sized);
        holds = tt;
      })
]

-- a part in front of parts
more_parts : (P : Part → Type 0) (Q : List ℕ → Type 0) (octets : List ℕ) (begins : BeginsWithPart P octets)
    → PartsThen P Q begins.after → PartsThen P Q octets
more_parts P Q octets begins others = record {
  parts = begins.first ∷ others.parts;
  each = (begins.holds, others.each);
  rest = others.rest;
  spelled =
      begins.spelled ∙ ap (λ (r : List ℕ). octets_of begins.first ++ r) others.spelled
      ∙ sym (append_assoc (octets_of begins.first) (flat_map octets_of others.parts) others.rest);
  ends = others.ends;
}

with_front : (P : Part → Type 0) (Q : List ℕ → Type 0) (octets : List ℕ) (begins : BeginsWithPart P octets)
    → AreParts P begins.after ⊎ PartsThen P Q begins.after → AreParts P octets ⊎ PartsThen P Q octets
with_front P Q octets begins (inl whole) = inl (more_parts P (λ rest. rest ≡ []) octets begins whole)
with_front P Q octets begins (inr ends) = inr (more_parts P Q octets begins ends)

-- where each front is a good part or an end, all octets are good parts, or good parts and then an end
pub parts_or_end : (P : Part → Type 0) (Q : List ℕ → Type 0) → ((rest : List ℕ) → rest ≢ [] → BeginsWithPart P rest ⊎ Q rest)
    → (most : ℕ) (octets : List ℕ) → length octets < most → AreParts P octets ⊎ PartsThen P Q octets
parts_or_end P Q front zero octets h = absurd (omega arith)
parts_or_end P Q front (suc most) [] h = inl (leaves_all P [])
parts_or_end P Q front (suc most) (x ∷ xs) h = elim (front (x ∷ xs) (λ e. cc)) [
  | inr ends ↦ inr (leaves_end P Q (x ∷ xs) (x ∷ xs) (leaves_all P (x ∷ xs)) ends)
  | inl begins ↦
      let sizes = ap length begins.spelled ∙ length-append (octets_of begins.first) begins.after in
      with_front P Q (x ∷ xs) begins (parts_or_end P Q front most begins.after (omega arith))
]
